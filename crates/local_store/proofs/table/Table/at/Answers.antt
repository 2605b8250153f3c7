use Rattle.std.proofs.Common.{subst, arith, sym}
use Rattle.jop_base.specs.Keyed.{IsSorted}
use Rattle.local_store.proofs.Places.{at-place, at-gap}
use Rattle.local_store.proofs.table.Table.at.Goals as goal

pub returns-in-Ok : goal.returns-in-Ok
returns-in-Ok g c =
    let key = g.T.Keyed.key in
    let sorted = subst (λ xs. IsSorted key xs) c.self.view_is c.self.invariant in
    let stands = at-place key _ _ _ c.index.result.now sorted c.in-Ok.ensures.found in
    grind (arith, stands, c.self.view_is)

pub returns-in-Err : goal.returns-in-Err
returns-in-Err g c = sym (at-gap g.T.Keyed.key _ _ _ c.in-Err.ensures.absent)
