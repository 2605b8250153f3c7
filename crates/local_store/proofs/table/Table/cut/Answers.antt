use Rattle.std.proofs.Common.{subst, arith, sym}
use Rattle.jop_base.specs.Keyed.{IsSorted}
use Rattle.local_store.specs.Places.{IsPlaceOf}
use Rattle.local_store.proofs.Places.{at-place, at-gap, cut-place, cut-none, IsSorted-remove}
use Rattle.local_store.proofs.table.Table.cut.Goals as goal

-- the item of the key is taken out
pub invariant_of-self : goal.invariant_of-self
invariant_of-self g c =
    let key = g.T.Keyed.key in
    let k = g.T.Key.Key.text c.args.key.now in
    let place : IsPlaceOf key c.self.inside.items.items k c.in-Ok.place =
    rw c.self.view_is c.in-Ok.ensures.found in
    let sorted = IsSorted-remove key c.self.inside.items.items k c.in-Ok.place c.self.invariant place in
    subst (λ xs. IsSorted key xs) (sym c.remove.ensures.items) sorted

pub returns-in-Ok-clause-item : goal.returns-in-Ok-clause-item
returns-in-Ok-clause-item g c =
    let key = g.T.Keyed.key in
    let sorted = subst (λ xs. IsSorted key xs) c.self.view_is c.self.invariant in
    let stands = at-place key _ _ _ c.remove.result sorted c.in-Ok.ensures.found in
    grind (arith, stands, c.self.view_is)

pub returns-in-Ok-clause-rest : goal.returns-in-Ok-clause-rest
returns-in-Ok-clause-rest g c =
    let key = g.T.Keyed.key in
    let sorted = subst (λ xs. IsSorted key xs) c.self.view_is c.self.invariant in
    rw (c.remove.ensures.items, c.self.view_is)
    (sym (cut-place key _ _ _ sorted c.in-Ok.ensures.found))

-- no item has the key
pub returns-in-Err-clause-item : goal.returns-in-Err-clause-item
returns-in-Err-clause-item g c = sym (at-gap g.T.Keyed.key _ _ _ c.in-Err.ensures.absent)

pub returns-in-Err-clause-rest : goal.returns-in-Err-clause-rest
returns-in-Err-clause-rest g c =
    let key = g.T.Keyed.key in
    sym (cut-none key _ _ (at-gap key _ _ _ c.in-Err.ensures.absent))
