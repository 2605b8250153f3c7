use Rattle.std.proofs.Common.{subst, sym}
use Rattle.jop_base.specs.Keyed.{IsSorted}
use Rattle.local_store.specs.Places.{IsPlaceOf, IsGapFor}
use Rattle.local_store.proofs.Places.{put-place, put-gap, IsSorted-set, IsSorted-insert}
use Rattle.local_store.proofs.table.Table.put.Goals as goal

-- an item of this key is there, and is replaced
pub invariant_of-self : goal.invariant_of-self
invariant_of-self g c =
    let key = g.T.Keyed.key in
    let place : IsPlaceOf key c.self.inside.items.items (key c.args.item) c.in-Ok.place =
    rw (c.self.view_is, ← c.key.ensures) c.in-Ok.ensures.found in
    IsSorted-set key c.self.inside.items.items c.args.item c.in-Ok.place c.self.invariant place

pub returns-in-Ok-clause-ok : goal.returns-in-Ok-clause-ok
returns-in-Ok-clause-ok g c =
    let key = g.T.Keyed.key in
    let place : IsPlaceOf key c.self.inside.items.items (key c.args.item) c.in-Ok.place =
    rw (c.self.view_is, ← c.key.ensures) c.in-Ok.ensures.found in
    rw (← c.self.view_is)
    (sym (put-place key c.self.inside.items.items c.args.item c.in-Ok.place c.self.invariant place))

-- no item of this key is there, and the item is added
pub invariant_of-self-in-Err : goal.invariant_of-self-in-Err
invariant_of-self-in-Err g c =
    let key = g.T.Keyed.key in
    let gap : IsGapFor key c.self.inside.items.items (key c.args.item) c.in-Err.place =
    rw (c.self.view_is, ← c.key.ensures) c.in-Err.ensures.absent in
    let sorted = IsSorted-insert key c.self.inside.items.items c.args.item c.in-Err.place c.self.invariant gap in
    subst (λ xs. IsSorted key xs) (sym c.in_ok-insert-in-Err.ensures.items) sorted

pub returns-clause-ok : goal.returns-clause-ok
returns-clause-ok g c =
    let key = g.T.Keyed.key in
    let gap : IsGapFor key c.args.self.now (key c.args.item) c.in-Err.place =
    rw (← c.key.ensures) c.in-Err.ensures.absent in
    rw (c.in_ok-insert-in-Err.ensures.items, c.self.view_is)
    (sym (put-gap key c.args.self.now c.args.item c.in-Err.place gap))
