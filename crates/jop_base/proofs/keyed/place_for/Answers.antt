use Rattle.std.proofs.Common.{◌≡◌, ◌∙◌, ap, sym, subst, All}
use Rattle.std.proofs.lemmas.List.{take_all}
use Rattle.std.specs.declared.cmp.Ordering.TheVariants.{Less, Equal}
use Rattle.jop_base.proofs.PlaceLaws.{Precedes, order, Replaces-here, GoesBefore-here, GoesBefore-all}
use Rattle.jop_base.proofs.keyed.place_for.Goals as goal

pub returns-in-Less-clause-err : goal.returns-in-Less-clause-err
returns-in-Less-clause-err g c =
    let key = g.T.Keyed.key in
    let k = g.T.Key.Key.text c.args.key.now in
    let item = c.index-items-place.result in
    let is : order key k item ≡ Less = sym c.compare.ensures ∙ c.in-Less.is in
    GoesBefore-here key c.args.items.now k c.loop-place.place item c.loop-place-test.true
    c.loop-place.invariant (sym (ap (order key k) c.index-items-place.is) ∙ is)

pub returns-in-Equal-clause-ok : goal.returns-in-Equal-clause-ok
returns-in-Equal-clause-ok g c =
    let key = g.T.Keyed.key in
    let k = g.T.Key.Key.text c.args.key.now in
    let item = c.index-items-place.result in
    let is : order key k item ≡ Equal = sym c.compare.ensures ∙ c.in-Equal.is in
    Replaces-here key c.args.items.now k c.loop-place.place item c.loop-place-test.true
    c.loop-place.invariant (sym (ap (order key k) c.index-items-place.is) ∙ is)

pub returns-clause-err : goal.returns-clause-err
returns-clause-err g c =
    let key = g.T.Keyed.key in
    let k = g.T.Key.Key.text c.args.key.now in
    let items = c.args.items.now in
    let whole = take_all c.loop-place.place items c.loop-place-test.false in
    GoesBefore-all key items k (subst (All (Precedes key k)) whole c.loop-place.invariant)
