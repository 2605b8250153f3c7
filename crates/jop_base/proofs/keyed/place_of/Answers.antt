use Rattle.std.proofs.Common.{◌≡◌, ◌∙◌, ap, sym, subst, All, true, false}
use Rattle.std.specs.Ordering.{is_eq}
use Rattle.std.proofs.lemmas.List.{take_all}
use Rattle.std.proofs.lemmas.List.Elements.{All-more}
use Rattle.jop_base.proofs.PlaceLaws.{Differs, order, same_key, differs, IsFirstPlaceOf-here, IsLacking-all}
use Rattle.jop_base.proofs.keyed.place_of.Goals as goal

pub returns-then-is_eq-clause-some : goal.returns-then-is_eq-clause-some
returns-then-is_eq-clause-some g c =
    let key = g.T.Keyed.key in
    let k = g.T.Key.Key.text c.args.key.now in
    let item = c.index-items-place.result in
    let is : is_eq (order key k item) ≡ true =
    sym (ap is_eq c.compare.ensures) ∙ (sym c.is_eq.ensures ∙ c.if-is_eq.true) in
    IsFirstPlaceOf-here key c.args.items.now k c.loop-place.place item c.loop-place-test.true
    c.loop-place.invariant (sym (ap key c.index-items-place.is) ∙ same_key key k item is)

pub loop-place-preserved : goal.loop-place-preserved
loop-place-preserved g c =
    let key = g.T.Keyed.key in
    let k = g.T.Key.Key.text c.args.key.now in
    let item = c.index-items-place.result in
    let is : is_eq (order key k item) ≡ false =
    sym (ap is_eq c.compare.ensures) ∙ (sym c.is_eq.ensures ∙ c.if-is_eq.false) in
    All-more (Differs key k) c.args.items.now c.loop-place.place item c.loop-place-test.true
    c.loop-place.invariant
    (subst (Differs key k) c.index-items-place.is (differs key k item is))

pub returns-clause-none : goal.returns-clause-none
returns-clause-none g c =
    let key = g.T.Keyed.key in
    let k = g.T.Key.Key.text c.args.key.now in
    let items = c.args.items.now in
    let whole = take_all c.loop-place.place items c.loop-place-test.false in
    IsLacking-all key items k (subst (All (Differs key k)) whole c.loop-place.invariant)
