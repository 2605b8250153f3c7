use Rattle.std.proofs.Common.{ℕ, List, refl, sym, subst}
use Rattle.std.specs.Prelude.{codes}
use Rattle.item_text.specs.Lines.{trimmed}
use Rattle.item_text.specs.Valid.{IsField, IsProp}
use Rattle.test_store.proofs.texts.set_pairs.Goals as goal

pub set_prop-requires : goal.set_prop-requires
unfolding trimmed
set_prop-requires c =
    let P : List ℕ → Type 0 = λ value. IsProp (record { key = codes "key"; value = value }) in
    let key : IsField (codes "key") = record { one_line = refl; is_trimmed = refl } in
    let value : IsField (codes "3") = record { one_line = refl; is_trimmed = refl } in
    subst P (sym c.in_ok-of.ensures) (record { key = key; no_colon = refl; value = value })

pub set_prop-requires-2 : goal.set_prop-requires-2
unfolding trimmed
set_prop-requires-2 c =
    let P : List ℕ → Type 0 = λ value. IsProp (record { key = codes "new"; value = value }) in
    let key : IsField (codes "new") = record { one_line = refl; is_trimmed = refl } in
    let value : IsField (codes "") = record { one_line = refl; is_trimmed = refl } in
    subst P (sym c.in_ok-of-2.ensures) (record { key = key; no_colon = refl; value = value })
