-- Where a test passes first, and whether it passes anywhere.
use Rattle.std.proofs.Common.{◌≡◌, ◌+◌, ◌<◌, Bool, true, false, not, List, [], ◌∷◌, length, refl, arith, inl, inr}
use Rattle.std.specs.List.{list_any, position_or_len}
use Rattle.std.proofs.lemmas.Bool.{cases_Bool, cond-true, cond-false, or_from, or_left, or_right, not_from_true, not_from_false}

pub none_from_position : {X : Type 0} (p : X → Bool) (xs : List X)
    → position_or_len p xs ≡ length xs → list_any p xs ≡ false
none_from_position p [] e = refl
none_from_position p (x ∷ xs) e =
    elim (cases_Bool (p x)) [
      | inl hit ↦ absurd
          (omega (
            arith,
            cond-false (not (p x)) (1 + position_or_len p xs) 0 (not_from_true (p x) hit),
          ))
      | inr miss ↦
          let more = cond-true (not (p x)) (1 + position_or_len p xs) 0
          (not_from_false (p x) miss) in
          or_from (p x) (list_any p xs) miss (none_from_position p xs (omega arith))
    ]

pub some_from_position : {X : Type 0} (p : X → Bool) (xs : List X)
    → position_or_len p xs < length xs → list_any p xs ≡ true
some_from_position p [] lt = absurd (omega arith)
some_from_position p (x ∷ xs) lt =
    elim (cases_Bool (p x)) [
      | inl hit ↦ or_left (p x) (list_any p xs) hit
      | inr miss ↦
          let more = cond-true (not (p x)) (1 + position_or_len p xs) 0
          (not_from_false (p x) miss) in
          or_right (p x) (list_any p xs) (some_from_position p xs (omega arith))
    ]
