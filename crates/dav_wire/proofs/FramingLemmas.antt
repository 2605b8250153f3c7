-- What a head says of its length, by what its fields were found to be.
use Rattle.std.proofs.Common.{◌≡◌, ℕ, ◌-◌, ◌<◌, ◌≤◌, List, [], ◌∷◌, Bool, true, cond, Option, length, refl, sym, ap, ◌∙◌, arith}
use Rattle.std.specs.Prelude.{◌^◌, ◌||◌, not, codes, nat_lt}
use Rattle.std.proofs.lemmas.Bool.{cond-true, cond-false, or_left, or_right, or_from, lt-ltb, le-ltb}
use Rattle.dav_wire.specs.declared.framing.Framing.{Framing}
use Rattle.dav_wire.specs.declared.framing.Framing.TheVariants.{Refused, Body}
use Rattle.dav_parts.specs.declared.field.FieldValue.{FieldValue}
use Rattle.dav_parts.specs.declared.field.FieldValue.TheVariants.{Absent}
use Rattle.dav_parts.specs.Fields.{Fields, values_of, AreValues}
use Rattle.jop_base.specs.Decimals.{decimal_in}
use Rattle.dav_parts.specs.Targets.{put_limit}
use Rattle.dav_wire.specs.Requests.{is_put, is_none, framing_of_number, framing_of_lengths, framing_of}
use Rattle.dav_parts.proofs.FieldLemmas.{some_found}

pub not_none : (vs : List (List ℕ)) → 1 ≤ length vs → not (is_none vs) ≡ true
not_none [] h = absurd (omega arith)
not_none (v ∷ vs) h = refl

abbrev asks : List ℕ → List ℕ → Fields → Framing
asks method target fields = framing_of_lengths (is_put method) (put_limit target)
    (values_of (codes "content-length") fields)

abbrev coded : Fields → Bool
coded fields = not (is_none (values_of (codes "transfer-encoding") fields))

module _ (method target : List ℕ) (fields : Fields) where
  pub framing_crowded : 128 < length fields → Refused 400 ≡ framing_of method target fields
  unfolding framing_of
  framing_crowded h = sym (cond-true (nat_lt 128 (length fields) || coded fields) (Refused 400)
      (asks method target fields) (or_left _ _ (lt-ltb 128 (length fields) h)))

  pub framing_coded : (found : FieldValue)
      → AreValues found (values_of (codes "transfer-encoding") fields) → (found ≡ Absent → ⊥)
      → Refused 400 ≡ framing_of method target fields
  unfolding framing_of
  framing_coded found h some = sym (cond-true (nat_lt 128 (length fields) || coded fields)
      (Refused 400) (asks method target fields)
      (or_right _ _ (not_none _ (some_found found _ h some))))

  pub framing_plain : length fields ≤ 128 → values_of (codes "transfer-encoding") fields ≡ []
      → asks method target fields ≡ framing_of method target fields
  unfolding framing_of
  framing_plain h none = sym (cond-false (nat_lt 128 (length fields) || coded fields) (Refused 400)
      (asks method target fields) (or_from _ _ (le-ltb 128 (length fields) h)
      (ap (λ (vs : List (List ℕ)). not (is_none vs)) none)))

pub lengths_none : (puts : Bool) (limit : ℕ) (vs : List (List ℕ)) → vs ≡ []
    → framing_of_lengths puts limit vs ≡ cond puts (Refused 400) (Body 0)
lengths_none puts limit vs e = ap (framing_of_lengths puts limit) e

pub lengths_one : (puts : Bool) (limit given : ℕ) (vs : List (List ℕ)) (value : List ℕ)
    (number : Option ℕ) → vs ≡ value ∷ [] → number ≡ decimal_in value
    → given ≡ cond puts limit (2 ^ 64 - 1) → framing_of_number given number
    ≡ framing_of_lengths puts limit vs
lengths_one puts limit given vs value number e is given-is =
    ap (λ (n : Option ℕ). framing_of_number given n) is
    ∙ ap (λ (l : ℕ). framing_of_number l (decimal_in value)) given-is
    ∙ sym (ap (framing_of_lengths puts limit) e)

pub lengths_many : (puts : Bool) (limit : ℕ) (vs : List (List ℕ)) → 2 ≤ length vs
    → framing_of_lengths puts limit vs ≡ Refused 400
lengths_many puts limit [] h = absurd (omega arith)
lengths_many puts limit (v ∷ []) h = absurd (omega arith)
lengths_many puts limit (v ∷ w ∷ vs) h = refl
