-- What a head tells, by what its fields were found to be.
use Rattle.std.proofs.Common.{◌≡◌, ℕ, ◌<◌, ◌≤◌, List, [], ◌∷◌, Bool, Option, None, length, sym, ap, ◌∙◌, arith}
use Rattle.std.specs.Prelude.{◌||◌, not, codes, nat_lt}
use Rattle.std.proofs.lemmas.Bool.{cond-true, cond-false, or_left, or_right, or_from, lt-ltb, le-ltb}
use Rattle.jop_target.specs.declared.call.Call.{Call}
use Rattle.dav_wire.specs.declared.frame.Frame.{Frame}
use Rattle.dav_wire.specs.declared.frame.Frame.TheVariants.{Unreadable}
use Rattle.dav_parts.specs.declared.field.FieldValue.{FieldValue}
use Rattle.dav_parts.specs.declared.field.FieldValue.TheVariants.{Absent, Single, Repeated}
use Rattle.dav_parts.specs.Fields.{Fields, values_of, AreValues}
use Rattle.dav_wire.specs.Requests.{is_none}
use Rattle.dav_wire.specs.ResponseFrames.{now_of, outcome_of, body_count, frame_from, frame_of}
use Rattle.dav_wire.proofs.FramingLemmas.{not_none}
use Rattle.dav_parts.proofs.FieldLemmas.{some_found}

abbrev tells : Call → ℕ → Fields → Frame
tells call status fields = frame_from (now_of (values_of (codes "date") fields))
    (outcome_of call status) (body_count status fields)

abbrev coded : Fields → Bool
coded fields = not (is_none (values_of (codes "transfer-encoding") fields))

module _ (call : Call) (status : ℕ) (fields : Fields) where
  pub frame_crowded : 128 < length fields → Unreadable ≡ frame_of call status fields
  unfolding frame_of
  frame_crowded h = sym (cond-true (nat_lt 128 (length fields) || coded fields) Unreadable
      (tells call status fields) (or_left _ _ (lt-ltb 128 (length fields) h)))

  pub frame_coded : (found : FieldValue)
      → AreValues found (values_of (codes "transfer-encoding") fields) → (found ≡ Absent → ⊥)
      → Unreadable ≡ frame_of call status fields
  unfolding frame_of
  frame_coded found h some = sym (cond-true (nat_lt 128 (length fields) || coded fields) Unreadable
      (tells call status fields) (or_right _ _ (not_none _ (some_found found _ h some))))

  pub frame_plain : length fields ≤ 128 → values_of (codes "transfer-encoding") fields ≡ []
      → tells call status fields ≡ frame_of call status fields
  unfolding frame_of
  frame_plain h none = sym (cond-false (nat_lt 128 (length fields) || coded fields) Unreadable
      (tells call status fields) (or_from _ _ (le-ltb 128 (length fields) h)
      (ap (λ (vs : List (List ℕ)). not (is_none vs)) none)))

-- one value is read, and no other number of values
pub read_one : (read : List (List ℕ) → Option ℕ) (found : FieldValue) (vs : List (List ℕ))
    → read [] ≡ None → ((v w : List ℕ) (ws : List (List ℕ)) → read (v ∷ w ∷ ws) ≡ None)
    → AreValues found vs → ((value : _) → found ≡ Single value → ⊥) → None ≡ read vs
read_one read Absent vs none many h not = sym (ap read h ∙ none)
read_one read (Single value) vs none many h not = absurd (not value (λ i. Single value))
read_one read Repeated [] none many h not = sym none
read_one read Repeated (v ∷ []) none many h not = absurd (omega arith)
read_one read Repeated (v ∷ w ∷ ws) none many h not = sym (many v w ws)
