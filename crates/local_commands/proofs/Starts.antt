-- The first digits of an id, and the rows whose ids begin so.
use Rattle.std.specs.Prelude.{ℕ, zero, suc, ◌-◌, ◌≡◌, ◌<◌, ◌≤◌, List, [], ◌∷◌, ◌++◌, length, replicate, take, nat_eq, nat_le, Bool, true, false, ◌&&◌, if◌then◌else◌, Some, None, option_map, Ok, Err, refl}
use Rattle.std.proofs.Common.{◌∙◌, ap, arith, sym, length-append}
use Rattle.std.proofs.lemmas.Bool.{and_from, and_parts, eq-eqb, le-leb, lt-leb}
use Rattle.std.proofs.lemmas.List.{length-replicate, take-append-le, take_all}
use Rattle.std.specs.List.{list_all}
use Rattle.jop_base.proofs.IdLaws.{IsIdText-from_is_id, is_id-from_IsIdText}
use Rattle.jop_base.specs.Id.{IsIdText, is_digit, is_id}
use Rattle.local_store.specs.declared.row.Row.{Row}
use Rattle.local_commands.specs.IdStarts.{IsPadded, with_zeros}
use Rattle.local_commands.specs.declared.typed_id.TypedId.TheVariants.{Whole, Start}
use Rattle.local_commands.specs.TypedIds.{id_of_first, only_id, start_in, typed_id}

-- ---- digits, and zeros behind them

pub take_padded : (text : List ℕ) → take (length text) (with_zeros text) ≡ text
take_padded text =
    take-append-le (length text) text (replicate (32 - length text) 48) (omega arith)
    ∙ take_all (length text) text (omega arith)

pub is_padded : (text : List ℕ) → IsPadded (with_zeros text) (length text)
is_padded text = record {
  zeros = ap with_zeros (take_padded text);
  long = ap length (take_padded text);
}

pub length-with_zeros : (text : List ℕ) → length text ≤ 32 → length (with_zeros text) ≡ 32
length-with_zeros text fits =
    omega (
      arith,
      length-append text (replicate (32 - length text) 48),
      length-replicate {A = ℕ} (32 - length text) 48,
      fits,
    )

all_zeros : (n : ℕ) → list_all is_digit (replicate n 48) ≡ true
all_zeros zero = refl
all_zeros (suc n) = all_zeros n

all_behind : (text zeros : List ℕ) → list_all is_digit zeros ≡ true
    → list_all is_digit (text ++ zeros) ≡ list_all is_digit text
all_behind [] zeros are = are
all_behind (d ∷ text) zeros are = ap (λ (b : Bool). is_digit d && b) (all_behind text zeros are)

-- zeros change nothing of whether all are digits
pub all_padded : (text : List ℕ) → list_all is_digit (with_zeros text) ≡ list_all is_digit text
all_padded text =
    all_behind text (replicate (32 - length text) 48) (all_zeros (32 - length text))

-- ---- what a text types

digits_padded : (text : List ℕ) → IsIdText (with_zeros text) → list_all is_digit text ≡ true
digits_padded text id =
    let parts = and_parts (nat_eq (length (with_zeros text)) 32) (list_all is_digit (with_zeros text))
    (is_id-from_IsIdText (with_zeros text) id) in
    sym (all_padded text) ∙ parts.1

id_padded : (text : List ℕ) → length text ≤ 32 → list_all is_digit text ≡ true
    → IsIdText (with_zeros text)
id_padded text fits digits =
    IsIdText-from_is_id (with_zeros text)
    (and_from (nat_eq (length (with_zeros text)) 32) (list_all is_digit (with_zeros text))
    (eq-eqb (length (with_zeros text)) 32 (length-with_zeros text fits)) (all_padded text ∙ digits))

pub start_short : (text : List ℕ) → length text < 4 → start_in text ≡ None
start_short text short = rw (lt-leb 4 (length text) short) refl

pub start_long : (text : List ℕ) → 31 < length text → start_in text ≡ None
start_long text long = by (nat_le 4 (length text)) where
  by : (b : Bool) → (if b && nat_le (length text) 31 && list_all is_digit text then Some text else None) ≡ None
  by true = rw (lt-leb (length text) 31 long) refl
  by false = refl

pub start_of_id : (text : List ℕ) → 4 ≤ length text → length text ≤ 31 → IsIdText (with_zeros text)
    → start_in text ≡ Some text
start_of_id text low high id =
    rw (le-leb 4 (length text) low, le-leb (length text) 31 high, digits_padded text id) refl

pub start_of_other : (text : List ℕ) → 4 ≤ length text → length text ≤ 31
    → ¬ IsIdText (with_zeros text) → start_in text ≡ None
start_of_other text low high none = by (list_all is_digit text) refl where
  by : (b : Bool) → list_all is_digit text ≡ b → start_in text ≡ None
  by true are = absurd (none (id_padded text (omega (arith, high)) are))
  by false are = rw (le-leb 4 (length text) low, le-leb (length text) 31 high, are) refl

pub typed_whole : (text : List ℕ) → IsIdText text → typed_id text ≡ Some (Whole text)
typed_whole text id = rw (is_id-from_IsIdText text id) refl

pub typed_other : (text : List ℕ) → ¬ IsIdText text → typed_id text ≡ option_map Start (start_in text)
typed_other text none = by (is_id text) refl where
  by : (b : Bool) → is_id text ≡ b → typed_id text ≡ option_map Start (start_in text)
  by true is = absurd (none (IsIdText-from_is_id text is))
  by false is = rw is refl

-- ---- the only row

-- what the count and the first one say is what there is
pub only_one : (start : List ℕ) (rows : List Row) (id : List ℕ) → id_of_first rows ≡ Some id
    → length rows ≡ 1 → only_id start rows ≡ Ok id
only_one start [] id first one = absurd (cc first)
only_one start (r ∷ []) id first one = cc first
only_one start (r ∷ s ∷ rows) id first one = absurd (omega (arith, one))

pub not_one : (start : List ℕ) (rows : List Row) → ¬ (length rows ≡ 1)
    → only_id start rows ≡ Err (record { start = start; count = length rows })
not_one start [] other = refl
not_one start (r ∷ []) other = absurd (other refl)
not_one start (r ∷ s ∷ rows) other = refl

pub none_first : (rows : List Row) → id_of_first rows ≡ None → ¬ (length rows ≡ 1)
none_first [] none = λ one. absurd (cc one)
none_first (r ∷ rows) none = absurd (cc none)
