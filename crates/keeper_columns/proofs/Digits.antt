-- The digits of ids, one after the other.
use Rattle.std.proofs.Common.{ℕ, ◌<◌, ◌≤◌, ◌+◌, ◌≡◌, List, [], ◌∷◌, ◌++◌, length, take, drop, arith, sym, ◌∙◌, ap, subst, append_assoc}
use Rattle.std.specs.Prelude.{All}
use Rattle.std.proofs.Math.Seq.{take-append_seam, drop-append_seam}
use Rattle.std.proofs.lemmas.List.{length-append}
use Rattle.std.proofs.lemmas.List.Elements.{All-head, All-tail}
use Rattle.jop_base.specs.Id.{IsIdText}
use Rattle.keeper_columns.specs.Columns.{id_digits}

-- a text is the digits of ids
record AreIds (text : List ℕ) : Type 0 where
  ids : List (List ℕ)
  valid : All IsIdText ids
  digits : text ≡ id_digits ids

-- what stands behind the first 32 bytes
behind : (x a w b : List ℕ) → length x ≡ 32 → length w ≡ 32 → x ++ a ≡ w ++ b → a ≡ b
behind x a w b long_x long_w is =
    let left : drop (length x) (x ++ a) ≡ a = drop-append_seam x a in
    let right : drop (length w) (w ++ b) ≡ b = drop-append_seam w b in
    let same : drop (length x) (x ++ a) ≡ drop (length w) (w ++ b) = cc in
    sym left ∙ same ∙ right

-- what is left behind ids is ids again, if the whole is
left_are_ids : (xs ws : List (List ℕ)) (rest : List ℕ) → All IsIdText xs → All IsIdText ws
    → id_digits xs ++ rest ≡ id_digits ws → AreIds rest
left_are_ids [] ws rest all valid is = record { ids = ws; valid = valid; digits = is }
left_are_ids (x ∷ xs) [] rest all valid is =
    let long = (All-head IsIdText x xs all).long in
    let nothing : length ((x ++ id_digits xs) ++ rest) ≡ 0 = ap length is in
    absurd (omega (arith, long, length-append (x ++ id_digits xs) rest, length-append x (id_digits xs)))
left_are_ids (x ∷ xs) (w ∷ ws) rest all valid is =
    let split : x ++ (id_digits xs ++ rest) ≡ w ++ id_digits ws = rw append_assoc at is in
    left_are_ids xs ws rest (All-tail IsIdText x xs all) (All-tail IsIdText w ws valid)
    (behind x (id_digits xs ++ rest) w (id_digits ws)
    (All-head IsIdText x xs all).long (All-head IsIdText w ws valid).long split)

-- ids that are not none begin with an id
first_id : (ids : List (List ℕ)) (rest : List ℕ) → All IsIdText ids → rest ≡ id_digits ids
    → 0 < length rest → (32 ≤ length rest) × IsIdText (take 32 rest)
first_id [] rest valid is some = absurd (omega (arith, ap length is))
first_id (y ∷ ys) rest valid is some =
    let id : IsIdText y = All-head IsIdText y ys valid in
    let long : length y ≡ 32 = id.long in
    let whole : length rest ≡ length y + length (id_digits ys) =
    ap length is ∙ length-append y (id_digits ys) in
    let taken : take (length y) (y ++ id_digits ys) ≡ y = take-append_seam y (id_digits ys) in
    let same : take 32 rest ≡ y = cc in
    (omega arith, subst IsIdText (sym same) id)

-- ids behind which something stands that doesn't begin with an id are not the digits of ids
pub no_ids_behind : (xs : List (List ℕ)) (rest : List ℕ) → All IsIdText xs → 0 < length rest
    → ((32 ≤ length rest) → ¬ IsIdText (take 32 rest)) → (ws : List (List ℕ)) → All IsIdText ws
    → ¬ (id_digits xs ++ rest ≡ id_digits ws)
no_ids_behind xs rest all some none ws valid is =
    let left = left_are_ids xs ws rest all valid is in
    let begins = first_id left.ids rest left.valid left.digits some in
    none begins.0 begins.1
