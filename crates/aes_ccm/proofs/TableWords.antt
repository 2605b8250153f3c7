-- The four tables of words, each word against the byte's definition.
use Rattle.std.proofs.Common.{◌≡◌, ℕ, ◌/◌, ◌%◌, ◌^◌, ◌<◌, Bool, true, List, [], ◌∷◌, refl, ◌∙◌, ap, bit_xor, slice_index, bytes_eq}
use Rattle.std.proofs.lemmas.Nat.{xor_shr, xor_mod, xor_comm}
use Rattle.std.proofs.lemmas.Slice.Eq.{bytes_eq-Decides}
use Rattle.std.specs.Int.{to_be_bytes, w32}
use Rattle.std.specs.Int.Bits.{xor_assoc}
use Rattle.aes_ccm.specs.declared.substitution.TheConstants.{SUBSTITUTES}
use Rattle.aes_ccm.specs.declared.tables.TheConstants.{FIRST, SECOND, THIRD, FOURTH}
use Rattle.aes_ccm.specs.Columns.{mixed_column}
use Rattle.aes_ccm.specs.Field.{sum_over_bits, product, substituted}
use Rattle.aes_ccm.specs.Lists.{xored}
use Rattle.aes_ccm.proofs.Bytes.{passes_below, passes_at, substitutes}

-- what a byte gives of each byte of its mixed column, by its place
abbrev pub first_of : ℕ → List ℕ
first_of s = product 2 s ∷ s ∷ s ∷ product 3 s ∷ []

abbrev pub second_of : ℕ → List ℕ
second_of s = product 3 s ∷ product 2 s ∷ s ∷ s ∷ []

abbrev pub third_of : ℕ → List ℕ
third_of s = s ∷ product 3 s ∷ product 2 s ∷ s ∷ []

abbrev pub fourth_of : ℕ → List ℕ
fourth_of s = s ∷ s ∷ product 3 s ∷ product 2 s ∷ []

-- a table has what these give of each byte's substitute
abbrev is_table : List ℕ → (ℕ → List ℕ) → ℕ → Bool
is_table table column b = bytes_eq (to_be_bytes w32 (slice_index table b)) (column (slice_index SUBSTITUTES b))

table_at : (table : List ℕ) (column : ℕ → List ℕ) (b : ℕ) → passes_below (is_table table column) 256 ≡ true → b < 256
    → to_be_bytes w32 (slice_index table b) ≡ column (substituted b)
table_at table column b all lt =
    (bytes_eq-Decides (to_be_bytes w32 (slice_index table b)) (column (slice_index SUBSTITUTES b))).0 (passes_at (is_table table column) 256 b all lt)
    ∙ ap column (substitutes b lt)

first_all : passes_below (is_table FIRST first_of) 256 ≡ true
unfolding sum_over_bits
first_all = refl

second_all : passes_below (is_table SECOND second_of) 256 ≡ true
unfolding sum_over_bits
second_all = refl

third_all : passes_below (is_table THIRD third_of) 256 ≡ true
unfolding sum_over_bits
third_all = refl

fourth_all : passes_below (is_table FOURTH fourth_of) 256 ≡ true
unfolding sum_over_bits
fourth_all = refl

pub first_at : (b : ℕ) → b < 256 → to_be_bytes w32 (slice_index FIRST b) ≡ first_of (substituted b)
first_at b lt = table_at FIRST first_of b first_all lt

pub second_at : (b : ℕ) → b < 256 → to_be_bytes w32 (slice_index SECOND b) ≡ second_of (substituted b)
second_at b lt = table_at SECOND second_of b second_all lt

pub third_at : (b : ℕ) → b < 256 → to_be_bytes w32 (slice_index THIRD b) ≡ third_of (substituted b)
third_at b lt = table_at THIRD third_of b third_all lt

pub fourth_at : (b : ℕ) → b < 256 → to_be_bytes w32 (slice_index FOURTH b) ≡ fourth_of (substituted b)
fourth_at b lt = table_at FOURTH fourth_of b fourth_all lt

-- ---- words added

byte_xor : (x y k : ℕ) → bit_xor x y / 2 ^ k % 256 ≡ bit_xor (x / 2 ^ k % 256) (y / 2 ^ k % 256)
byte_xor x y k = ap (λ n. n % 256) (xor_shr x y k) ∙ xor_mod (x / 2 ^ k) (y / 2 ^ k) 8

-- the sum of words has the sums of their bytes
pub word_xor : (x y : ℕ) → to_be_bytes w32 (bit_xor x y) ≡ xored (to_be_bytes w32 x) (to_be_bytes w32 y)
unfolding xored
word_xor x y = λ i. byte_xor x y 24 i ∷ byte_xor x y 16 i ∷ byte_xor x y 8 i ∷ xor_mod x y 8 i ∷ []

turned_sum : (w x y z : ℕ) → bit_xor (bit_xor (bit_xor w x) y) z ≡ bit_xor (bit_xor (bit_xor x y) z) w
turned_sum w x y z =
    ap (λ (s : ℕ). bit_xor s z) (xor_assoc w x y) ∙ xor_assoc w (bit_xor x y) z ∙ xor_comm w (bit_xor (bit_xor x y) z)

-- what four bytes give, added up, is their mixed column
columns_sum : (a b c d : ℕ) → xored (xored (xored (first_of a) (second_of b)) (third_of c)) (fourth_of d) ≡ mixed_column a b c d
unfolding xored
columns_sum a b c d =
    let second = turned_sum a (product 2 b) (product 3 c) d in
    let third = turned_sum a b (product 2 c) (product 3 d) ∙ turned_sum b (product 2 c) (product 3 d) a in
    let fourth = turned_sum (product 3 a) b c (product 2 d) ∙ turned_sum b c (product 2 d) (product 3 a) ∙ turned_sum c (product 2 d) (product 3 a) b in
    λ i. bit_xor (bit_xor (bit_xor (product 2 a) (product 3 b)) c) d ∷ second i ∷ third i ∷ fourth i ∷ []

pub column_mixed : (p q r s a b c d : ℕ) → to_be_bytes w32 p ≡ first_of a → to_be_bytes w32 q ≡ second_of b
    → to_be_bytes w32 r ≡ third_of c → to_be_bytes w32 s ≡ fourth_of d
    → to_be_bytes w32 (bit_xor (bit_xor (bit_xor p q) r) s) ≡ mixed_column a b c d
column_mixed p q r s a b c d ep eq er es =
    let two : to_be_bytes w32 (bit_xor p q) ≡ xored (first_of a) (second_of b) = word_xor p q ∙ (λ i. xored (ep i) (eq i)) in
    let three : to_be_bytes w32 (bit_xor (bit_xor p q) r) ≡ xored (xored (first_of a) (second_of b)) (third_of c) =
    word_xor (bit_xor p q) r ∙ (λ i. xored (two i) (er i)) in
    word_xor (bit_xor (bit_xor p q) r) s ∙ (λ i. xored (three i) (es i)) ∙ columns_sum a b c d
