-- States of 16 bytes, of four words.
use Rattle.std.proofs.Common.{◌≡◌, ℕ, zero, suc, ◌+◌, ◌-◌, ◌<◌, List, [], ◌∷◌, ◌++◌, length, take, drop, get_or, refl, sym, ap, ◌∙◌, arith, bit_xor, drop-cons, length-drop}
use Rattle.std.proofs.lemmas.List.{drop_all, take_all, take_rest}
use Rattle.std.proofs.lemmas.Nat.{be_bytes_4}
use Rattle.std.specs.Int.{to_be_bytes, from_be_bytes, w32}
use Rattle.aes_ccm.specs.declared.state.State.TheInside.{Inside}
use Rattle.aes_ccm.specs.Columns.{mixed_column, bytes_of_state}
use Rattle.aes_ccm.specs.Field.{substituted}
use Rattle.aes_ccm.specs.Aes.{mix_columns, shift_rows, sub_bytes}
use Rattle.aes_ccm.specs.Lists.{xored}
use Rattle.aes_ccm.proofs.TableWords.{word_xor}
use Rattle.aes_ccm.proofs.Xored.{xored-short}
use borrow.Rule.Slice.PartMut.{put_mid}

-- k bytes of a list, from place i on, one by one
abbrev pub cells : ℕ → ℕ → List ℕ → List ℕ
cells i zero bs = []
cells i (suc k) bs = get_or bs i 0 ∷ cells (suc i) k bs

cells_to_end : (bs : List ℕ) (i k : ℕ) → i + k ≡ length bs → cells i k bs ≡ drop i bs
cells_to_end bs i zero l = sym (drop_all i bs (omega arith))
cells_to_end bs i (suc k) l =
    ap (λ (rest : List ℕ). get_or bs i 0 ∷ rest) (cells_to_end bs (suc i) k (omega arith)) ∙ sym (drop-cons bs i 0 (omega arith))

pub sixteen : (bs : List ℕ) → length bs ≡ 16 → cells 0 16 bs ≡ bs
sixteen bs l = cells_to_end bs 0 16 (sym l)

-- ---- words of four bytes

small_cells : (a b c d : ℕ) → a < 256 → b < 256 → c < 256 → d < 256 → (i : ℕ) → get_or (a ∷ b ∷ c ∷ d ∷ []) i 0 < 256
small_cells a b c d la lb lc ld zero = la
small_cells a b c d la lb lc ld (suc zero) = lb
small_cells a b c d la lb lc ld (suc (suc zero)) = lc
small_cells a b c d la lb lc ld (suc (suc (suc zero))) = ld
small_cells a b c d la lb lc ld (suc (suc (suc (suc i)))) = omega arith

pub word_back : (a b c d n : ℕ) → a < 256 → b < 256 → c < 256 → d < 256 → n ≡ from_be_bytes w32 (a ∷ b ∷ c ∷ d ∷ [])
    → to_be_bytes w32 n ≡ a ∷ b ∷ c ∷ d ∷ []
word_back a b c d n la lb lc ld e = be_bytes_4 (a ∷ b ∷ c ∷ d ∷ []) n refl (small_cells a b c d la lb lc ld) e

-- ---- states

-- a state that was read from its bytes
pub state_read : (bs : List ℕ) (a b c d : ℕ) → length bs ≡ 16 → ((i : ℕ) → get_or bs i 0 < 256)
    → a ≡ from_be_bytes w32 (get_or bs 0 0 ∷ get_or bs 1 0 ∷ get_or bs 2 0 ∷ get_or bs 3 0 ∷ [])
    → b ≡ from_be_bytes w32 (get_or bs 4 0 ∷ get_or bs 5 0 ∷ get_or bs 6 0 ∷ get_or bs 7 0 ∷ [])
    → c ≡ from_be_bytes w32 (get_or bs 8 0 ∷ get_or bs 9 0 ∷ get_or bs 10 0 ∷ get_or bs 11 0 ∷ [])
    → d ≡ from_be_bytes w32 (get_or bs 12 0 ∷ get_or bs 13 0 ∷ get_or bs 14 0 ∷ get_or bs 15 0 ∷ [])
    → bytes_of_state (record { a = a; b = b; c = c; d = d }) ≡ bs
unfolding bytes_of_state
state_read bs a b c d l small ea eb ec ed =
    let wa = word_back _ _ _ _ a (small 0) (small 1) (small 2) (small 3) ea in
    let wb = word_back _ _ _ _ b (small 4) (small 5) (small 6) (small 7) eb in
    let wc = word_back _ _ _ _ c (small 8) (small 9) (small 10) (small 11) ec in
    let wd = word_back _ _ _ _ d (small 12) (small 13) (small 14) (small 15) ed in
    (λ i. wa i ++ wb i ++ wc i ++ wd i) ∙ sixteen bs l

-- the bytes that a state writes
pub state_bytes : (s : Inside) (a b c d : List ℕ) → a ≡ to_be_bytes w32 s.a → b ≡ to_be_bytes w32 s.b → c ≡ to_be_bytes w32 s.c
    → d ≡ to_be_bytes w32 s.d → cells 0 4 a ++ cells 0 4 b ++ cells 0 4 c ++ cells 0 4 d ≡ bytes_of_state s
unfolding bytes_of_state
state_bytes s a b c d ea eb ec ed = λ i. cells 0 4 (ea i) ++ cells 0 4 (eb i) ++ cells 0 4 (ec i) ++ cells 0 4 (ed i)

pub state_sum : (s t : Inside)
    → bytes_of_state (record { a = bit_xor s.a t.a; b = bit_xor s.b t.b; c = bit_xor s.c t.c; d = bit_xor s.d t.d })
    ≡ xored (bytes_of_state s) (bytes_of_state t)
unfolding bytes_of_state xored
state_sum s t = λ i. word_xor s.a t.a i ++ word_xor s.b t.b i ++ word_xor s.c t.c i ++ word_xor s.d t.d i

-- columns of a state's bytes, mixed
pub state_mixed : (s : List ℕ) (a b c d : ℕ) → length s ≡ 16
    → to_be_bytes w32 a ≡ mixed_column (substituted (get_or s 0 0)) (substituted (get_or s 5 0)) (substituted (get_or s 10 0)) (substituted (get_or s 15 0))
    → to_be_bytes w32 b ≡ mixed_column (substituted (get_or s 4 0)) (substituted (get_or s 9 0)) (substituted (get_or s 14 0)) (substituted (get_or s 3 0))
    → to_be_bytes w32 c ≡ mixed_column (substituted (get_or s 8 0)) (substituted (get_or s 13 0)) (substituted (get_or s 2 0)) (substituted (get_or s 7 0))
    → to_be_bytes w32 d ≡ mixed_column (substituted (get_or s 12 0)) (substituted (get_or s 1 0)) (substituted (get_or s 6 0)) (substituted (get_or s 11 0))
    → bytes_of_state (record { a = a; b = b; c = c; d = d }) ≡ mix_columns (shift_rows (sub_bytes s))
unfolding bytes_of_state
state_mixed s a b c d l ea eb ec ed =
    let columns : bytes_of_state (record { a = a; b = b; c = c; d = d }) ≡ mix_columns (shift_rows (sub_bytes (cells 0 16 s))) =
    λ i. ea i ++ eb i ++ ec i ++ ed i in
    columns ∙ ap (λ (bs : List ℕ). mix_columns (shift_rows (sub_bytes bs))) (sixteen s l)

-- and not mixed
pub state_shifted : (s : List ℕ) (a b c d : ℕ) → length s ≡ 16
    → to_be_bytes w32 a ≡ substituted (get_or s 0 0) ∷ substituted (get_or s 5 0) ∷ substituted (get_or s 10 0) ∷ substituted (get_or s 15 0) ∷ []
    → to_be_bytes w32 b ≡ substituted (get_or s 4 0) ∷ substituted (get_or s 9 0) ∷ substituted (get_or s 14 0) ∷ substituted (get_or s 3 0) ∷ []
    → to_be_bytes w32 c ≡ substituted (get_or s 8 0) ∷ substituted (get_or s 13 0) ∷ substituted (get_or s 2 0) ∷ substituted (get_or s 7 0) ∷ []
    → to_be_bytes w32 d ≡ substituted (get_or s 12 0) ∷ substituted (get_or s 1 0) ∷ substituted (get_or s 6 0) ∷ substituted (get_or s 11 0) ∷ []
    → bytes_of_state (record { a = a; b = b; c = c; d = d }) ≡ shift_rows (sub_bytes s)
unfolding bytes_of_state
state_shifted s a b c d l ea eb ec ed =
    let columns : bytes_of_state (record { a = a; b = b; c = c; d = d }) ≡ shift_rows (sub_bytes (cells 0 16 s)) =
    λ i. ea i ++ eb i ++ ec i ++ ed i in
    columns ∙ ap (λ (bs : List ℕ). shift_rows (sub_bytes bs)) (sixteen s l)

-- ---- states and texts

-- what is left of a text is less than a block
pub rest_of : (text : List ℕ) (p : ℕ) → length text - p < 16 → take (length text - p) (drop p text) ≡ take 16 (drop p text)
rest_of text p short = take_rest text p ∙ sym (take_all 16 (drop p text) (omega (arith, length-drop p text)))

-- a whole block that was added is written back
pub block_added : (text sum other : List ℕ) (p : ℕ) → length other ≡ 16 → sum ≡ xored (take 16 (drop p text)) other
    → put_mid p (p + 16 - p) text sum ≡ take p text ++ xored (drop p text) other
block_added text sum other p l e =
    let count : p + 16 - p ≡ 16 = omega arith in
    rw (count, e) (ap (λ (rest : List ℕ). take p text ++ rest) (sym (xored-short (drop p text) other 16 (omega arith))))
