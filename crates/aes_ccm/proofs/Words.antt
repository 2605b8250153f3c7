-- Words of a key schedule.
use Rattle.std.proofs.Common.{◌≡◌, ℕ, zero, suc, ◌+◌, ◌-◌, ◌*◌, ◌≤◌, List, [], ◌∷◌, ◌++◌, length, take, slice_index, refl, sym, ap, ◌∙◌, arith, inl, inr, lit≤, true, ◌%◌, ◌/◌, bit_xor}
use Rattle.std.proofs.lemmas.List.{get_or-take, length-append, take-append-le, take_all, take-take}
use Rattle.std.proofs.lemmas.Bool.Decides.{eqb_tells}
use Rattle.std.specs.Int.Bits.{xor_zero_r}
use Rattle.aes_ccm.specs.Field.{power}
use Rattle.aes_ccm.specs.Aes.{word_at, next_word, turned, expanded, words_of, rounds_of, schedule, is_key_len, rotated, sub_bytes}
use Rattle.aes_ccm.specs.Lists.{xored}
use Rattle.aes_ccm.proofs.Xored.{length-xored}

-- a word is among the first bytes
word_at-take : (w : List ℕ) (n i : ℕ) → 4 * i + 4 ≤ n → word_at (take n w) i ≡ word_at w i
word_at-take w n i h =
    rw (get_or-take n w (4 * i) 0 (omega arith), get_or-take n w (4 * i + 1) 0 (omega arith), get_or-take n w (4 * i + 2) 0 (omega arith), get_or-take n w (4 * i + 3) 0 (omega arith)) refl

-- the next word needs those before it alone
pub next_word-take : (n i : ℕ) (w : List ℕ) → 1 ≤ n → n ≤ i → next_word n (take (4 * i) w) i ≡ next_word n w i
next_word-take n i w some first =
    let from_first : word_at (take (4 * i) w) (i - n) ≡ word_at w (i - n) = word_at-take w (4 * i) (i - n) (omega arith) in
    let before : word_at (take (4 * i) w) (i - 1) ≡ word_at w (i - 1) = word_at-take w (4 * i) (i - 1) (omega arith) in
    ap (λ (a : List ℕ). xored a (turned n i (word_at (take (4 * i) w) (i - 1)))) from_first
    ∙ ap (λ (a : List ℕ). xored (word_at w (i - n)) (turned n i a)) before

length-next_word : (n i : ℕ) (w : List ℕ) → length (next_word n w i) ≡ 4
length-next_word n i w = length-xored (word_at w (i - n)) (turned n i (word_at w (i - 1)))

pub length-expanded : (key : List ℕ) (n : ℕ) → length (expanded key n) ≡ length key + 4 * n
unfolding expanded
length-expanded key zero = omega arith
length-expanded key (suc n) =
    let more = length-append (expanded key n) (next_word (words_of key) (expanded key n) (words_of key + n)) in
    let four = length-next_word (words_of key) (words_of key + n) (expanded key n) in
    let before = length-expanded key n in
    omega (arith, more, four, before)

-- the key stands first
pub take-expanded : (key : List ℕ) (n : ℕ) → take (length key) (expanded key n) ≡ key
unfolding expanded
take-expanded key zero = take_all (length key) key (omega arith)
take-expanded key (suc n) =
    let fits : length key ≤ length (expanded key n) = omega (arith, length-expanded key n) in
    take-append-le (length key) (expanded key n) (next_word (words_of key) (expanded key n) (words_of key + n)) fits ∙ take-expanded key n

-- one more word
pub expanded_more : (key : List ℕ) (n : ℕ) → expanded key (n + 1) ≡ expanded key n ++ next_word (words_of key) (expanded key n) (words_of key + n)
unfolding expanded
expanded_more key n = let e : n + 1 ≡ suc n = omega arith in rw e refl

-- ---- the loop over the words

-- what is added to a word that stands where a key's length would begin anew
pub turned_first : (n i k : ℕ) (word s : List ℕ) → i % n ≡ 0 → s ≡ sub_bytes (rotated word) → k ≡ power 2 (i / n - 1)
    → bit_xor (slice_index s 0) k ∷ slice_index s 1 ∷ slice_index s 2 ∷ slice_index s 3 ∷ [] ≡ turned n i word
unfolding xored
turned_first n i k word s whole substituted constant =
    rw (substituted, constant, whole)
    (rw (xor_zero_r (slice_index (sub_bytes (rotated word)) 1), xor_zero_r (slice_index (sub_bytes (rotated word)) 2), xor_zero_r (slice_index (sub_bytes (rotated word)) 3)) refl)

-- the lengths of keys
pub record IsWhole (n : ℕ) : Type 0 where
  pub whole : 4 * (n / 4) ≡ n
  pub low : 16 ≤ n
  pub high : n ≤ 32

pub is_key_len-whole : (n : ℕ) → is_key_len n ≡ true → IsWhole n
is_key_len-whole n h = elim (eqb_tells n 16) [
  | inl a ↦ rw a.1 (record { whole = refl; low = lit≤ tt; high = lit≤ tt })
  | inr a ↦ elim (eqb_tells n 24) [
    | inl b ↦ rw b.1 (record { whole = refl; low = lit≤ tt; high = lit≤ tt })
    | inr b ↦ elim (eqb_tells n 32) [
      | inl d ↦ rw d.1 (record { whole = refl; low = lit≤ tt; high = lit≤ tt })
      | inr d ↦ absurd (let e = rw (a.0, b.0, d.0) at h in cc)
    ]
  ]
]

pub schedule_init : (key words : List ℕ) (n : ℕ) → n ≡ length key / 4 → IsWhole (length key) → take (length key) words ≡ key → take (4 * (n + 0)) words ≡ expanded key 0
unfolding expanded
schedule_init key words n e l first = let same : 4 * (n + 0) ≡ length key = omega (arith, l.whole) in rw same first

pub schedule_step : (key words new word : List ℕ) (n more : ℕ) → n ≡ words_of key → 1 ≤ n → take (4 * (n + more)) words ≡ expanded key more
    → word ≡ next_word n words (n + more) → take (4 * (n + more + 1)) new ≡ take (4 * (n + more)) words ++ word
    → take (4 * (n + (more + 1))) new ≡ expanded key (more + 1)
schedule_step key words new word n more en some held ew put =
    let place : 4 * (n + (more + 1)) ≡ 4 * (n + more + 1) = omega arith in
    let same : next_word n (expanded key more) (n + more) ≡ word =
    rw (← held) (next_word-take n (n + more) words some (omega arith) ∙ sym ew) in
    rw (place, expanded_more key more, ← en, same, ← held) put

pub schedule_key : (key words : List ℕ) (n more : ℕ) → n ≡ length key / 4 → IsWhole (length key) → take (4 * (n + more)) words ≡ expanded key more → take (length key) words ≡ key
schedule_key key words n more e l held =
    let cut : take (length key) (take (4 * (n + more)) words) ≡ take (length key) words = take-take (length key) (4 * (n + more)) words (omega (arith, l.whole)) in
    sym cut ∙ ap (take (length key)) held ∙ take-expanded key more

pub schedule_words : (key words : List ℕ) (n more : ℕ) → n ≡ length key / 4 → more ≡ 3 * n + 28 →
    take (4 * (n + more)) words ≡ expanded key more → take (16 * (words_of key + 7)) words ≡ schedule key
unfolding schedule
schedule_words key words n more e em held =
    let place : 16 * (words_of key + 7) ≡ 4 * (n + more) = omega arith in
    let count : 4 * (rounds_of key + 1) - words_of key ≡ more = omega arith in
    rw (place, count) held
