-- AES, by FIPS 197. A state and a key are lists of bytes.
use Rattle.std.specs.Prelude.{ℕ, zero, suc, ◌+◌, ◌-◌, ◌*◌, ◌/◌, ◌%◌, Bool, ◌&&◌, ◌||◌, nat_lt, ◌==◌, List, [], ◌∷◌, ◌++◌, length, map, take, drop, bit_xor, slice_index, if◌then◌else◌}
use Rattle.aes_ccm.specs.Field.{product, power, substituted}
use Rattle.aes_ccm.specs.Lists.{xored}

-- ---- a state of 16 bytes: four rows, which stand column by column (3.4)

-- the byte in a row and a column
abbrev pub byte_at : List ℕ → ℕ → ℕ → ℕ
byte_at s row column = slice_index s (row + 4 * column)

-- the state whose byte in each row and column is that of f
abbrev pub state_of : (ℕ → ℕ → ℕ) → List ℕ
state_of f =
    f 0 0 ∷ f 1 0 ∷ f 2 0 ∷ f 3 0 ∷ f 0 1 ∷ f 1 1 ∷ f 2 1 ∷ f 3 1
    ∷ f 0 2 ∷ f 1 2 ∷ f 2 2 ∷ f 3 2 ∷ f 0 3 ∷ f 1 3 ∷ f 2 3 ∷ f 3 3 ∷ []

-- each byte substituted (5.1.1)
abbrev pub sub_bytes : List ℕ → List ℕ
sub_bytes s = map substituted s

-- row r turned left by r places (5.1.2)
abbrev pub shift_rows : List ℕ → List ℕ
shift_rows s = state_of (λ r c. byte_at s r ((c + r) % 4))

-- one byte of a mixed column, from the column's bytes from that place on
abbrev pub mixed : ℕ → ℕ → ℕ → ℕ → ℕ
mixed a b c d = bit_xor (bit_xor (bit_xor (product 2 a) (product 3 b)) c) d

-- each column multiplied by the fixed matrix (5.1.3)
abbrev pub mix_columns : List ℕ → List ℕ
mix_columns s = state_of (λ r c.
    mixed (byte_at s r c) (byte_at s ((r + 1) % 4) c)
    (byte_at s ((r + 2) % 4) c) (byte_at s ((r + 3) % 4) c))

-- ---- the key schedule (5.2), a list of words of four bytes, one behind the other

-- a key has 16, 24 or 32 bytes
abbrev pub is_key_len : ℕ → Bool
is_key_len n = n == 16 || n == 24 || n == 32

-- the number of words of a key
abbrev pub words_of : List ℕ → ℕ
words_of key = length key / 4

-- the number of rounds under a key
abbrev pub rounds_of : List ℕ → ℕ
rounds_of key = words_of key + 6

-- the word at a place
abbrev pub word_at : List ℕ → ℕ → List ℕ
word_at w i =
    slice_index w (4 * i) ∷ slice_index w (4 * i + 1)
    ∷ slice_index w (4 * i + 2) ∷ slice_index w (4 * i + 3) ∷ []

-- a word turned left by one byte
abbrev pub rotated : List ℕ → List ℕ
rotated w = slice_index w 1 ∷ slice_index w 2 ∷ slice_index w 3 ∷ slice_index w 0 ∷ []

-- the constant of a round, counted from 1: a power of x, and three zeros
abbrev pub round_constant : ℕ → List ℕ
round_constant j = power 2 (j - 1) ∷ 0 ∷ 0 ∷ 0 ∷ []

-- what is added to word i under a key of n words, from the word before it
abbrev pub turned : ℕ → ℕ → List ℕ → List ℕ
turned n i word =
    if i % n == 0 then xored (sub_bytes (rotated word)) (round_constant (i / n))
    else if nat_lt 6 n && i % n == 4 then sub_bytes word
    else word

-- word i under a key of n words, from the words before it
abbrev pub next_word : ℕ → List ℕ → ℕ → List ℕ
next_word n w i = xored (word_at w (i - n)) (turned n i (word_at w (i - 1)))

-- the key and so many more words
unfoldable pub expanded : List ℕ → ℕ → List ℕ
expanded key zero = key
expanded key (suc more) =
    expanded key more ++ next_word (words_of key) (expanded key more) (words_of key + more)

-- the words that all rounds take, four each, and four before the first
unfoldable pub schedule : List ℕ → List ℕ
schedule key = expanded key (4 * (rounds_of key + 1) - words_of key)

-- the 16 bytes that a round takes, counted from 0
abbrev pub round_key : List ℕ → ℕ → List ℕ
round_key words n = take 16 (drop (16 * n) words)

-- ---- the cipher (5.1)

-- the state after so many whole rounds, with the words of a schedule
unfoldable pub state_after : List ℕ → List ℕ → ℕ → List ℕ
state_after words block zero = xored block (round_key words 0)
state_after words block (suc n) =
    xored (mix_columns (shift_rows (sub_bytes (state_after words block n)))) (round_key words (suc n))

-- all rounds, of which the last mixes no columns
abbrev pub after_rounds : List ℕ → List ℕ → ℕ → List ℕ
after_rounds words block rounds =
    xored (shift_rows (sub_bytes (state_after words block (rounds - 1)))) (round_key words rounds)

-- the block enciphered under the key
unfoldable pub aes : List ℕ → List ℕ → List ℕ
aes key block = after_rounds (schedule key) block (rounds_of key)
