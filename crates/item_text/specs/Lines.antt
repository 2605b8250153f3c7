-- Lines, blanks and trimming.
use Rattle.std.specs.Prelude.{ℕ, ◌-◌, Bool, ◌||◌, not, List, length, take, drop, ◌==◌}
use Rattle.std.specs.List.{slice_split, join_with_byte, list_any, prefix_len, suffix_len}

-- whether the text has the byte
abbrev pub has : ℕ → List ℕ → Bool
has byte text = list_any (λ b. b == byte) text

-- what stands between the line feeds: one line more than there are line feeds
unfoldable pub lines : List ℕ → List (List ℕ)
lines text = slice_split (λ b. b == 10) text

-- the lines again as one text, with a line feed between each two
unfoldable pub joined : List (List ℕ) → List ℕ
joined ls = join_with_byte 10 ls

-- a space, a tab, a vertical tab, a form feed or a carriage return; no other character is a blank
abbrev pub is_blank : ℕ → Bool
is_blank b = b == 32 || b == 9 || b == 11 || b == 12 || b == 13

-- without the blanks at the start
abbrev pub trimmed_front : List ℕ → List ℕ
trimmed_front text = drop (prefix_len is_blank text) text

-- without the blanks at the end
abbrev pub trimmed_end : List ℕ → List ℕ
trimmed_end text = take (length text - suffix_len is_blank text) text

-- without the blanks at both ends
unfoldable pub trimmed : List ℕ → List ℕ
trimmed text = trimmed_end (trimmed_front text)

-- whether the line isn't empty: something is left of it once it is trimmed
unfoldable pub has_text : List ℕ → Bool
has_text line = not (length (trimmed line) == 0)
