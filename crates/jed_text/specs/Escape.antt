-- JavaScript's `escape` and `unescape` (ECMAScript, annex B.2.1), over units of UTF-16.
use Rattle.std.specs.Prelude.{ℕ, zero, suc, ◌+◌, ◌*◌, ◌/◌, Bool, ◌&&◌, ◌||◌, ◌==◌, nat_le, nat_lt, List, [], ◌∷◌, ◌++◌, length, take, drop, Option, Some, None, slice_index, unwrap_or, if◌then◌else◌}
use Rattle.std.specs.List.{flat_map}
use Rattle.jed_text.specs.Hexadecimal.{digit_of, number_of_two, number_of_four}
use Rattle.jed_text.specs.Units.{units_of}

-- ---- escaping

-- a letter, a digit, or one of @*_+-./
abbrev pub is_plain : ℕ → Bool
is_plain u =
    nat_le 65 u && nat_le u 90 || nat_le 97 u && nat_le u 122 || nat_le 48 u && nat_le u 57
    || u == 64 || u == 42 || u == 95 || u == 43 || u == 45 || u == 46 || u == 47

-- a plain unit stays, one below 256 is a per cent sign and two digits, any other `%u` and four
abbrev pub escaped_unit : ℕ → List ℕ
escaped_unit u =
    if is_plain u then u ∷ []
    else if nat_lt u 256 then 37 ∷ digit_of (u / 16) ∷ digit_of u ∷ []
    else 37 ∷ 117 ∷ digit_of (u / 4096) ∷ digit_of (u / 256) ∷ digit_of (u / 16) ∷ digit_of u ∷ []

unfoldable pub escaped_units : List ℕ → List ℕ
escaped_units units = flat_map escaped_unit units

-- the first n pieces of 5,000 units, each escaped
unfoldable pub escaped_pieces : List ℕ → ℕ → List (List ℕ)
escaped_pieces units zero = []
escaped_pieces units (suc n) =
    escaped_pieces units n ++ escaped_units (take 5000 (drop (5000 * n) units)) ∷ []

-- a text's pieces, the last perhaps shorter
abbrev pub pieces_of : List ℕ → List (List ℕ)
pieces_of text = escaped_pieces (units_of text) ((length (units_of text) + 4999) / 5000)

-- ---- unescaping

-- a unit, and how many units behind the per cent sign it takes
abbrev pub taking : ℕ → Option ℕ → Option (ℕ × ℕ)
taking count None = None
taking count (Some unit) = Some (unit, count)

-- what stands behind a `%u`: four digits
abbrev pub long_escape : List ℕ → Option (ℕ × ℕ)
long_escape units =
    if nat_lt (length units) 4 then None
    else taking 5 (number_of_four (slice_index units 0) (slice_index units 1)
    (slice_index units 2) (slice_index units 3))

-- what stands behind a per cent sign: `u` and four digits, or two digits
abbrev pub escape_in : List ℕ → Option (ℕ × ℕ)
escape_in units =
    if nat_lt (length units) 2 then None
    else if slice_index units 0 == 117 then long_escape (drop 1 units)
    else taking 2 (number_of_two (slice_index units 0) (slice_index units 1))

-- the unit that a unit and those behind it write, and how many of those it takes
abbrev pub unit_written : ℕ → List ℕ → ℕ × ℕ
unit_written u units = if u == 37 then unwrap_or (escape_in units) (u, 0) else (u, 0)

-- what units write, of which the first few belong to what stood before
unfoldable pub unescaped_behind : ℕ → List ℕ → List ℕ
unescaped_behind skipped [] = []
unescaped_behind zero (u ∷ units) =
    (unit_written u units).0 ∷ unescaped_behind (unit_written u units).1 units
unescaped_behind (suc skipped) (u ∷ units) = unescaped_behind skipped units

-- each escape is the unit that it gives, and every other unit stays
abbrev pub unescaped_units : List ℕ → List ℕ
unescaped_units units = unescaped_behind 0 units
