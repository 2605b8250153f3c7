-- Times: whole milliseconds since the beginning of 1970, and how they are written.
use Rattle.std.specs.Prelude.{◌≡◌, ◌≤◌, ℕ, ◌+◌, ◌/◌, ◌%◌, List, [], ◌∷◌, ◌++◌, length, ◌⊎◌}
use Rattle.std.specs.Str.Parse.{IsNumeral, digits_value}
use Rattle.jop_base.specs.Times.{last_time}
use Rattle.item_kinds.specs.Calendar.{Date, date_after}

-- a number below 100 in two decimal digits
abbrev pub two_digits : ℕ → List ℕ
two_digits n = (48 + n / 10) ∷ (48 + n % 10) ∷ []

-- a number below 1,000 in three
abbrev pub three_digits : ℕ → List ℕ
three_digits n = (48 + n / 100) ∷ two_digits (n % 100)

-- a number below 10,000 in four
abbrev pub four_digits : ℕ → List ℕ
four_digits n = two_digits (n / 100) ++ two_digits (n % 100)

-- `YYYY-MM-DD`
abbrev pub date_text : Date → List ℕ
date_text d = four_digits d.year ++ 45 ∷ two_digits d.month ++ 45 ∷ two_digits d.day

-- `HH:MM:SS.mmm`, what a clock shows that many milliseconds after midnight
abbrev pub clock_text : ℕ → List ℕ
clock_text millis =
    two_digits (millis / 3_600_000)
    ++ 58 ∷ two_digits (millis / 60_000 % 60)
    ++ 58 ∷ two_digits (millis / 1_000 % 60)
    ++ 46 ∷ three_digits (millis % 1_000)

-- `YYYY-MM-DDTHH:MM:SS.mmmZ`, as ISO 8601 writes a time in UTC
unfoldable pub time_text : ℕ → List ℕ
time_text time =
    date_text (date_after (time / 86_400_000)) ++ 84 ∷ clock_text (time % 86_400_000) ++ 90 ∷ []

-- one to fifteen decimal digits, and the number that they write
abbrev pub IsCount : List ℕ → ℕ → Type 0
IsCount text n = IsNumeral 10 text × (length text ≤ 15) × (digits_value 10 text ≡ n)

-- the text is a time up to the end of the year 9999: as it is written, or its milliseconds in digits
abbrev pub IsTime : List ℕ → ℕ → Type 0
IsTime text time = (time ≤ last_time) × ((text ≡ time_text time) ⊎ IsCount text time)
