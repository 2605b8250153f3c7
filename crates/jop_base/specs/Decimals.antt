-- Numbers in decimal digits.
use Rattle.std.specs.Prelude.{ℕ, ◌^◌, Bool, ◌&&◌, List, length, Option, Some, None, nat_lt, if◌then◌else◌}
use Rattle.std.specs.Char.{is_ascii_digit}
use Rattle.std.specs.List.{list_all}
use Rattle.std.specs.Str.Parse.{digits_value}

-- decimal digits, of a number below 2^64
abbrev pub is_decimal : List ℕ → Bool
is_decimal text =
    nat_lt 0 (length text)
    && (list_all is_ascii_digit text && nat_lt (digits_value 10 text) (2 ^ 64))

-- the number that decimal digits write, leading zeros among them
abbrev pub decimal_in : List ℕ → Option ℕ
decimal_in text = if is_decimal text then Some (digits_value 10 text) else None
