-- Hexadecimal digits, as units or bytes.
use Rattle.std.specs.Prelude.{ℕ, ◌+◌, ◌-◌, ◌*◌, ◌%◌, ◌&&◌, nat_le, nat_lt, Option, Some, None, if◌then◌else◌}

-- the upper-case hexadecimal digit of the lowest four bits
abbrev pub digit_of : ℕ → ℕ
digit_of n = if nat_lt (n % 16) 10 then 48 + n % 16 else 55 + n % 16

-- what a hexadecimal digit counts, in either case
abbrev pub digit_number : ℕ → Option ℕ
digit_number u =
    if nat_le 48 u && nat_le u 57 then Some (u - 48)
    else if nat_le 65 u && nat_le u 70 then Some (u - 55)
    else if nat_le 97 u && nat_le u 102 then Some (u - 87)
    else None

-- the number of two digits
abbrev pub pair_number : Option ℕ → Option ℕ → Option ℕ
pair_number (Some a) (Some b) = Some (16 * a + b)
pair_number a b = None

abbrev pub number_of_two : ℕ → ℕ → Option ℕ
number_of_two a b = pair_number (digit_number a) (digit_number b)

-- the number of twice two digits
abbrev pub four_of : Option ℕ → Option ℕ → Option ℕ
four_of (Some high) (Some low) = Some (256 * high + low)
four_of high low = None

abbrev pub number_of_four : ℕ → ℕ → ℕ → ℕ → Option ℕ
number_of_four a b c d = four_of (number_of_two a b) (number_of_two c d)
