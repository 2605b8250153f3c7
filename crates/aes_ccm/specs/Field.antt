-- The field of 256 elements of FIPS 197, section 4: a byte is a polynomial, its bits the coefficients, the lowest bit
-- that of x to the power 0, modulo x^8 + x^4 + x^3 + x + 1.
use Rattle.std.specs.Prelude.{ℕ, zero, suc, ◌+◌, ◌*◌, ◌/◌, ◌%◌, ◌^◌, bit_xor, nat_lt, if◌then◌else◌, ◌==◌}

-- x^8 + x^4 + x^3 + x + 1
abbrev pub modulus : ℕ
modulus = 0x11b

-- the byte times x (4.2)
abbrev pub doubled : ℕ → ℕ
doubled b = if nat_lt b 0x80 then 2 * b else bit_xor (2 * b) modulus

-- the sum of b, b times x, b times x^2, .., over those of the lowest n bits that are set in a
unfoldable pub sum_over_bits : ℕ → ℕ → ℕ → ℕ
sum_over_bits zero a b = 0
sum_over_bits (suc n) a b =
    bit_xor (if a % 2 == 1 then b else 0) (sum_over_bits n (a / 2) (doubled b))

-- the product of two bytes (4.3)
abbrev pub product : ℕ → ℕ → ℕ
product a b = sum_over_bits 8 a b

-- the byte times itself, n factors
unfoldable pub power : ℕ → ℕ → ℕ
power b zero = 1
power b (suc n) = product b (power b n)

-- the multiplicative inverse, and 0 of 0 (4.4)
abbrev pub inverse : ℕ → ℕ
inverse b = power b 254

-- the bit at place i
abbrev pub bit_of : ℕ → ℕ → ℕ
bit_of b i = b / 2 ^ i % 2

-- one bit of the affine map: that bit, the four at the places 4 to 7 further on, and that of 0x63 (5.1.1)
abbrev pub affine_bit : ℕ → ℕ → ℕ
affine_bit b i =
    (bit_of b i + bit_of b ((i + 4) % 8) + bit_of b ((i + 5) % 8) + bit_of b ((i + 6) % 8)
    + bit_of b ((i + 7) % 8) + bit_of 0x63 i) % 2

-- the lowest n bits of the affine map
unfoldable pub affine_bits : ℕ → ℕ → ℕ
affine_bits b zero = 0
affine_bits b (suc n) = affine_bits b n + 2 ^ n * affine_bit b n

-- the byte substitution: the inverse, and then the affine map (5.1.1)
unfoldable pub substituted : ℕ → ℕ
substituted b = affine_bits (inverse b) 8
