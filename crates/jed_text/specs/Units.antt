-- Texts and their units of UTF-16.
use Rattle.std.specs.Prelude.{ℕ, List, encode_utf8_all, if◌then◌else◌}
use Rattle.std.specs.Char.Escape.{encode_utf16}
use Rattle.std.specs.Char.Utf16.{utf16_lossy_chars}
use Rattle.std.specs.List.{flat_map}
use Rattle.std.specs.Str.{chars, is_utf8}

-- the units of each character of a text
unfoldable pub units_of : List ℕ → List ℕ
units_of text = flat_map encode_utf16 (chars text)

-- the units of bytes: those of the text that they are, and else each byte by itself
abbrev pub units_in : List ℕ → List ℕ
units_in bytes = if is_utf8 bytes then units_of bytes else bytes

-- the text that units spell, with U+FFFD for each surrogate that has no partner
unfoldable pub text_of : List ℕ → List ℕ
text_of units = encode_utf8_all (utf16_lossy_chars units)
