-- Standard base64 (RFC 4648, 4), wholly padded or not at all.
use Rattle.std.specs.Prelude.{ℕ, List, Option}
use Rattle.std.specs.Option.{option_or}
use Rattle.std.specs.Result.{result_ok}
use Rattle.base64.specs.Engines.{standard, standard_no_pad}
use Rattle.base64.specs.GeneralPurpose.{decode_of, encode_of}

-- the bytes of a text that is padded, or else of one that isn't
unfoldable pub decoded : List ℕ → Option (List ℕ)
decoded text =
    option_or (result_ok (decode_of standard text)) (result_ok (decode_of standard_no_pad text))

-- the padded text of bytes
unfoldable pub encoded : List ℕ → List ℕ
encoded bytes = encode_of standard bytes
