-- The value of a text.
use Rattle.std.proofs.Common.{◌≡◌, ℕ, List, Bool, true, false, not, Option, Some, None, refl, ap, ◌∙◌}
use Rattle.std.proofs.lemmas.Bool.{cond-true, cond-false, not_from_false}
use Rattle.std.proofs.lemmas.Str.{IsUtf8-from_is_utf8, is_utf8-from_IsUtf8}
use Rattle.std.specs.Str.{IsUtf8, is_utf8}
use Rattle.serde_json.specs.Data.{Data}
use Rattle.serde_json.specs.Read.{read}
use Rattle.serde_json.specs.Written.{has_float}
use Rattle.sync_info.specs.Read.{option_filter, whole_value}

abbrev with_whole_numbers : Option Data → Option Data
with_whole_numbers = option_filter (λ d. not (has_float d))

pub whole_value-read : (text : List ℕ) (d : Data) → IsUtf8 text → read text ≡ Some d
    → has_float d ≡ false → whole_value text ≡ Some d
whole_value-read text d utf8 reads whole =
    cond-true (is_utf8 text) _ _ (is_utf8-from_IsUtf8 text utf8) ∙ ap with_whole_numbers reads
    ∙ cond-true (not (has_float d)) _ _ (not_from_false _ whole)

refused : (text : List ℕ) (b : Bool) → is_utf8 text ≡ b → (IsUtf8 text → read text ≡ None)
    → whole_value text ≡ None
refused text true utf8 unread = cond-true (is_utf8 text) _ _ utf8
    ∙ ap with_whole_numbers (unread (IsUtf8-from_is_utf8 text utf8))
refused text false other unread = cond-false (is_utf8 text) _ _ other

pub whole_value-refused : (text : List ℕ) → (IsUtf8 text → read text ≡ None)
    → whole_value text ≡ None
whole_value-refused text unread = refused text (is_utf8 text) refl unread
