-- What is read as an id is what passes the test for one.
use Rattle.std.proofs.Common.{◌≡◌, ℕ, List, Option, Some, None, IfSome, IfNone, refl}
use Rattle.std.proofs.lemmas.Bool.{false_from_ne_true}
use Rattle.jop_base.proofs.IdLaws.{IsIdText-from_is_id, is_id-from_IsIdText}
use Rattle.jop_base.specs.Id.{IsIdText, is_id}
use Rattle.sync_info.specs.Read.{option_filter}

pub option_filter-is_id : (text : List ℕ) (read : Option (List ℕ))
    → IfSome read (λ id. (id ≡ text) × IsIdText text) → IfNone read (¬ IsIdText text)
    → read ≡ option_filter is_id (Some text)
option_filter-is_id text (Some id) some none = rw (is_id-from_IsIdText text some.1, some.0) refl
option_filter-is_id text None some none =
    rw (false_from_ne_true (is_id text) (λ e. none (IsIdText-from_is_id text e))) refl
