-- The version of a target.
use Rattle.std.specs.Prelude.{ℕ, Bool, true, false, List, Option, Some, None, option_map}
use Rattle.sync_info.specs.Read.{info_in}

-- That of its `info.json`, if it has one, and none if that can't be read. Without one it is 1 if `version.txt` is
-- there, and 0 if nothing is.
abbrev pub version_of : Option (List ℕ) → Bool → Option ℕ
version_of (Some text) has_old = option_map (λ info. info.version) (info_in text)
version_of None true = Some 1
version_of None false = Some 0
