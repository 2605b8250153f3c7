-- Which words ask for a trial of a server.
use Rattle.std.specs.Prelude.{ℕ, List, [], ◌∷◌, codes, drop, if◌then◌else◌, Option, None, nat_eq, bytes_eq}
use Rattle.std.specs.List.{starts_with}
use Rattle.dav_address.specs.Places.{place_of}
use Rattle.dav_address.specs.declared.site.SiteName.{SiteName}

-- the folder on a server that a target is
abbrev pub trial_of : List ℕ → Option SiteName
trial_of word =
    if starts_with nat_eq word (codes "webdav:") then place_of (drop 7 word) else None

-- `try`, and a folder on a server
abbrev pub trial_words : List (List ℕ) → Option SiteName
trial_words (verb ∷ target ∷ []) = if bytes_eq verb (codes "try") then trial_of target else None
trial_words words = None
