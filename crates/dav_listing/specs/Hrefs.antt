-- The path on its server that an href names (RFC 4918, 8.3; RFC 3986, 4.2 and 4.3).
use Rattle.std.specs.Prelude.{ℕ, Bool, ◌||◌, ◌&&◌, ◌==◌, List, [], ◌∷◌, length, map, take, drop, codes, Option, Some, None, is_some, option_map, if◌then◌else◌, nat_le, bytes_eq}
use Rattle.std.specs.Char.{to_ascii_lowercase}
use Rattle.std.specs.List.{list_any}
use Rattle.percent_encoding.specs.Percent.{percent_decode}

-- whether a query or a fragment stands in it
abbrev pub has_query : List ℕ → Bool
has_query href = list_any (λ b. b == 63 || b == 35) href

-- the text from its first slash on; nothing, if it has none
unfoldable pub from_slash : List ℕ → List ℕ
from_slash [] = []
from_slash (b ∷ bytes) = if b == 47 then b ∷ bytes else from_slash bytes

-- what follows this beginning of a text, if it begins so
abbrev pub rest_after : List ℕ → List ℕ → Option (List ℕ)
rest_after start text =
    if nat_le (length start) (length text) && bytes_eq (take (length start) text) start
    then Some (drop (length start) text) else None

abbrev pub path_or : Option (List ℕ) → Option (List ℕ) → Option (List ℕ)
path_or (Some rest) other = Some (from_slash rest)
path_or None other = other

-- the path with its escapes: an href that begins with a slash is one; of a whole URL it is what follows the server
abbrev pub escaped_path : List ℕ → Option (List ℕ)
escaped_path href =
    if is_some (rest_after (codes "/") href) then Some href
    else path_or (rest_after (codes "http://") href)
    (path_or (rest_after (codes "https://") href) None)

-- the path, its escapes read once
abbrev pub path_of : List ℕ → Option (List ℕ)
path_of href = if has_query href then None else option_map percent_decode (escaped_path href)

-- a name as it is where a server keeps no upper case, or where a proxy escapes once more
abbrev pub folded : List ℕ → List ℕ
folded name = map to_ascii_lowercase (percent_decode name)
