-- What single words mean.
use Rattle.std.specs.Prelude.{ℕ, List, [], ◌∷◌, codes, drop, if◌then◌else◌}
use Rattle.std.specs.Prelude.{Option, Some, None, nat_eq, bytes_eq, option_map}
use Rattle.std.specs.List.{starts_with}
use Rattle.dav_address.specs.Addresses.{address_of}
use Rattle.dav_address.specs.Places.{place_of}
use Rattle.jop_base.specs.Id.{is_id}
use Rattle.jop_words.specs.declared.target_name.TargetKind.{TargetKind}
use Rattle.jop_words.specs.declared.target_name.TargetKind.TheVariants.{Mem, Dir, Dav, WebDav}
use Rattle.jop_words.specs.declared.target_name.TargetName.{TargetName}

-- the id that a word is
abbrev pub word_id : List ℕ → Option (List ℕ)
word_id word = if is_id word then Some word else None

-- a folder, unless its path is empty
abbrev pub folder_of : List ℕ → Option TargetKind
folder_of [] = None
folder_of (c ∷ cs) = Some (Dir (c ∷ cs))

-- the server that a URL names
abbrev pub server_of : List ℕ → Option TargetKind
server_of url = option_map (λ address. Dav address) (address_of url)

-- the folder on a server that a URL names
abbrev pub site_kind : List ℕ → Option TargetKind
site_kind url = option_map (λ site. WebDav site) (place_of url)

-- `dav:` and the URL of a server, or `webdav:` and that of a folder on one
unfoldable pub remote_of : List ℕ → Option TargetKind
remote_of word =
    if starts_with nat_eq word (codes "dav:") then server_of (drop 4 word)
    else if starts_with nat_eq word (codes "webdav:") then site_kind (drop 7 word)
    else None

-- `mem:`, `dir:` and a path that isn't empty, `dav:` and the URL of a server, or `webdav:` and that of a folder on one
unfoldable pub kind_of : List ℕ → Option TargetKind
kind_of word =
    if bytes_eq word (codes "mem:") then Some Mem
    else if starts_with nat_eq word (codes "dir:") then folder_of (drop 4 word)
    else remote_of word

-- a target and the word that names it
abbrev pub named : List ℕ → Option TargetKind → Option TargetName
named word None = None
named word (Some kind) = Some (record { text = word; kind = kind })

-- the target that a word names
abbrev pub word_target : List ℕ → Option TargetName
word_target word = named word (kind_of word)
