-- Which words name a WebDAV server, and its address.
use Rattle.std.specs.Prelude.{ℕ, ◌<◌, Bool, not, ◌&&◌, List, [], ◌++◌, codes, decimal, bytes_eq, if◌then◌else◌}
use Rattle.std.specs.Prelude.{Option, None, is_some, unwrap_or, option_map, Ok, Err}
use Rattle.url.specs.Host.{host_text}
use Rattle.url.specs.Parser.{Parsed, parse_url}
use Rattle.url.specs.Parts.{Parts, nonempty_host}

-- whether a URL has no credentials, as `user:password@`
abbrev pub is_open : Parts → Bool
is_open url = bytes_eq url.username [] && bytes_eq url.password []

-- whether a URL names a server and nothing on it: its scheme is `http`, its path is `/`, and it has
-- neither credentials nor a query nor a fragment
abbrev pub is_server : Parts → Bool
is_server url =
    bytes_eq url.scheme (codes "http") && (bytes_eq url.path (codes "/")
    && (is_open url && (not (is_some url.query) && not (is_some url.fragment))))

-- `host:port`, with the port of `http` if there is none
abbrev pub address_text : List ℕ → Option ℕ → List ℕ
address_text host port = host ++ (codes ":" ++ decimal (unwrap_or port 80))

-- the address of the server that a URL names
abbrev pub address_in : Parts → Option (List ℕ)
address_in url =
    if is_server url
    then option_map (λ host. address_text (host_text host) url.port) (nonempty_host url)
    else None

-- that of a URL that was read
abbrev pub address_from : Parsed Parts → Option (List ℕ)
address_from (Ok url) = address_in url
address_from (Err e) = None

-- the address that a word names, read as a URL by the URL Standard
abbrev pub address_of : List ℕ → Option (List ℕ)
address_of word = address_from (parse_url None word)

-- a visible ASCII character
abbrev pub IsVisible : ℕ → Type 0
IsVisible b = (32 < b) × (b < 127)
