-- Which words name a folder on a WebDAV server, as a user or not.
use Rattle.std.specs.Prelude.{ℕ, Bool, not, ◌&&◌, ◌||◌, ◌==◌, List, [], ◌++◌, codes, bytes_eq, length, nat_eq, nat_le, take, if◌then◌else◌, Option, Some, None, is_some, option_map, Ok, Err}
use Rattle.std.specs.Char.{is_ascii_digit}
use Rattle.std.specs.List.{ends_with, list_all, list_any}
use Rattle.percent_encoding.specs.Percent.{percent_decode}
use Rattle.url.specs.Host.{host_text}
use Rattle.url.specs.Parser.{Parsed, parse_url}
use Rattle.url.specs.Parts.{Parts, nonempty_host}
use Rattle.dav_address.specs.Addresses.{address_text}
use Rattle.dav_address.specs.declared.site.SiteName.{SiteName}

-- whether a URL may name a folder on a server: its scheme is `http`, and it has no password, query or fragment
abbrev pub is_site : Parts → Bool
is_site url =
    ((bytes_eq url.scheme (codes "http") && bytes_eq url.password [])
    && not (is_some url.query)) && not (is_some url.fragment)

-- whether a text has digits and dots alone
abbrev pub is_of_ipv4 : List ℕ → Bool
is_of_ipv4 text = list_all (λ b. b == 46 || is_ascii_digit b) text

-- whether a host is an address of IPv4 that begins with 127
abbrev pub is_in_127 : List ℕ → Bool
is_in_127 host =
    (nat_le 4 (length host) && bytes_eq (take 4 host) (codes "127.")) && is_of_ipv4 host

-- whether a host is this machine
abbrev pub is_loopback : List ℕ → Bool
is_loopback host =
    (bytes_eq host (codes "localhost") || bytes_eq host (codes "[::1]")) || is_in_127 host

abbrev pub has_colon : List ℕ → Bool
has_colon user = list_any (λ b. b == 58) user

-- a user and the password are told to this machine alone, and a user has no colon
abbrev pub has_good_user : List ℕ → List ℕ → Bool
has_good_user host user =
    length user == 0 || (is_loopback host && not (has_colon user))

abbrev pub user_in : List ℕ → Option (List ℕ)
user_in user = if length user == 0 then None else Some user

-- a path with a slash at its end
abbrev pub path_in : List ℕ → List ℕ
path_in path = if ends_with nat_eq path (codes "/") then path else path ++ codes "/"

-- the folder on this host, as the URL's user
abbrev pub place_at : Parts → List ℕ → Option SiteName
place_at url host =
    if has_good_user host (percent_decode url.username)
    then Some (record {
      host = address_text host url.port;
      path = path_in url.path;
      user = user_in (percent_decode url.username);
    }) else None

-- the same, of a URL that may have no host
abbrev pub place_by : Parts → Option (List ℕ) → Option SiteName
place_by url None = None
place_by url (Some host) = place_at url host

-- the folder on a server that a URL names
abbrev pub place_in : Parts → Option SiteName
place_in url =
    if is_site url then place_by url (option_map host_text (nonempty_host url)) else None

abbrev pub place_from : Parsed Parts → Option SiteName
place_from (Ok url) = place_in url
place_from (Err e) = None

-- the folder on a server that a word names, read as a URL by the URL Standard
abbrev pub place_of : List ℕ → Option SiteName
place_of word = place_from (parse_url None word)
