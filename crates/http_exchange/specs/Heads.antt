-- What the head of a response tells (RFC 9110, 6.6.1, 7.6.1 and 15; RFC 9112, 6 and 9).
use Rattle.std.specs.Prelude.{ℕ, ◌*◌, Bool, true, false, not, ◌&&◌, ◌||◌, if◌then◌else◌, bytes_eq, List, [], ◌∷◌, codes, map, Option, Some, None, option_map, Result, Ok}
use Rattle.httparse.specs.Grammar.{ResponseHead, status_code}
use Rattle.httparse.specs.Spans.{name_and_value}
use Rattle.httpdate.specs.Date.{parse_secs}
use Rattle.dav_parts.specs.Fields.{values_of}
use Rattle.http1.specs.Conn.{keeps_alive}
use Rattle.http1.specs.Fields.{known_fields}
use Rattle.http1.specs.Framing.{response_framing}
use Rattle.http1.specs.declared.fields.KnownFields.{KnownFields}
use Rattle.http1.specs.declared.framing.Framing.{Framing}
use Rattle.http1.specs.declared.framing.Framing.TheVariants.{Length, UntilClose}
use Rattle.http1.specs.declared.framing.FramingError.{FramingError}
use Rattle.http1.specs.declared.framing.MethodKind.TheVariants as Method
use Rattle.http_exchange.specs.declared.told.Told.{Told}

-- the moment of the one date, in milliseconds since 1970; none of no date, and none of two
abbrev pub one_moment : List (List ℕ) → Option ℕ
one_moment [] = None
one_moment (value ∷ []) = option_map (λ secs. secs * 1000) (parse_secs value)
one_moment (value ∷ other ∷ values) = None

-- a field says another thing than this, which is what it means where there is none
abbrev pub differs_from : List ℕ → List (List ℕ) → Bool
differs_from usual [] = false
differs_from usual (value ∷ []) = not (bytes_eq value usual)
differs_from usual (value ∷ other ∷ values) = true

-- the moment at which the server gave this response; none if a cache has kept it since (RFC 9111, 5.1), or if its body
-- is coded (RFC 9110, 8.4)
abbrev pub own_moment : List (List ℕ × List ℕ) → Option ℕ
own_moment fields =
    if differs_from (codes "0") (values_of (codes "age") fields)
    || differs_from (codes "identity") (values_of (codes "content-encoding") fields)
    then None else one_moment (values_of (codes "date") fields)

abbrev pub is_endless : Result Framing FramingError → Bool
is_endless (Ok UntilClose) = true
is_endless framing = false

-- whether a body goes on until the link ends
abbrev pub ends_with_link : ℕ → ℕ → KnownFields → Bool
ends_with_link status minor known = is_endless (response_framing Method.Other status minor known)

abbrev pub framed_length : Result Framing FramingError → Option ℕ
framed_length (Ok (Length length)) = Some length
framed_length framing = None

-- how many bytes a body has, if it has a length
abbrev pub announced_length : ℕ → ℕ → KnownFields → Option ℕ
announced_length status minor known =
    framed_length (response_framing Method.Other status minor known)

-- what a head of this status, of HTTP/1 and this minor version, and with these fields tells
abbrev pub told_from : ℕ → ℕ → List (List ℕ × List ℕ) → Told
told_from status minor fields = record {
  status = status;
  moment = own_moment fields;
  length = announced_length status minor (known_fields fields);
  endless = ends_with_link status minor (known_fields fields);
  lasting = keeps_alive minor (known_fields fields)
      && not (ends_with_link status minor (known_fields fields));
}

-- what a head tells
abbrev pub told_in : ResponseHead → Told
told_in head = told_from (status_code head) head.minor (map name_and_value head.fields)
