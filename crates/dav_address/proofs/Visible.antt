-- The bytes of an address.
use Rattle.std.proofs.Common.{◌≡◌, ℕ, ◌^◌, ◌<◌, Bool, true, false, not, ◌&&◌, ◌==◌, nat_lt, List, ◌∷◌, decimal, Option, Some, None, option_map, IfSome, MatchOption, All, refl, sym, subst, arith, lit<, if◌then◌else◌}
use Rattle.std.specs.Prelude.{unwrap_or}
use Rattle.std.proofs.lemmas.Bool.Decides.{nat_tests}
use Rattle.std.proofs.lemmas.Fmt.{decimal_is_IsNumeral}
use Rattle.std.proofs.lemmas.Option.{same_Some}
use Rattle.std.proofs.lemmas.List.Elements.{All-append, All-cons, All-from_get_or}
use Rattle.std.proofs.lemmas.Str.Parse.{digit_at}
use Rattle.percent_encoding.specs.Percent.{IsKept}
use Rattle.percent_encoding.specs.declared.ascii_set.TheConstants.{CONTROLS}
use Rattle.url.specs.Host.{host_text, IsHostOf}
use Rattle.url.specs.Parts.{Parts, IsValid, IsPortOf, nonempty_host, has_host, kind_of}
use Rattle.url.specs.Scheme.{is_special}
use Rattle.url.specs.declared.host.Host.{Host}
use Rattle.url.specs.declared.scheme.SchemeType.{SchemeType}
use Rattle.url.specs.declared.sets.TheConstants.{FORBIDDEN_HOST, FORBIDDEN_DOMAIN}
use Rattle.url.proofs.HostLemmas.{All-host_text}
use Rattle.url.proofs.SetLemmas.{passes_from_kept}
use Rattle.dav_address.specs.Addresses.{IsVisible, address_in, address_text, is_server}

-- ---- a host

abbrev is_visible : ℕ → Bool
is_visible b = nat_lt 32 b && nat_lt b 127

abbrev is_printed : ℕ → Bool
is_printed b = nat_lt 31 b && nat_lt b 127

of_domain : (b : ℕ) → IsKept FORBIDDEN_DOMAIN b → IsVisible b
of_domain b kept =
    let test = passes_from_kept FORBIDDEN_DOMAIN is_visible refl b kept in
    grind (arith, nat_tests)

of_opaque : (b : ℕ) → IsKept FORBIDDEN_HOST b → IsKept CONTROLS b → IsVisible b
of_opaque b host kept =
    let printed = passes_from_kept CONTROLS is_printed refl b kept in
    let no_space = passes_from_kept FORBIDDEN_HOST (λ c. not (c == 32)) refl b host in
    grind (arith, nat_tests)

host_visible : (kind : SchemeType) (host : Host (List ℕ)) → IsHostOf kind host
    → All IsVisible (host_text host)
host_visible kind host h =
    All-host_text IsVisible kind host of_domain of_opaque (λ b digit. grind arith)
    (λ b hex. grind arith) (lit< tt, lit< tt) (lit< tt, lit< tt) h

-- ---- a port

port_fits : (scheme : List ℕ) (port : Option ℕ) → IsPortOf scheme port
    → unwrap_or port 80 < 2 ^ 16
port_fits scheme None h = lit< tt
port_fits scheme (Some n) h = h.0

port_visible : (n : ℕ) → n < 2 ^ 16 → All IsVisible (decimal n)
port_visible n fits =
    let digits = (decimal_is_IsNumeral n (omega arith)).0.1 in
    All-from_get_or IsVisible (decimal n) 0 (λ i h.
    let digit = digit_at (decimal n) i digits h in grind arith)

-- ---- an address

there : (b : Bool) (o : Option (Host (List ℕ))) (host : Host (List ℕ))
    → (if b then o else None) ≡ Some host → o ≡ Some host
there true o host e = e
there false o host e = cc

fits_of : (P : Type 0) (Q : Host (List ℕ) → Type 0) (o : Option (Host (List ℕ)))
    (host : Host (List ℕ)) → o ≡ Some host → MatchOption o P Q → Q host
fits_of P Q None host e h = cc
fits_of P Q (Some other) host e h = subst Q (same_Some _ _ e) h

host_fits : (url : Parts) → IsValid url → (host : Host (List ℕ)) → nonempty_host url ≡ Some host
    → All IsVisible (host_text host)
host_fits url valid host e =
    let same = there (has_host url) url.host host e in
    host_visible (kind_of url) host
    (fits_of (is_special (kind_of url) ≡ false) (IsHostOf (kind_of url)) url.host host same
    valid.head.host)

joined : (b : Bool) (o : Option (Host (List ℕ))) (port : Option ℕ)
    → ((host : Host (List ℕ)) → o ≡ Some host → All IsVisible (host_text host))
    → All IsVisible (decimal (unwrap_or port 80))
    → IfSome (if b then option_map (λ host. address_text (host_text host) port) o else None)
    (All IsVisible)
joined false o port hosts digits = tt
joined true None port hosts digits = tt
joined true (Some host) port hosts digits =
    All-append IsVisible (host_text host) (58 ∷ decimal (unwrap_or port 80)) (hosts host refl)
    (All-cons IsVisible 58 (decimal (unwrap_or port 80)) (lit< tt, lit< tt) digits)

-- an address has visible ASCII characters alone
pub address_visible : (url : Parts) (address : Option (List ℕ)) → IsValid url
    → address ≡ address_in url → IfSome address (All IsVisible)
address_visible url address valid e =
    let port = port_visible _ (port_fits url.scheme url.port valid.head.port) in
    subst (λ (a : Option (List ℕ)). IfSome a (All IsVisible)) (sym e)
    (joined (is_server url) (nonempty_host url) url.port (host_fits url valid) port)
