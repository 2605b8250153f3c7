-- The fields of a request name no other protocol, and none of its methods changes how an answer is framed.
use Rattle.std.proofs.Common.{◌≡◌, refl, ℕ, Bool, true, false, List, Option, Some, None}
use Rattle.http1.specs.declared.conn.BodySize.TheVariants.{Known}
use Rattle.http1.specs.declared.framing.MethodKind.TheVariants.{Other}
use Rattle.http1.specs.Fields.{known_fields}
use Rattle.http1.specs.Framing.{method_kind}
use Rattle.http1.specs.Text.{eq_ignore_case}
use Rattle.dav_parts.specs.Targets.{method_text}
use Rattle.dav_parts.specs.declared.method.Method.{Method}
use Rattle.dav_parts.specs.declared.method.Method.TheVariants as methods
use Rattle.http_exchange.specs.Texts.{asks_to_upgrade}
use Rattle.webdav_calls.specs.Asking.{site_fields}
use Rattle.webdav_calls.specs.Sites.{SiteView}

plain_for : (host path : List ℕ) (user : Option (List ℕ)) (lists : Bool) (count : ℕ)
    → asks_to_upgrade (Known count)
    (site_fields (record { host = host; path = path; user = user }) lists) ≡ false
unfolding known_fields eq_ignore_case
plain_for host path None true count = refl
plain_for host path None false count = refl
plain_for host path (Some user) true count = refl
plain_for host path (Some user) false count = refl

pub plain : (site : SiteView) (lists : Bool) (count : ℕ)
    → asks_to_upgrade (Known count) (site_fields site lists) ≡ false
plain site lists count = plain_for site.host site.path site.user lists count

pub kind_is_other : (m : Method) → method_kind (method_text m) ≡ Other
kind_is_other methods.List = refl
kind_is_other methods.Get = refl
kind_is_other methods.Put = refl
kind_is_other methods.Delete = refl
kind_is_other methods.MakeDir = refl
