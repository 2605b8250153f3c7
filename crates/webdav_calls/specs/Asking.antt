-- How a call is asked of a server: its method, its target, its fields and its body (RFC 9110, 9.3; RFC 4918, 9.1).
-- `http1` writes the length of the body behind the fields.
use Rattle.std.specs.Prelude.{ℕ, Bool, true, false, List, [], ◌∷◌, ◌++◌, codes, Option, Some, None, Result}
use Rattle.http1.specs.Fields.{Header}
use Rattle.jop_target.specs.declared.call.Call.{Call}
use Rattle.jop_target.specs.declared.call.Call.TheVariants as calls
use Rattle.jop_base.specs.Paths.{dir_prefix, path_text}
use Rattle.jop_base.specs.declared.path.Path.TheVariants.{Blob as BlobPath}
use Rattle.dav_link.specs.Links.{LinkNow}
use Rattle.dav_link.specs.declared.error.LinkErr.{LinkErr}
use Rattle.dav_parts.specs.Targets.{method_of, method_text}
use Rattle.http_exchange.specs.Whole.{ExchangesOnce}
use Rattle.http_exchange.specs.declared.receiving.Received.{Received}
use Rattle.webdav_calls.specs.Sites.{SiteView}

-- the name below the target's folder of what a call speaks of
abbrev pub name_of_call : Call → List ℕ
name_of_call (calls.List dir) = dir_prefix dir
name_of_call (calls.Get path) = path_text path
name_of_call (calls.Put path content) = path_text path
name_of_call (calls.Delete path) = path_text path
name_of_call (calls.MakeDir dir) = dir_prefix dir
name_of_call (calls.GetBlob id) = path_text (BlobPath id)
name_of_call (calls.PutBlob id len) = path_text (BlobPath id)

abbrev pub site_target : SiteView → Call → List ℕ
site_target site call = site.path ++ name_of_call call

-- what is asked of each resource of a folder: when it was written, and whether it is a folder
unfoldable pub two_properties : List ℕ
two_properties =
    codes "<?xml version=\"1.0\" encoding=\"utf-8\"?><d:propfind xmlns:d=\"DAV:\"><d:prop>"
    ++ codes "<d:getlastmodified/><d:resourcetype/></d:prop></d:propfind>"

abbrev pub call_content : Call → List ℕ → List ℕ
call_content (calls.List dir) blob = two_properties
call_content (calls.Put path content) blob = content
call_content (calls.PutBlob id len) blob = blob
call_content call blob = []

abbrev pub is_listing_call : Call → Bool
is_listing_call (calls.List dir) = true
is_listing_call call = false

abbrev pub user_fields : Option (List ℕ) → List Header
user_fields None = []
user_fields (Some credentials) = (codes "Authorization", credentials) ∷ []

-- a listing is of the folder and what stands right in it
abbrev pub depth_fields : Bool → List Header
depth_fields true =
    (codes "Depth", codes "1") ∷ (codes "Content-Type", codes "application/xml") ∷ []
depth_fields false = []

-- no text is wanted that was changed on the way, and none that was kept on the way
abbrev pub site_fields : SiteView → Bool → List Header
site_fields site lists =
    (codes "Host", site.host) ∷ (codes "Accept-Encoding", codes "identity")
    ∷ (codes "Cache-Control", codes "no-cache") ∷ (depth_fields lists ++ user_fields site.user)

-- a call is asked of a site over a link, and the answer is read
abbrev pub AsksSite : SiteView → Call → List ℕ → LinkNow → ℕ → ℕ → Result Received LinkErr → LinkNow
    → Type 0
AsksSite site call blob old limit most result new =
    ExchangesOnce (method_text (method_of call)) (site_target site call)
    (site_fields site (is_listing_call call)) (call_content call blob) old limit most result new
