-- The requests of this project's profile of WebDAV: how each call is sent, and what a request asks
-- for.
use Rattle.std.specs.Prelude.{◌≡◌, ℕ, ◌^◌, ◌-◌, Bool, true, false, not, ◌||◌, List, [], ◌∷◌, ◌++◌, length, codes, decimal, Option, Some, None, if◌then◌else◌, nat_lt, bytes_eq}
use Rattle.std.specs.List.{list_any}
use Rattle.jop_base.specs.Id.{IsIdText}
use Rattle.jop_base.specs.Paths.{IsPath}
use Rattle.jop_target.specs.Replies.{IsCallable}
use Rattle.jop_target.specs.declared.call.Call.{Call}
use Rattle.jop_target.specs.declared.call.Call.TheVariants as calls
use Rattle.dav_parts.specs.Fields.{Fields, is_same_name, values_of}
use Rattle.jop_base.specs.Decimals.{decimal_in}
use Rattle.dav_parts.specs.Targets.{method_text, method_in, method_of, target_of, put_limit}
use Rattle.dav_parts.specs.declared.method.Method.{Method}
use Rattle.dav_parts.specs.declared.method.Method.TheVariants as methods
use Rattle.dav_wire.specs.declared.framing.Framing.{Framing}
use Rattle.dav_wire.specs.declared.framing.Framing.TheVariants.{Refused, Body}
use Rattle.dav_wire.specs.declared.request.Request.{Request}

-- ---- how a call is sent

-- the body with which a call is sent
abbrev pub body_of : Call → List ℕ → List ℕ
body_of (calls.Put path content) blob = content
body_of (calls.PutBlob id len) blob = blob
body_of call blob = []

-- a listing asks for one level (RFC 4918, 10.2)
abbrev pub depth_line : Call → List ℕ
depth_line (calls.List dir) = codes "Depth: 1\r\n"
depth_line call = []

-- the request line
unfoldable pub start_line : Call → List ℕ
start_line call = method_text (method_of call) ++ (32 ∷ (target_of call ++ codes " HTTP/1.1\r\n"))

-- the host that is asked
unfoldable pub host_line : List ℕ → List ℕ
host_line host = codes "Host: " ++ (host ++ codes "\r\n")

-- the length of the body, and the empty line after the fields
unfoldable pub length_lines : ℕ → List ℕ
length_lines count = codes "Content-Length: " ++ (decimal count ++ codes "\r\n\r\n")

-- the request line, `Host`, `Depth` for a listing, `Content-Length`, an empty line and the body
unfoldable pub request_text : List ℕ → Call → List ℕ → List ℕ
request_text host call blob =
    start_line call
    ++ (host_line host
    ++ (depth_line call ++ (length_lines (length (body_of call blob)) ++ body_of call blob)))

-- ---- what a head says of the length (RFC 9112, 6.3)

abbrev pub is_put : List ℕ → Bool
is_put method = bytes_eq method (codes "PUT")

-- what a length says, read or unreadable, under a limit
abbrev pub framing_of_number : ℕ → Option ℕ → Framing
framing_of_number limit None = Refused 400
framing_of_number limit (Some n) = if nat_lt limit n then Refused 413 else Body n

-- What the values of `Content-Length` say. Only a PUT needs one, and only a PUT has a limit below
-- 2^64.
abbrev pub framing_of_lengths : Bool → ℕ → List (List ℕ) → Framing
framing_of_lengths puts limit [] = if puts then Refused 400 else Body 0
framing_of_lengths puts limit (value ∷ []) =
    framing_of_number (if puts then limit else (2 ^ 64 - 1)) (decimal_in value)
framing_of_lengths puts limit (value ∷ other ∷ values) = Refused 400

-- whether the list has no value
abbrev pub is_none : List (List ℕ) → Bool
is_none [] = true
is_none (value ∷ values) = false

-- What a head says: that so many bytes follow it, or the status by which it is refused. A head has
-- at most 128 fields, and no `Transfer-Encoding`.
unfoldable pub framing_of : List ℕ → List ℕ → Fields → Framing
framing_of method target fields =
    if nat_lt 128 (length fields) || not (is_none (values_of (codes "transfer-encoding") fields))
    then Refused 400
    else framing_of_lengths (is_put method) (put_limit target)
    (values_of (codes "content-length") fields)

-- ---- what a request asks for

-- the ids of the call are ids
abbrev pub HasIds : Call → Type 0
HasIds (calls.List dir) = Unit {0}
HasIds (calls.Get path) = IsPath path
HasIds (calls.Put path content) = IsPath path
HasIds (calls.Delete path) = IsPath path
HasIds (calls.MakeDir dir) = Unit {0}
HasIds (calls.GetBlob id) = IsIdText id
HasIds (calls.PutBlob id len) = IsIdText id

-- the body is what the call puts; a call that puts nothing takes any
abbrev pub TakesBody : Call → List ℕ → List ℕ → Type 0
TakesBody (calls.Put path content) blob body = (content ≡ body) × (blob ≡ [])
TakesBody (calls.PutBlob id len) blob body = (len ≡ length body) × (blob ≡ body)
TakesBody call blob body = blob ≡ []

-- the call is sent by this method, to this target, with this body
pub record AsksFor
    (method : Method) (target body : List ℕ) (call : Call) (blob : List ℕ) : Type 0 where
  pub sent_by : method_of call ≡ method
  pub sent_to : target_of call ≡ target
  pub takes : TakesBody call blob body
  pub callable : IsCallable call blob
  pub ids : HasIds call

-- the one value is `1`
abbrev pub is_one : List (List ℕ) → Bool
is_one [] = false
is_one (value ∷ []) = bytes_eq value (codes "1")
is_one (value ∷ other ∷ values) = false

-- the status for a target that names nothing
abbrev pub unnamed_status : Method → ℕ
unnamed_status methods.Put = 403
unnamed_status methods.MakeDir = 403
unnamed_status method = 404

-- the call that is asked for, or the status if there is none
abbrev pub IsCallOrRefusal : Method → List ℕ → List ℕ → Option Call → List ℕ → ℕ → Type 0
IsCallOrRefusal method target body (Some call) blob refusal =
    AsksFor method target body call blob × (refusal ≡ 0)
IsCallOrRefusal method target body None blob refusal =
    ((call : Call) (bytes : List ℕ) → ¬ (AsksFor method target body call bytes))
    × (blob ≡ []) × (refusal ≡ unnamed_status method)

-- no call, and this status
abbrev pub IsRefusedBy : ℕ → Option Call → List ℕ → ℕ → Type 0
IsRefusedBy status (Some call) blob refusal = ⊥
IsRefusedBy status None blob refusal = (blob ≡ []) × (refusal ≡ status)

-- an unknown method is refused first, then a listing of another depth than 1
abbrev pub IsDecided
    : Option Method → Bool → List ℕ → List ℕ → Option Call → List ℕ → ℕ → Type 0
IsDecided None one target body call blob refusal = IsRefusedBy 405 call blob refusal
IsDecided (Some methods.List) true target body call blob refusal =
    IsCallOrRefusal methods.List target body call blob refusal
IsDecided (Some methods.List) false target body call blob refusal =
    IsRefusedBy 400 call blob refusal
IsDecided (Some method) one target body call blob refusal =
    IsCallOrRefusal method target body call blob refusal

-- whether a field `Connection` has the value `close`
abbrev pub closes : Fields → Bool
closes fields = list_any (is_same_name (codes "close")) (values_of (codes "connection") fields)

-- the request that has this head and body
pub record IsRequestFrom
    (method target : List ℕ) (fields : Fields) (body : List ℕ) (request : Request) : Type 0 where
  pub meant : IsDecided (method_in method) (is_one (values_of (codes "depth") fields)) target body
      request.call request.blob request.refusal
  pub close : request.close ≡ closes fields
