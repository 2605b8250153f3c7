-- Which requests are read back, and as what.
use Rattle.std.specs.Prelude.{ℕ, ◌≤◌, ◌≡◌, Bool, ◌&&◌, true, false, List, [], length, nat_lt, Some}
use Rattle.std.specs.List.{list_all}
use Rattle.jop_target.specs.Replies.{IsCallable}
use Rattle.jop_target.specs.declared.call.Call.{Call}
use Rattle.jop_target.specs.declared.call.Call.TheVariants as calls
use Rattle.dav_parts.specs.Targets.{target_of, put_limit}
use Rattle.dav_wire.specs.Requests.{HasIds, body_of}
use Rattle.dav_wire.specs.declared.request.Request.{Request}

-- a visible ASCII character
abbrev pub is_visible : ℕ → Bool
is_visible b = nat_lt 32 b && nat_lt b 127

-- a host that isn't too long for a head
pub record IsHost (host : List ℕ) : Type 0 where
  pub long : length host ≤ 16_000
  pub visible : list_all is_visible host ≡ true

-- a call that may be made, with a body within its file's limit
pub record IsSendable (call : Call) (blob : List ℕ) : Type 0 where
  pub callable : IsCallable call blob
  pub ids : HasIds call
  pub fits : length (body_of call blob) ≤ put_limit (target_of call)

-- the bytes of the blob that a call puts
abbrev pub blob_of : Call → List ℕ → List ℕ
blob_of (calls.PutBlob id len) blob = blob
blob_of call blob = []

-- the request that asks for a call
abbrev pub request_for : Call → List ℕ → Request
request_for call blob =
    record { call = Some call; blob = blob_of call blob; close = false; refusal = 0 }
