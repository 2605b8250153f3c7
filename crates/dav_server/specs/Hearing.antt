-- How the next request is heard.
use Rattle.std.specs.Prelude.{ℕ, ◌≡◌, List, Result, Ok, Err}
use Rattle.dav_link.specs.Awaiting.{MessageNow, FailsAwaiting}
use Rattle.dav_link.specs.Links.{LinkNow, IsAtEnd}
use Rattle.dav_link.specs.Receiving.{HasKept}
use Rattle.dav_link.specs.declared.error.LinkErr.{LinkErr}
use Rattle.dav_wire.specs.RequestReading.{RequestReadsAs, IsRequestMissing}
use Rattle.dav_wire.specs.declared.request_reader.ReadRequest.{ReadRequest}
use Rattle.dav_wire.specs.declared.request_reader.ReadRequest.TheVariants.{More}

-- how a request is read in the bytes that came so far: its body may be as long as any file
abbrev pub request_now : MessageNow
request_now = record {
  misses = IsRequestMissing;
  more = λ bytes. RequestReadsAs bytes More;
  limit = 67_108_864;
}

-- the bytes that were kept read so, and as too little only if the link ended
pub record HasHeardRequest (old : LinkNow) (before : List ℕ) (read : ReadRequest) (new : LinkNow)
    (after : List ℕ) : Type 0 where
  pub bytes : List ℕ
  pub kept : HasKept old before new after bytes
  pub reads : RequestReadsAs after read
  pub ended : read ≡ More → IsAtEnd new.left

-- what hearing the next request comes to
abbrev pub HearsRequest : LinkNow → List ℕ → Result ReadRequest LinkErr → LinkNow → List ℕ → Type 0
HearsRequest old before (Ok read) new after = HasHeardRequest old before read new after
HearsRequest old before (Err error) new after = FailsAwaiting request_now error old before new after
