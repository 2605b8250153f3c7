-- How the next request is heard.
use Rattle.std.proofs.Common.{◌≡◌, subst, ℕ, List, Bool}
use Rattle.std.specs.Prelude.{IsTrue, ◌↔◌}
use Rattle.dav_link.specs.Awaiting.{HasHeld, HasEndedEarly, MissesNothing}
use Rattle.dav_link.specs.Links.{LinkNow}
use Rattle.dav_link.specs.Receiving.{FailsReading}
use Rattle.dav_link.specs.declared.error.LinkErr.TheVariants.{NoMemory}
use Rattle.dav_wire.specs.RequestReading.{RequestReadsAs}
use Rattle.dav_wire.specs.declared.request_reader.ReadRequest.{ReadRequest}
use Rattle.dav_wire.specs.declared.request_reader.ReadRequest.TheVariants.{More}
use Rattle.dav_wire.proofs.RequestUnique.{one_read}
use Rattle.dav_server.specs.Hearing.{HasHeardRequest, request_now}

-- ---- a request as a message

pub more_read : (bytes : List ℕ) (read : ReadRequest) (is : Bool) → RequestReadsAs bytes read
    → (IsTrue is ↔ (read ≡ More)) → (IsTrue is ↔ RequestReadsAs bytes More)
more_read bytes read is reads both = (
  λ yes. subst (λ (r : ReadRequest). RequestReadsAs bytes r) (both.0 yes) reads,
  λ more. both.1 (one_read bytes read More reads more),
)

-- ---- what was heard

pub heard_early : (old new : LinkNow) (before after : List ℕ)
    → HasEndedEarly request_now old before new after → HasHeardRequest old before More new after
heard_early old new before after early = record {
  bytes = early.bytes;
  kept = early.kept;
  reads = early.more;
  ended = λ is. early.ended;
}

-- nothing is missing, so what is read isn't too little
pub heard_whole : (old new : LinkNow) (before after : List ℕ) (read : ReadRequest)
    → HasHeld (MissesNothing request_now) old before new after → RequestReadsAs after read
    → HasHeardRequest old before read new after
heard_whole old new before after read held reads = record {
  bytes = held.bytes;
  kept = held.kept;
  reads = reads;
  ended = λ is. absurd
      (held.holds (subst (λ (r : ReadRequest). RequestReadsAs after r) is reads));
}

pub unread : (P : List ℕ → Type 0) (old new : LinkNow) (before after : List ℕ)
    → HasHeld P old before new after → FailsReading NoMemory old new
unread P old new before after held =
    record { bytes = held.bytes; read = held.kept.read; stays = held.kept.stays }
