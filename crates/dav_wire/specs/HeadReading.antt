-- What a client reads of the head of a response in the bytes that came so far.
use Rattle.std.specs.Prelude.{◌≡◌, ◌==◌, ◌&&◌, ℕ, Bool, not, List, length}
use Rattle.httparse.specs.Grammar.{ResponseHead, print_response, status_code}
use Rattle.jop_target.specs.declared.call.Call.{Call}
use Rattle.dav_wire.specs.Requests.{closes}
use Rattle.dav_wire.specs.ResponseFrames.{frame_of}
use Rattle.dav_wire.specs.ResponseReading.{BeginsWith, IsUnfinished, IsUnreadable, fields_of}
use Rattle.dav_wire.specs.declared.frame.Frame.{Frame}
use Rattle.dav_wire.specs.declared.head_reader.ReadHead.{ReadHead}
use Rattle.dav_wire.specs.declared.head_reader.ReadHead.TheVariants.{Whole, More, Bad}

-- whether the connection stays open behind a response of this head (RFC 9112, 9.3): not of HTTP/1.0,
-- and not where a field `Connection` has the value `close`
abbrev pub stays_open : ResponseHead → Bool
stays_open head = (head.minor == 1) && not (closes (fields_of head))

-- whether it stays open behind the response that these bytes begin with, whose head is whole
abbrev pub LeavesOpen : List ℕ → Bool → Type 0
LeavesOpen bytes lasts =
    (head : ResponseHead) × (rest : List ℕ) × BeginsWith bytes head rest × (lasts ≡ stays_open head)

-- the bytes begin with a head of this length, which tells this, and then the rest
pub record HeadTells (call : Call) (bytes rest : List ℕ) (frame : Frame) (len : ℕ) : Type 0 where
  pub head : ResponseHead
  pub begins : BeginsWith bytes head rest
  pub tells : frame ≡ frame_of call (status_code head) (fields_of head)
  pub long : len ≡ length (print_response head)

-- what is read of the head of the response to a call in the bytes so far
abbrev pub HeadReadsAs : Call → List ℕ → ReadHead → Type 0
HeadReadsAs call bytes (Whole frame len lasts) =
    (rest : List ℕ) × HeadTells call bytes rest frame len × LeavesOpen bytes lasts
HeadReadsAs call bytes More = IsUnfinished bytes
HeadReadsAs call bytes Bad = IsUnreadable bytes
