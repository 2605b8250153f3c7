-- How the response to a call is waited for.
use Rattle.std.specs.Prelude.{ℕ, ◌≡◌, ◌⊎◌, List, length, nat_eq, Result, Ok, Err}
use Rattle.dav_link.specs.Awaiting.{MessageNow, MissesTooMany}
use Rattle.dav_link.specs.Links.{LinkNow, IsAtEnd}
use Rattle.dav_link.specs.Receiving.{HasReadBytes, HasBroken, HasStarved}
use Rattle.dav_link.specs.declared.error.LinkErr.{LinkErr}
use Rattle.dav_link.specs.declared.error.LinkErr.TheVariants.{Fault, NoMemory, TooLong}
use Rattle.dav_wire.specs.HeadReading.{LeavesOpen}
use Rattle.dav_wire.specs.ResponseReading.{ResponseReadsAs, IsResponseMissing}
use Rattle.dav_wire.specs.declared.response_reader.ReadResponse.TheVariants.{Whole, More, Bad}
use Rattle.jop_base.specs.declared.dir.Dir.TheVariants.{Root}
use Rattle.jop_target.specs.declared.call.Call.{Call}
use Rattle.jop_target.specs.declared.call.Call.TheVariants as calls
use Rattle.reply_reader.specs.Pieces.{Feeds, HasBeenTold}
use Rattle.reply_reader.specs.declared.fed.Fed.{Fed}
use Rattle.reply_reader.specs.declared.reply_reader.ReplyReader.{ReplyReader}
use Rattle.target_dav.specs.declared.receiving.Received.{Received}

-- the most bytes that are waited for, once its head came, of the body that answers a call: 256 MiB of a
-- listing of the root, 64 MiB of a blob, 16 MiB of any other
abbrev pub response_limit : Call → ℕ
response_limit (calls.List Root) = 268_435_456
response_limit (calls.GetBlob id) = 67_108_864
response_limit call = 16_777_216

-- how the response to a call is read in the bytes that came so far
abbrev pub response_now : Call → MessageNow
response_now call = record {
  misses = IsResponseMissing call;
  more = λ bytes. ResponseReadsAs call bytes More;
  limit = response_limit call;
}

-- why there is none though the link didn't fail: the bytes are no response to the call, the link ended
-- before a whole one, or a longer body is announced than is waited for
abbrev pub IsNoResponse : Call → List ℕ → LinkNow → Type 0
IsNoResponse call bytes new =
    ResponseReadsAs call bytes Bad
    ⊎ ((ResponseReadsAs call bytes More × IsAtEnd new.left) ⊎ MissesTooMany (response_now call) bytes)

pub record HasNoResponse (call : Call) (old new : LinkNow) : Type 0 where
  pub bytes : List ℕ
  pub read : HasReadBytes old bytes new
  pub stays : new.faults ≡ old.faults
  pub none : IsNoResponse call bytes new

-- the bytes that were read begin with the response
pub record HasResponse (call : Call) (old : LinkNow) (received : Received) (new : LinkNow)
    : Type 0 where
  pub bytes : List ℕ
  pub read : HasReadBytes old bytes new
  pub stays : new.faults ≡ old.faults
  pub used : ℕ
  pub response : ResponseReadsAs call bytes (Whole received.reply received.blob used)
  pub alone : received.alone ≡ nat_eq used (length bytes)
  pub lasts : LeavesOpen bytes received.lasts

-- ---- on the way

-- a reader was told all bytes that were read so far
pub record IsReading (call : Call) (old new : LinkNow) (r : ReplyReader) : Type 0 where
  pub bytes : List ℕ
  pub read : HasReadBytes old bytes new
  pub stays : new.faults ≡ old.faults
  pub told : HasBeenTold call r bytes

-- what a reader answered to the last of them
pub record HasSaid (call : Call) (old new : LinkNow) (fed : Fed) (r : ReplyReader) : Type 0 where
  pub bytes : List ℕ
  pub read : HasReadBytes old bytes new
  pub stays : new.faults ≡ old.faults
  pub says : Feeds call bytes fed r

-- what reading a piece more comes to, by all that was read since a moment
abbrev pub ReadsPiece : Call → LinkNow → Result Fed LinkErr → LinkNow → ReplyReader → Type 0
ReadsPiece call old (Ok fed) new r = HasSaid call old new fed r
ReadsPiece call old (Err Fault) new r = HasBroken old new ⊎ HasNoResponse call old new
ReadsPiece call old (Err TooLong) new r = ⊥
ReadsPiece call old (Err NoMemory) new r = HasStarved old new

-- ---- the whole response

abbrev pub Receives : Call → LinkNow → Result Received LinkErr → LinkNow → Type 0
Receives call old (Ok received) new = HasResponse call old received new
Receives call old (Err Fault) new = HasBroken old new ⊎ HasNoResponse call old new
Receives call old (Err TooLong) new = HasNoResponse call old new
Receives call old (Err NoMemory) new = HasStarved old new
