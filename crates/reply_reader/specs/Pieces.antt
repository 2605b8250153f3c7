-- What a reader has read of a response in the pieces that came so far.
use Rattle.std.specs.Prelude.{◌≡◌, ℕ, ◌+◌, ◌-◌, ◌^◌, ◌<◌, Bool, List, [], ◌∷◌, ◌++◌, length}
use Rattle.jop_target.specs.declared.call.Call.{Call}
use Rattle.jop_target.specs.declared.call.Call.TheVariants as calls
use Rattle.jop_target.specs.declared.reply.Reply.{Reply}
use Rattle.dav_wire.specs.HeadReading.{HeadTells, LeavesOpen}
use Rattle.dav_wire.specs.ResponseReading.{IsUnfinished, ResponseReadsAs}
use Rattle.dav_wire.specs.declared.frame.Frame.TheVariants as frames
use Rattle.dav_wire.specs.declared.outcome.Outcome.{Outcome}
use Rattle.dav_wire.specs.declared.outcome.Outcome.TheVariants.{Listing, Content, Blob, Absent, Done, Other}
use Rattle.dav_wire.specs.declared.response_reader.ReadResponse.{ReadResponse}
use Rattle.dav_wire.specs.declared.response_reader.ReadResponse.TheVariants as reads
use Rattle.reply_reader.specs.Layouts.{HasReadLayout}
use Rattle.reply_reader.specs.declared.fed.Fed.{Fed}
use Rattle.reply_reader.specs.declared.fed.Fed.TheVariants.{More, Whole, Bad}
use Rattle.reply_reader.specs.declared.reply_reader.ReplyReader.{ReplyReader}
use Rattle.reply_reader.specs.declared.state.State.{State}
use Rattle.reply_reader.specs.declared.state.State.TheVariants.{Head, Body, Lines, Told, Over}

-- ---- what is kept

-- a call without the bytes that it puts
abbrev pub bare : Call → Call
bare (calls.List dir) = calls.List dir
bare (calls.Get path) = calls.Get path
bare (calls.Put path content) = calls.Put path []
bare (calls.Delete path) = calls.Delete path
bare (calls.MakeDir dir) = calls.MakeDir dir
bare (calls.GetBlob id) = calls.GetBlob id
bare (calls.PutBlob id len) = calls.PutBlob id len

-- the body that tells this lists no folder, and tells a reply
abbrev pub HasPlainBody : Outcome → Type 0
HasPlainBody (Listing dir) = ⊥
HasPlainBody Other = ⊥
HasPlainBody outcome = Unit {0}

-- what is kept of such a body once more of it came
abbrev pub body_kept : Outcome → List ℕ → List ℕ → List ℕ
body_kept (Content limit) kept piece = kept ++ piece
body_kept Blob kept piece = kept ++ piece
body_kept outcome kept piece = kept

-- all is kept of a file's body, and nothing of another
abbrev pub KeepsBody : Outcome → List ℕ → List ℕ → Type 0
KeepsBody (Content limit) kept body = kept ≡ body
KeepsBody Blob kept body = kept ≡ body
KeepsBody Absent kept body = kept ≡ []
KeepsBody Done kept body = kept ≡ []
KeepsBody (Listing dir) kept body = ⊥
KeepsBody Other kept body = ⊥

-- how many bytes are kept that are neither in the reply nor in the blob
abbrev pub held_of : State → ℕ
held_of (Head kept) = length kept
held_of (Body now outcome left kept) = 0
held_of (Lines now left lines) = length lines.line
held_of (Told reply blob) = 0
held_of Over = 0

-- fewer than 16,384 of a head, and fewer than 512 of a body
abbrev pub HoldsLittle : State → Type 0
HoldsLittle (Head kept) = length kept < 16_384
HoldsLittle state = held_of state < 512

-- how many bytes of a body are missing
abbrev pub missing_of : State → ℕ
missing_of (Head kept) = 0
missing_of (Body now outcome left kept) = left
missing_of (Lines now left lines) = left
missing_of (Told reply blob) = 0
missing_of Over = 0

-- how many bytes may still come, at most: those of the longest head, and of the longest body behind it
abbrev pub room_of : State → ℕ
room_of (Head kept) = (2 ^ 64 + 16_384) - length kept
room_of (Body now outcome left kept) = left
room_of (Lines now left lines) = left
room_of (Told reply blob) = 0
room_of Over = 0

-- ---- what may follow

-- more may be taken
abbrev pub TakesMore : State → Type 0
TakesMore (Head kept) = IsUnfinished kept
TakesMore (Body now outcome left kept) = HasPlainBody outcome
TakesMore (Lines now left lines) = Unit {0}
TakesMore (Told reply blob) = ⊥
TakesMore Over = ⊥

-- a reply is told
abbrev pub HasTold : State → Type 0
HasTold (Told reply blob) = Unit {0}
HasTold state = ⊥

-- more may be taken after `More`, and the reply after `Whole`
abbrev pub Stands : Fed → State → Type 0
Stands More state = TakesMore state
Stands (Whole rest) state = HasTold state
Stands Bad state = Unit {0}

-- after `More` there is room for less
abbrev pub FallsBelow : ℕ → Fed → State → Type 0
FallsBelow room More state = room_of state < room
FallsBelow room fed state = Unit {0}

-- ---- the bytes so far

-- They have a head that tells such a body, then this much of it, and so many bytes are missing.
pub record CountsBody (call : Call) (bytes : List ℕ) (now : ℕ) (outcome : Outcome) (left : ℕ)
    (body : List ℕ) : Type 0 where
  pub len : ℕ
  pub count : ℕ
  pub head : HeadTells call bytes body (frames.Body now outcome count) len
  pub counts : length body + left ≡ count

-- where a reader stands that was told them, and whether the connection lasts
abbrev pub StateAfter : Call → State → Bool → List ℕ → Type 0
StateAfter call (Head kept) lasts told = (told ≡ kept) × IsUnfinished told
StateAfter call (Body now outcome left kept) lasts told =
    (body : List ℕ) × CountsBody call told now outcome left body × KeepsBody outcome kept body
    × (0 < left) × LeavesOpen told lasts
StateAfter call (Lines now left lines) lasts told =
    (body : List ℕ) × CountsBody call told now (Listing lines.dir) left body × HasReadLayout lines body
    × (0 < left) × LeavesOpen told lasts
StateAfter call (Told reply blob) lasts told = ⊥
StateAfter call Over lasts told = ⊥

-- these bytes came of the response to the call, and it isn't whole
pub record HasBeenTold (call : Call) (r : ReplyReader) (told : List ℕ) : Type 0 where
  pub asks : r.call ≡ bare call
  pub stands : StateAfter call r.state r.lasts told

-- ---- an answer

-- all bytes so far are a whole response, of which so many bytes at their end aren't part
pub record HasReadReply (call : Call) (bytes : List ℕ) (rest : ℕ) (new : ReplyReader) : Type 0 where
  pub reply : Reply
  pub blob : List ℕ
  pub used : ℕ
  pub response : ResponseReadsAs call bytes (reads.Whole reply blob used)
  pub counts : used + rest ≡ length bytes
  pub told : new.state ≡ Told reply blob
  pub lasts : LeavesOpen bytes new.lasts

-- what an answer says of all bytes so far
abbrev pub Feeds : Call → List ℕ → Fed → ReplyReader → Type 0
Feeds call bytes More new = ResponseReadsAs call bytes reads.More × HasBeenTold call new bytes
Feeds call bytes (Whole rest) new = HasReadReply call bytes rest new
Feeds call bytes Bad new = ResponseReadsAs call bytes reads.Bad

-- what it says is what one reading says
abbrev pub SaysAs : List ℕ → Fed → ReplyReader → ReadResponse → Type 0
SaysAs bytes More new read = read ≡ reads.More
SaysAs bytes (Whole rest) new read =
    (reply : Reply) × (blob : List ℕ) × (used : ℕ) × (read ≡ reads.Whole reply blob used)
    × (used + rest ≡ length bytes) × (new.state ≡ Told reply blob)
SaysAs bytes Bad new read = read ≡ reads.Bad

-- ---- a list of pieces

-- a reader was fed this piece and answered so
abbrev pub WasFed : ReplyReader → List ℕ → Fed → ReplyReader → Type 0
WasFed old piece fed new =
    (call : Call) (told : List ℕ) → HasBeenTold call old told → Feeds call (told ++ piece) fed new

-- it was fed these pieces one after the other, to each of which it answered `More`, and then the last
unfoldable pub RunsTo : ReplyReader → List (List ℕ) → List ℕ → Fed → ReplyReader → Type 0
RunsTo old [] last fed new = WasFed old last fed new
RunsTo old (piece ∷ pieces) last fed new =
    (mid : ReplyReader) × WasFed old piece More mid × RunsTo mid pieces last fed new

-- pieces and the last one as one text
unfoldable pub text_of_pieces : List (List ℕ) → List ℕ → List ℕ
text_of_pieces [] last = last
text_of_pieces (piece ∷ pieces) last = piece ++ text_of_pieces pieces last
