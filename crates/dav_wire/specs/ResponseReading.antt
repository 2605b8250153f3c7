-- What a client reads in the bytes that came so far: a whole response to its call, that they are
-- none, or too little to say. A head is what `httparse` says is one.
use Rattle.std.specs.Prelude.{◌≡◌, ℕ, ◌+◌, ◌-◌, ◌<◌, ◌≤◌, ◌⊎◌, List, [], length, take, map}
use Rattle.httparse.specs.Grammar.{ResponseHead, print_response, ReadsResponse, HasNoResponse, NeverHasResponse, MayBecomeResponse, status_code}
use Rattle.httparse.specs.Spans.{name_and_value}
use Rattle.jop_target.specs.declared.call.Call.{Call}
use Rattle.jop_target.specs.declared.reply.Entry.{Entry}
use Rattle.jop_target.specs.declared.reply.Reply.{Reply}
use Rattle.jop_target.specs.declared.reply.Reply.TheVariants as replies
use Rattle.dav_parts.specs.Fields.{Fields}
use Rattle.dav_parts.specs.Multistatus.{ReadsMultistatus}
use Rattle.dav_wire.specs.ResponseFrames.{frame_of}
use Rattle.dav_wire.specs.declared.frame.Frame.{Frame}
use Rattle.dav_wire.specs.declared.frame.Frame.TheVariants.{Unreadable, TooLong, Body}
use Rattle.dav_wire.specs.declared.outcome.Outcome.{Outcome}
use Rattle.dav_wire.specs.declared.outcome.Outcome.TheVariants as outcomes
use Rattle.dav_wire.specs.declared.response_reader.ReadResponse.{ReadResponse}
use Rattle.dav_wire.specs.declared.response_reader.ReadResponse.TheVariants.{Whole, More, Bad}

-- ---- what a body tells

-- the reply, and the bytes of a blob; the body of an absent file or of a call that is done is read
-- over
abbrev pub IsReplyOf : ℕ → Outcome → List ℕ → Reply → List ℕ → Type 0
IsReplyOf now (outcomes.Listing dir) body (replies.Listed listing) blob =
    (listing.now ≡ now) × ReadsMultistatus dir listing.entries body × (blob ≡ [])
IsReplyOf now (outcomes.Listing dir) body reply blob = ⊥
IsReplyOf now (outcomes.Content limit) body reply blob =
    (reply ≡ replies.Got now body) × (blob ≡ [])
IsReplyOf now outcomes.Blob body reply blob =
    (reply ≡ replies.GotBlob now (length body)) × (blob ≡ body)
IsReplyOf now outcomes.Absent body reply blob = (reply ≡ replies.Absent now) × (blob ≡ [])
IsReplyOf now outcomes.Done body reply blob = (reply ≡ replies.Done now) × (blob ≡ [])
IsReplyOf now outcomes.Other body reply blob = ⊥

-- the body of a listing that isn't in its layout; every other one tells a reply
abbrev pub IsNoReply : Outcome → List ℕ → Type 0
IsNoReply (outcomes.Listing dir) body =
    (entries : List Entry) → ¬ (ReadsMultistatus dir entries body)
IsNoReply outcomes.Other body = Unit {0}
IsNoReply outcome body = ⊥

-- ---- after a head

-- what is read of the rest after a head of that length that tells this
abbrev pub ResponseBodyReadsAs : Frame → List ℕ → ℕ → ReadResponse → Type 0
ResponseBodyReadsAs Unreadable rest len read = read ≡ Bad
ResponseBodyReadsAs (TooLong count) rest len read = read ≡ Whole (replies.TooLarge count) [] len
ResponseBodyReadsAs (Body now outcome count) rest len More = length rest < count
ResponseBodyReadsAs (Body now outcome count) rest len Bad =
    (count ≤ length rest) × IsNoReply outcome (take count rest)
ResponseBodyReadsAs (Body now outcome count) rest len (Whole reply blob used) =
    (count ≤ length rest) × IsReplyOf now outcome (take count rest) reply blob
    × (used ≡ len + count)

-- the names and values of the head's fields
abbrev pub fields_of : ResponseHead → Fields
fields_of head = map name_and_value head.fields

-- ---- heads

-- the bytes begin with this head, which isn't too long
pub record BeginsWith (bytes : List ℕ) (head : ResponseHead) (rest : List ℕ) : Type 0 where
  pub reads : ReadsResponse bytes head rest
  pub short : length (print_response head) ≤ 16_384

-- no head is whole, and one may still be
pub record IsUnfinished (bytes : List ℕ) : Type 0 where
  pub none : HasNoResponse bytes
  pub may : MayBecomeResponse bytes
  pub short : length bytes < 16_384

-- no head is whole in as many bytes as one may have, and none will be
pub record IsUnreadable (bytes : List ℕ) : Type 0 where
  pub none : HasNoResponse (take 16_384 bytes)
  pub never : (16_384 ≤ length bytes) ⊎ NeverHasResponse bytes

-- ---- responses

-- what is read if a head is whole
abbrev pub ResponseHeadReadsAs : Call → List ℕ → ReadResponse → Type 0
ResponseHeadReadsAs call bytes read =
    (head : ResponseHead) × (rest : List ℕ) × BeginsWith bytes head rest
    × ResponseBodyReadsAs (frame_of call (status_code head) (fields_of head)) rest
    (length (print_response head)) read

-- what is read of the response to a call in the bytes so far
abbrev pub ResponseReadsAs : Call → List ℕ → ReadResponse → Type 0
ResponseReadsAs call bytes (Whole reply blob used) =
    ResponseHeadReadsAs call bytes (Whole reply blob used)
ResponseReadsAs call bytes More = ResponseHeadReadsAs call bytes More ⊎ IsUnfinished bytes
ResponseReadsAs call bytes Bad = ResponseHeadReadsAs call bytes Bad ⊎ IsUnreadable bytes

-- so many bytes are missing, by a head that is whole and tells a body
abbrev pub IsResponseMissing : Call → List ℕ → ℕ → Type 0
IsResponseMissing call bytes missing =
    (head : ResponseHead) × (rest : List ℕ) × BeginsWith bytes head rest
    × (now : ℕ) × (outcome : Outcome) × (n : ℕ)
    × (frame_of call (status_code head) (fields_of head) ≡ Body now outcome n)
    × (missing ≡ n - length rest)
