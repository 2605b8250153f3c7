-- What a call over a link comes to.
use Rattle.std.specs.Prelude.{ℕ, ◌≡◌, ◌⊎◌, ◌&&◌, List, ◌++◌, length, Bool, true, false, nat_eq, Result, Ok, Err}
use Rattle.std.specs.declared.alloc.AllocError.{AllocError}
use Rattle.jop_outside.specs.Outside.{HasRisen, risen}
use Rattle.jop_outside.specs.Writing.{Appends}
use Rattle.jop_target.specs.declared.call.Call.{Call}
use Rattle.jop_target.specs.declared.reply.Reply.{Reply}
use Rattle.jop_target.specs.declared.reply.Reply.TheVariants.{GotBlob, Failed, TooLarge}
use Rattle.jop_outside.specs.declared.failed.Failed.{Failed as LinkFailed}
use Rattle.dav_link.specs.Links.{LinkNow, OpensAlone, TakesBytes}
use Rattle.dav_link.specs.declared.error.LinkErr.{LinkErr}
use Rattle.dav_link.specs.declared.error.LinkErr.TheVariants.{Fault, NoMemory, TooLong}
use Rattle.dav_wire.specs.HeadReading.{LeavesOpen}
use Rattle.dav_wire.specs.Requests.{request_text}
use Rattle.dav_wire.specs.ResponseReading.{ResponseReadsAs}
use Rattle.dav_wire.specs.declared.response_reader.ReadResponse.TheVariants.{Whole}
use Rattle.target_dav.specs.Responses.{IsNoResponse}
use Rattle.target_dav.specs.Clients.{ClientOver}

-- a client at a moment: its link, and whether the next call may go on with it
pub record LinkClientNow : Type 0 where
  pub link : LinkNow
  pub ready : Bool

abbrev pub client_at : LinkNow → Bool → LinkClientNow
client_at link ready = record { link = link; ready = ready }

-- a link is opened first, unless it may be gone on with
abbrev pub openings : Bool → ℕ → ℕ
openings true before = before
openings false before = risen before

-- A client may have opened its link, have written these bytes, and have read these.
pub record Moved (old : LinkClientNow) (sent got : List ℕ) (new : LinkClientNow) : Type 0 where
  pub opened : new.link.opened ≡ openings old.ready old.link.opened
  pub written : Appends old.link.written sent new.link.written
  pub left : TakesBytes old.link.left got new.link.left

-- ---- a reply

-- only a blob that was got changes the bytes that travel beside a call
abbrev pub blob_after : Reply → List ℕ → List ℕ → List ℕ
blob_after (GotBlob now len) before got = got
blob_after reply before got = before

-- Whether the next call may go on with the link: not if the reply was told by the head alone, not if
-- the server closes it behind the response, and not if bytes came behind that, which nobody asked for
-- (RFC 9112, 9.2).
abbrev pub is_ready : Reply → Bool → Bool → Bool
is_ready (TooLarge len) lasts alone = false
is_ready reply lasts alone = lasts && alone

-- the request was written, and the bytes that came begin with its response, which tells this reply
pub record HasReply (host : List ℕ) (call : Call) (blob : List ℕ) (old : LinkClientNow) (reply : Reply)
    (new : LinkClientNow) (after : List ℕ) : Type 0 where
  pub bytes : List ℕ
  pub moved : Moved old (request_text host call blob) bytes new
  pub stays : new.link.faults ≡ old.link.faults
  pub got : List ℕ
  pub used : ℕ
  pub response : ResponseReadsAs call bytes (Whole reply got used)
  pub kept : after ≡ blob_after reply blob got
  pub lasts : Bool
  pub leaves : LeavesOpen bytes lasts
  pub ready : new.ready ≡ is_ready reply lasts (nat_eq used (length bytes))

-- ---- no reply

-- the link failed on the way, with a part of the request written
pub record LinkHasFailed (text : List ℕ) (old new : LinkClientNow) : Type 0 where
  pub sent : List ℕ
  pub rest : List ℕ
  pub split : sent ++ rest ≡ text
  pub got : List ℕ
  pub moved : Moved old sent got new
  pub rose : HasRisen old.link.faults new.link.faults

-- the request was written, and no response to it came, though the link didn't fail
pub record HasNone (text : List ℕ) (call : Call) (old new : LinkClientNow) : Type 0 where
  pub bytes : List ℕ
  pub moved : Moved old text bytes new
  pub stays : new.link.faults ≡ old.link.faults
  pub none : IsNoResponse call bytes new.link

-- the request was written, and there was no memory for its response
pub record HasNoRoom (text : List ℕ) (old new : LinkClientNow) : Type 0 where
  pub bytes : List ℕ
  pub moved : Moved old text bytes new
  pub stays : new.link.faults ≡ old.link.faults
  pub ready : new.ready ≡ false

-- What a call comes to: `Failed` because the link failed, or ended before a whole response, or
-- because what came is no response to the call, or announces a longer one than is waited for; any other
-- reply because its response came. After a failure the next call opens the link anew. Out of memory nothing
-- was done, or the request was written and the next call opens the link anew.
abbrev pub Exchanged : List ℕ → Call → List ℕ → LinkClientNow → Result Reply AllocError → LinkClientNow
    → List ℕ → Type 0
Exchanged host call blob old (Ok Failed) new after =
    (new.ready ≡ false) × (after ≡ blob)
    × (LinkHasFailed (request_text host call blob) old new
    ⊎ HasNone (request_text host call blob) call old new)
Exchanged host call blob old (Ok reply) new after = HasReply host call blob old reply new after
Exchanged host call blob old (Err e) new after =
    (after ≡ blob) × ((new ≡ old) ⊎ HasNoRoom (request_text host call blob) old new)

-- ---- on the way

-- the link is open, and the next call won't go on with it if this one ends here
pub record IsBegun (old new : LinkClientNow) : Type 0 where
  pub opened : new.link.opened ≡ openings old.ready old.link.opened
  pub alone : OpensAlone old.link new.link
  pub ready : new.ready ≡ false

abbrev pub BeginsCall : LinkClientNow → Result (Unit {0}) LinkFailed → LinkClientNow → Type 0
BeginsCall old (Ok done) new = IsBegun old new × (new.link.faults ≡ old.link.faults)
BeginsCall old (Err e) new = IsBegun old new × HasRisen old.link.faults new.link.faults

-- the request was written, and nothing was read
pub record HasSent (text : List ℕ) (old new : LinkClientNow) : Type 0 where
  pub opened : new.link.opened ≡ openings old.ready old.link.opened
  pub written : Appends old.link.written text new.link.written
  pub left : new.link.left ≡ old.link.left
  pub stays : new.link.faults ≡ old.link.faults
  pub ready : new.ready ≡ false

abbrev pub SendsText : List ℕ → LinkClientNow → Result (Unit {0}) LinkFailed → LinkClientNow → Type 0
SendsText text old (Ok done) new = HasSent text old new
SendsText text old (Err e) new = (new.ready ≡ false) × LinkHasFailed text old new

-- what a call comes to, before a failure is counted
abbrev pub Tried : List ℕ → Call → List ℕ → LinkClientNow → Result Reply LinkErr → LinkClientNow
    → List ℕ → Type 0
Tried host call blob old (Ok reply) new after = HasReply host call blob old reply new after
Tried host call blob old (Err Fault) new after =
    (new.ready ≡ false) × (after ≡ blob)
    × (LinkHasFailed (request_text host call blob) old new
    ⊎ HasNone (request_text host call blob) call old new)
Tried host call blob old (Err TooLong) new after =
    (new.ready ≡ false) × (after ≡ blob) × HasNone (request_text host call blob) call old new
Tried host call blob old (Err NoMemory) new after =
    (after ≡ blob) × ((new ≡ old) ⊎ HasNoRoom (request_text host call blob) old new)

-- ---- over links of a kind, by what such a link tells of itself

-- what a target is as a client
abbrev pub client_now : {L : Type 0} → (L → LinkNow) → ClientOver L → LinkClientNow
client_now link_now target = client_at (link_now target.link) target.ready

-- what a call comes to
abbrev pub CallsOver : {L : Type 0} → (L → LinkNow) → Call → List ℕ → ClientOver L
    → Result Reply AllocError → ClientOver L → List ℕ → Type 0
CallsOver link_now call blob old result new after =
    Exchanged old.host call blob (client_now link_now old) result (client_now link_now new) after

-- what it comes to before a failure is counted
abbrev pub TriesOver : {L : Type 0} → (L → LinkNow) → Call → List ℕ → ClientOver L
    → Result Reply LinkErr → ClientOver L → List ℕ → Type 0
TriesOver link_now call blob old result new after =
    Tried old.host call blob (client_now link_now old) result (client_now link_now new) after
