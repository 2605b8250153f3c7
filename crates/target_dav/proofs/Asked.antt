-- What a call over a link comes to, step by step.
use Rattle.std.proofs.Common.{◌≡◌, ◌⊎◌, ◌∙◌, refl, sym, ap, subst, inl, inr, arith, ℕ, List, [], length, append-nil, Bool, Option, Some, None, Result, Ok, Err}
use Rattle.jop_outside.specs.Outside.{HasRisen}
use Rattle.jop_outside.specs.Writing.{Appends, WasWritten, WasCut}
use Rattle.jop_target.specs.Replies.{IsReplyTo, KeepsBlob}
use Rattle.jop_target.specs.declared.call.Call.{Call}
use Rattle.jop_target.specs.declared.reply.Reply.{Reply}
use Rattle.jop_target.specs.declared.reply.Reply.TheVariants.{Listed, Got, GotBlob, Absent, Done, Failed, TooLarge}
use Rattle.dav_link.specs.Links.{WritesAlone, TakesBytes, sink_of}
use Rattle.dav_link.specs.Receiving.{HasReadBytes, HasBroken, HasStarved}
use Rattle.dav_link.proofs.LinkLaws.{TakesBytes-nil}
use Rattle.dav_wire.specs.Requests.{request_text}
use Rattle.dav_wire.specs.ResponseReading.{ResponseReadsAs}
use Rattle.dav_wire.specs.declared.response_reader.ReadResponse.TheVariants.{Whole}
use Rattle.dav_wire.proofs.FitLemmas.{reply_fits}
use Rattle.dav_link.specs.declared.error.LinkErr.{LinkErr}
use Rattle.dav_link.specs.declared.error.LinkErr.TheVariants.{Fault, NoMemory, TooLong}
use Rattle.target_dav.specs.Responses.{HasNoResponse, HasResponse, Receives}
use Rattle.target_dav.specs.Exchanges.{LinkClientNow, Moved, HasReply, LinkHasFailed, HasNone, HasNoRoom, IsBegun, HasSent, Tried, Exchanged, blob_after, is_ready}
use Rattle.target_dav.specs.Clients.{ClientOver}
use Rattle.target_dav.specs.declared.receiving.Received.{Received}
use Rattle.dav_wire.proofs.ToldLemmas.{no_failure, blob_length}

Appends-none : (a : Option (List ℕ)) → Appends a [] a
Appends-none None = refl
Appends-none (Some w) = ap (λ (l : List ℕ). Some l) (sym (append-nil w))

-- the same client asks the same host
pub same_host : {L : Type 0} (a b : ClientOver L) → a ≡ b → a.host ≡ b.host
same_host {L} a b is = ap (λ (t : ClientOver L). t.host) is

-- ---- the request

Moved-begun : (old new : LinkClientNow) → IsBegun old new → Moved old [] [] new
Moved-begun old new begun = record {
  opened = begun.opened;
  written = subst (λ (w : Option (List ℕ)). Appends old.link.written [] w) (sym begun.alone.written)
      (Appends-none old.link.written);
  left = subst (λ (w : Option (List ℕ)). TakesBytes old.link.left [] w) (sym begun.alone.left)
      (TakesBytes-nil old.link.left);
}

pub begun_failed : (text : List ℕ) (old new : LinkClientNow) → IsBegun old new
    → HasRisen old.link.faults new.link.faults → LinkHasFailed text old new
begun_failed text old new begun rose = record {
  sent = [];
  rest = text;
  split = refl;
  got = [];
  moved = Moved-begun old new begun;
  rose = rose;
}

pub sent_whole : (text : List ℕ) (old mid new : LinkClientNow) → IsBegun old mid
    → mid.link.faults ≡ old.link.faults
    → WasWritten (sink_of mid.link) text (sink_of new.link) → WritesAlone mid.link new.link
    → new.ready ≡ mid.ready → HasSent text old new
sent_whole text old mid new begun stays whole alone ready = record {
  opened = alone.opened ∙ begun.opened;
  written = subst (λ (w : Option (List ℕ)). Appends w text new.link.written) begun.alone.written
      whole.whole;
  left = alone.left ∙ begun.alone.left;
  stays = whole.stays ∙ stays;
  ready = ready ∙ begun.ready;
}

pub sent_cut : (text : List ℕ) (old mid new : LinkClientNow) → IsBegun old mid
    → mid.link.faults ≡ old.link.faults
    → WasCut (sink_of mid.link) text (sink_of new.link) → WritesAlone mid.link new.link
    → LinkHasFailed text old new
sent_cut text old mid new begun stays cut alone = record {
  sent = cut.start;
  rest = cut.rest;
  split = cut.split;
  got = [];
  moved = record {
    opened = alone.opened ∙ begun.opened;
    written = subst (λ (w : Option (List ℕ)). Appends w cut.start new.link.written)
        begun.alone.written cut.written;
    left = subst (λ (w : Option (List ℕ)). TakesBytes old.link.left [] w)
        (sym (alone.left ∙ begun.alone.left)) (TakesBytes-nil old.link.left);
  };
  rose = let rose = cut.rose in omega arith;
}

-- ---- the response

Moved-read : (text : List ℕ) (old mid new : LinkClientNow) (bytes : List ℕ) → HasSent text old mid
    → HasReadBytes mid.link bytes new.link → Moved old text bytes new
Moved-read text old mid new bytes sent read = record {
  opened = read.alone.opened ∙ sent.opened;
  written = subst (λ (w : Option (List ℕ)). Appends old.link.written text w)
      (sym read.alone.written) sent.written;
  left = subst (λ (w : Option (List ℕ)). TakesBytes w bytes new.link.left) sent.left read.left;
}

pub replied : (host : List ℕ) (call : Call) (blob : List ℕ) (old mid new : LinkClientNow)
    (received : Received) (after : List ℕ) → HasSent (request_text host call blob) old mid
    → HasResponse call mid.link received new.link
    → after ≡ blob_after received.reply blob received.blob
    → new.ready ≡ is_ready received.reply received.lasts received.alone
    → HasReply host call blob old received.reply new after
replied host call blob old mid new received after sent response left ready = record {
  bytes = response.bytes;
  moved = Moved-read (request_text host call blob) old mid new response.bytes sent response.read;
  stays = response.stays ∙ sent.stays;
  got = received.blob;
  used = response.used;
  response = response.response;
  kept = left;
  lasts = received.lasts;
  leaves = response.lasts;
  ready = ready ∙ ap (λ (b : Bool). is_ready received.reply received.lasts b) response.alone;
}

untold : (text : List ℕ) (call : Call) (old mid new : LinkClientNow) → HasSent text old mid
    → HasNoResponse call mid.link new.link → HasNone text call old new
untold text call old mid new sent none = record {
  bytes = none.bytes;
  moved = Moved-read text old mid new none.bytes sent none.read;
  stays = none.stays ∙ sent.stays;
  none = none.none;
}

pub none_came : (text : List ℕ) (call : Call) (old mid new : LinkClientNow) → HasSent text old mid
    → HasBroken mid.link new.link ⊎ HasNoResponse call mid.link new.link
    → LinkHasFailed text old new ⊎ HasNone text call old new
none_came text call old mid new sent (inl broken) = inl (record {
  sent = text;
  rest = [];
  split = append-nil text;
  got = broken.bytes;
  moved = Moved-read text old mid new broken.bytes sent broken.read;
  rose = let rose = broken.rose in let same = sent.stays in omega arith;
})
none_came text call old mid new sent (inr none) = inr (untold text call old mid new sent none)

pub no_room : (text : List ℕ) (old mid new : LinkClientNow) → HasSent text old mid
    → HasStarved mid.link new.link → new.ready ≡ mid.ready → HasNoRoom text old new
no_room text old mid new sent starved ready = record {
  bytes = starved.bytes;
  moved = Moved-read text old mid new starved.bytes sent starved.read;
  stays = starved.stays ∙ sent.stays;
  ready = ready ∙ sent.ready;
}

asks_failure : (host : List ℕ) (call : Call) (blob : List ℕ) (old mid new : LinkClientNow)
    (error : LinkErr) → HasSent (request_text host call blob) old mid
    → Receives call mid.link (Err error) new.link → new.ready ≡ mid.ready
    → Tried host call blob old (Err error) new blob
asks_failure host call blob old mid new Fault sent received ready = (
  ready ∙ sent.ready,
  refl,
  none_came (request_text host call blob) call old mid new sent received,
)
asks_failure host call blob old mid new TooLong sent received ready =
    (ready ∙ sent.ready, refl, untold (request_text host call blob) call old mid new sent received)
asks_failure host call blob old mid new NoMemory sent received ready =
    (refl, inr (no_room (request_text host call blob) old mid new sent received ready))

pub ask_fails : (host : List ℕ) (call : Call) (blob text : List ℕ) (old mid new : LinkClientNow)
    (r : Result Received LinkErr) (error : LinkErr) → HasSent text old mid
    → text ≡ request_text host call blob → Receives call mid.link r new.link → r ≡ Err error
    → new.ready ≡ mid.ready → Tried host call blob old (Err error) new blob
ask_fails host call blob text old mid new r error sent same received is ready =
    let A : Result Received LinkErr → Type 0 = λ x. Receives call mid.link x new.link in
    asks_failure host call blob old mid new error
    (subst (λ (t : List ℕ). HasSent t old mid) same sent) (subst A is received) ready

-- ---- what is asked of every target

pub reply_is_told : (host : List ℕ) (call : Call) (blob : List ℕ) (old : LinkClientNow) (reply : Reply)
    (new : LinkClientNow) (after : List ℕ) → HasReply host call blob old reply new after
    → Exchanged host call blob old (Ok reply) new after
reply_is_told host call blob old Failed new after h =
    absurd (no_failure call h.bytes h.got h.used h.response)
reply_is_told host call blob old (Listed listing) new after h = h
reply_is_told host call blob old (Got now content) new after h = h
reply_is_told host call blob old (GotBlob now len) new after h = h
reply_is_told host call blob old (Absent now) new after h = h
reply_is_told host call blob old (Done now) new after h = h
reply_is_told host call blob old (TooLarge len) new after h = h

pub reply_is_no_failure : (host : List ℕ) (call : Call) (blob : List ℕ) (old : LinkClientNow)
    (reply : Reply) (new : LinkClientNow) (after : List ℕ)
    → HasReply host call blob old reply new after → reply ≡ Failed → ⊥
reply_is_no_failure host call blob old reply new after h is =
    no_failure call h.bytes h.got h.used
    (subst (λ (r : Reply). ResponseReadsAs call h.bytes (Whole r h.got h.used)) is h.response)

pub reply_shape : (host : List ℕ) (call : Call) (blob : List ℕ) (old : LinkClientNow) (reply : Reply)
    (new : LinkClientNow) (after : List ℕ) → HasReply host call blob old reply new after
    → IsReplyTo call reply
reply_shape host call blob old reply new after h =
    reply_fits call h.bytes reply h.got h.used h.response

pub reply_blob : (host : List ℕ) (call : Call) (blob : List ℕ) (old : LinkClientNow) (reply : Reply)
    (new : LinkClientNow) (after : List ℕ) → HasReply host call blob old reply new after
    → KeepsBlob None call blob (Ok reply) after
reply_blob host call blob old Failed new after h = h.kept
reply_blob host call blob old (Listed listing) new after h = h.kept
reply_blob host call blob old (Got now content) new after h = h.kept
reply_blob host call blob old (GotBlob now len) new after h = (
  blob_length call h.bytes now len h.got h.used h.response
      ∙ sym (ap (λ (l : List ℕ). length l) h.kept),
  tt,
)
reply_blob host call blob old (Absent now) new after h = h.kept
reply_blob host call blob old (Done now) new after h = h.kept
reply_blob host call blob old (TooLarge len) new after h = h.kept
