-- What a call on a server comes to, and what is asked of every target.
use Rattle.std.proofs.Common.{◌≡◌, ◌∙◌, refl, sym, ap, subst, inl, inr, ℕ, List, length, Bool, true, false, Option, Some, None, Result, Ok, Err, if◌then◌else◌}
use Rattle.jop_outside.specs.Outside.{HasRisen}
use Rattle.jop_target.specs.Replies.{IsReplyTo, KeepsBlob}
use Rattle.jop_target.specs.declared.call.Call.{Call}
use Rattle.jop_target.specs.declared.reply.Reply.{Reply}
use Rattle.jop_target.specs.declared.reply.Reply.TheVariants.{Listed, Got, GotBlob, Absent, Done, Failed, TooLarge}
use Rattle.dav_link.specs.Links.{LinkNow}
use Rattle.dav_link.specs.declared.error.LinkErr.{LinkErr}
use Rattle.dav_link.specs.declared.error.LinkErr.TheVariants.{Fault, NoMemory, TooLong}
use Rattle.http_exchange.specs.declared.receiving.Received.{Received}
use Rattle.http_exchange.specs.declared.told.Told.{Told}
use Rattle.webdav_calls.specs.Asking.{AsksSite}
use Rattle.webdav_calls.specs.Outcomes.{call_outcome}
use Rattle.webdav_calls.specs.Replies.{IsMomentReply, IsOutcomeReply, safe_moment}
use Rattle.webdav_calls.specs.declared.outcome.Outcome.{Outcome}
use Rattle.webdav_calls.specs.declared.outcome.Outcome.TheVariants as outcomes
use Rattle.webdav_calls.specs.Sites.{SiteView}
use Rattle.target_webdav.specs.Budgets.{came_limit, kept_limit}
use Rattle.target_webdav.specs.Clients.{SiteClientNow}
use Rattle.target_webdav.specs.Marks.{is_reply_true, mark_after}
use Rattle.target_webdav.specs.Serving.{AnswersCall, AsksFirst, AsksOpen, EndsWithout, HasBegunAsking, HasTrueReply, IsTrueReply, ServesCall, blob_got}
use Rattle.target_webdav.specs.declared.mark.Mark.{Mark}
use Rattle.target_webdav.proofs.Fitting.{true_fits}

-- what came is no longer than what is kept
pub reply_shape : (site : SiteView) (call : Call) (blob : List ℕ) (old : SiteClientNow) (reply : Reply)
    (new : SiteClientNow) (after : List ℕ) → HasTrueReply site call blob old reply new after
    → IsReplyTo call reply
reply_shape site call blob old reply new after h =
    subst (λ (r : Reply). IsReplyTo call r) (sym h.means.reply_is)
    (true_fits old.mark call h.received.told _ h.received.body h.means.heard h.means.means
    h.asks.asks.1)

pub reply_is_served : (site : SiteView) (call : Call) (blob : List ℕ) (old : SiteClientNow)
    (reply : Reply) (new : SiteClientNow) (after : List ℕ)
    → HasTrueReply site call blob old reply new after → ¬ (reply ≡ Failed)
    → ServesCall site call blob old (Ok reply) new after
reply_is_served site call blob old Failed new after h other = absurd (other refl)
reply_is_served site call blob old (Listed listing) new after h other = h
reply_is_served site call blob old (Got now content) new after h other = h
reply_is_served site call blob old (GotBlob now len) new after h other = h
reply_is_served site call blob old (Absent now) new after h other = h
reply_is_served site call blob old (Done now) new after h other = h
reply_is_served site call blob old (TooLarge len) new after h other = h

-- the call was never asked, or its answer is none
pub unserved : (site : SiteView) (call : Call) (blob : List ℕ) (old new : SiteClientNow)
    (error : LinkErr) (after : List ℕ) → AsksFirst site call blob old (Err error) new
    → EndsWithout old blob new after → AnswersCall site call blob old (Err error) new after
unserved site call blob old new Fault after (ready, inl asks) ends = (ends, inr (inl asks))
unserved site call blob old new Fault after (ready, inr closed) ends = (ends, inl closed.0)
unserved site call blob old new NoMemory after asks ends = ends
unserved site call blob old new TooLong after (ready, inl asks) ends = absurd asks.asks
unserved site call blob old new TooLong after (ready, inr closed) ends = absurd (cc closed.1)

pub was_asked : (site : SiteView) (call : Call) (blob : List ℕ) (old : SiteClientNow)
    (received : Received) (new : SiteClientNow) → AsksFirst site call blob old (Ok received) new
    → AsksOpen site call blob old (Ok received) new.link
was_asked site call blob old received new (ready, inl asks) = asks
was_asked site call blob old received new (ready, inr closed) = absurd (cc closed.1)

-- ---- the bytes of a blob

size_of : (outcome : Outcome) (folder body : List ℕ) (now : ℕ) (reply : Reply) (n len : ℕ)
    → IsOutcomeReply outcome folder body now reply → reply ≡ GotBlob n len → len ≡ length body
size_of (outcomes.Listing dir) folder body now reply n len (inl h) is = absurd (cc (h.2, is))
size_of (outcomes.Listing dir) folder body now reply n len (inr h) is = absurd (cc (h.1, is))
size_of outcomes.Content folder body now reply n len h is = absurd (cc (h, is))
size_of outcomes.Blob folder body now reply n len h is = cc (h, is)
size_of (outcomes.TooLong more) folder body now reply n len h is = absurd (cc (h, is))
size_of outcomes.Absent folder body now reply n len h is = absurd (cc (h, is))
size_of outcomes.Done folder body now reply n len h is = absurd (cc (h, is))
size_of outcomes.Failed folder body now reply n len h is = absurd (cc (h, is))

size_at : (moment : Option ℕ) (outcome : Outcome) (folder body : List ℕ) (reply : Reply) (n len : ℕ)
    → IsMomentReply moment outcome folder body reply → reply ≡ GotBlob n len → len ≡ length body
size_at None outcome folder body reply n len h is = absurd (cc (h, is))
size_at (Some moment) outcome folder body reply n len h is =
    size_of outcome folder body (safe_moment moment) reply n len h is

if_true : (b : Bool) (heard : Reply) (n len : ℕ) → GotBlob n len ≡ (if b then heard else Failed)
    → heard ≡ GotBlob n len
if_true true heard n len is = sym is
if_true false heard n len is = absurd (cc is)

blob_size : (site : SiteView) (mark : Mark) (call : Call) (told : Told) (body : List ℕ) (n len : ℕ)
    → IsTrueReply site mark call told body (GotBlob n len) → len ≡ length body
blob_size site mark call told body n len h =
    size_at told.moment (call_outcome call told) _ body h.heard n len h.means
    (if_true (is_reply_true mark call h.heard) h.heard n len h.reply_is)

pub reply_blob : (site : SiteView) (call : Call) (blob : List ℕ) (old : SiteClientNow) (reply : Reply)
    (new : SiteClientNow) (after : List ℕ) → HasTrueReply site call blob old reply new after
    → KeepsBlob None call blob (Ok reply) after
reply_blob site call blob old Failed new after h = h.kept
reply_blob site call blob old (Listed listing) new after h = h.kept
reply_blob site call blob old (Got now content) new after h = h.kept
reply_blob site call blob old (GotBlob now len) new after h = (
  blob_size site old.mark call h.received.told h.received.body now len h.means
      ∙ sym (ap (λ (l : List ℕ). length l) h.kept),
  tt,
)
reply_blob site call blob old (Absent now) new after h = h.kept
reply_blob site call blob old (Done now) new after h = h.kept
reply_blob site call blob old (TooLarge len) new after h = h.kept

-- ---- step by step

-- what was asked over a link that was opened first
pub asked_first : (site : SiteView) (call : Call) (blob : List ℕ) (old mid new : SiteClientNow)
    (result : Result Received LinkErr) → HasBegunAsking old mid
    → mid.link.faults ≡ old.link.faults
    → AsksSite site call blob mid.link (kept_limit call) (came_limit call) result new.link
    → new.ready ≡ mid.ready → AsksFirst site call blob old result new
asked_first site call blob old mid new result begun stays asks ready = (
  ready ∙ begun.ready,
  inl (record { mid = mid; begun = begun; stays = stays; asks = asks }),
)

-- a link that couldn't be opened
pub closed_first : (site : SiteView) (call : Call) (blob : List ℕ) (old new : SiteClientNow)
    → HasBegunAsking old new → HasRisen old.link.faults new.link.faults
    → AsksFirst site call blob old (Err Fault) new
closed_first site call blob old new begun rose = (
  begun.ready,
  inr (record { opened = begun.opened; alone = begun.alone; rose = rose }, refl),
)

pub true_reply_came : (site : SiteView) (call : Call) (blob : List ℕ) (old mid new : SiteClientNow)
    (received : Received) (reply : Reply) (after : List ℕ)
    → AsksFirst site call blob old (Ok received) mid
    → IsTrueReply site old.mark call received.told received.body reply
    → after ≡ blob_got reply blob received.body → new.ready ≡ received.ready
    → new.mark ≡ mark_after old.mark call reply → new.link ≡ mid.link
    → HasTrueReply site call blob old reply new after
true_reply_came site call blob old mid new received reply after asks means kept ready mark link = record {
  received = received;
  asks = subst (λ (l : LinkNow). AsksOpen site call blob old (Ok received) l) (sym link)
      (was_asked site call blob old received mid asks);
  means = means;
  kept = kept;
  ready = ready;
  mark = mark;
}

pub wrong_reply_came : (site : SiteView) (call : Call) (blob : List ℕ) (old mid : SiteClientNow)
    (received : Received) (reply : Reply) → AsksFirst site call blob old (Ok received) mid
    → IsTrueReply site old.mark call received.told received.body reply → reply ≡ Failed
    → mid.mark ≡ old.mark → AnswersCall site call blob old (Err Fault) mid blob
wrong_reply_came site call blob old mid received reply asks means failed mark = (
  record { ready = asks.0; mark = mark; kept = refl },
  inr (inr (record {
    received = received;
    asks = was_asked site call blob old received mid asks;
    means = subst (λ (r : Reply). IsTrueReply site old.mark call received.told received.body r) failed
        means;
  })),
)
