-- A response is one reply.
use Rattle.std.proofs.Common.{◌≡◌, ◌∙◌, sym, ap, inl, inr, ℕ, List, Option, Some, None}
use Rattle.jop_base.specs.declared.dir.Dir.{Dir}
use Rattle.jop_target.specs.declared.call.Call.{Call}
use Rattle.jop_target.specs.declared.reply.Entry.{Entry}
use Rattle.jop_target.specs.declared.reply.Reply.{Reply}
use Rattle.jop_target.specs.declared.reply.Reply.TheVariants as replies
use Rattle.http_exchange.specs.declared.told.Told.{Told}
use Rattle.dav_listing.proofs.OneListing.{body_is_one_listing}
use Rattle.webdav_calls.specs.Outcomes.{call_outcome}
use Rattle.webdav_calls.specs.Replies.{IsListingReply, IsMomentReply, IsOutcomeReply, IsResponseReply, safe_moment}
use Rattle.webdav_calls.specs.declared.outcome.Outcome.{Outcome}
use Rattle.webdav_calls.specs.declared.outcome.Outcome.TheVariants as outcomes

one_listing : (dir : Dir) (folder body : List ℕ) (now : ℕ) (one other : Reply)
    → IsListingReply dir folder body now one → IsListingReply dir folder body now other → one ≡ other
one_listing dir folder body now one other (inl a) (inl b) =
    a.2 ∙ ap (λ (es : List Entry). replies.Listed (record { now = now; entries = es }))
    (body_is_one_listing dir folder body a.0 b.0 a.1 b.1) ∙ sym b.2
one_listing dir folder body now one other (inl a) (inr b) = absurd (b.0 a.0 a.1)
one_listing dir folder body now one other (inr a) (inl b) = absurd (a.0 b.0 b.1)
one_listing dir folder body now one other (inr a) (inr b) = a.1 ∙ sym b.1

one_by : (outcome : Outcome) (folder body : List ℕ) (now : ℕ) (one other : Reply)
    → IsOutcomeReply outcome folder body now one → IsOutcomeReply outcome folder body now other
    → one ≡ other
one_by (outcomes.Listing dir) folder body now one other a b =
    one_listing dir folder body now one other a b
one_by outcomes.Content folder body now one other a b = a ∙ sym b
one_by outcomes.Blob folder body now one other a b = a ∙ sym b
one_by (outcomes.TooLong len) folder body now one other a b = a ∙ sym b
one_by outcomes.Absent folder body now one other a b = a ∙ sym b
one_by outcomes.Done folder body now one other a b = a ∙ sym b
one_by outcomes.Failed folder body now one other a b = a ∙ sym b

one_at : (moment : Option ℕ) (outcome : Outcome) (folder body : List ℕ) (one other : Reply)
    → IsMomentReply moment outcome folder body one → IsMomentReply moment outcome folder body other
    → one ≡ other
one_at None outcome folder body one other a b = a ∙ sym b
one_at (Some moment) outcome folder body one other a b =
    one_by outcome folder body (safe_moment moment) one other a b

pub one_reply : (call : Call) (told : Told) (folder body : List ℕ) (one other : Reply)
    → IsResponseReply call told folder body one → IsResponseReply call told folder body other
    → one ≡ other
one_reply call told folder body one other a b =
    one_at told.moment (call_outcome call told) folder body one other a b
