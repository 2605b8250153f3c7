-- The reply that a response to a call is.
use Rattle.std.specs.Prelude.{ℕ, ◌-◌, ◌≡◌, ◌⊎◌, List, length, Option, Some, None}
use Rattle.jop_base.specs.declared.dir.Dir.{Dir}
use Rattle.jop_target.specs.declared.call.Call.{Call}
use Rattle.jop_target.specs.declared.reply.Entry.{Entry}
use Rattle.jop_target.specs.declared.reply.Reply.{Reply}
use Rattle.jop_target.specs.declared.reply.Reply.TheVariants as replies
use Rattle.http_exchange.specs.declared.told.Told.{Told}
use Rattle.dav_listing.specs.Listings.{ListsFiles}
use Rattle.webdav_calls.specs.Outcomes.{call_outcome}
use Rattle.webdav_calls.specs.declared.outcome.Outcome.{Outcome}
use Rattle.webdav_calls.specs.declared.outcome.Outcome.TheVariants as outcomes

-- A second before the moment that the response tells: a server stamps by a clock that may stand just before the one by
-- which it tells the date, so a stamp may show the second before one that was told already.
abbrev pub safe_moment : ℕ → ℕ
safe_moment moment = moment - 1000

-- the files that the body lists; a failure, if it is no listing of the folder
abbrev pub IsListingReply : Dir → List ℕ → List ℕ → ℕ → Reply → Type 0
IsListingReply dir folder body now reply =
    ((entries : List Entry) × ListsFiles dir folder body entries
    × (reply ≡ replies.Listed (record { now = now; entries = entries })))
    ⊎ (((entries : List Entry) → ¬ (ListsFiles dir folder body entries)) × (reply ≡ replies.Failed))

abbrev pub IsOutcomeReply : Outcome → List ℕ → List ℕ → ℕ → Reply → Type 0
IsOutcomeReply (outcomes.Listing dir) folder body now reply =
    IsListingReply dir folder body now reply
IsOutcomeReply outcomes.Content folder body now reply = reply ≡ replies.Got now body
IsOutcomeReply outcomes.Blob folder body now reply = reply ≡ replies.GotBlob now (length body)
IsOutcomeReply (outcomes.TooLong len) folder body now reply = reply ≡ replies.TooLarge len
IsOutcomeReply outcomes.Absent folder body now reply = reply ≡ replies.Absent now
IsOutcomeReply outcomes.Done folder body now reply = reply ≡ replies.Done now
IsOutcomeReply outcomes.Failed folder body now reply = reply ≡ replies.Failed

-- a response that tells no moment is a failure
abbrev pub IsMomentReply : Option ℕ → Outcome → List ℕ → List ℕ → Reply → Type 0
IsMomentReply None outcome folder body reply = reply ≡ replies.Failed
IsMomentReply (Some moment) outcome folder body reply =
    IsOutcomeReply outcome folder body (safe_moment moment) reply

-- the reply to a call that a response with this head and this body is; a listing is one of the folder that has this
-- path on the server
abbrev pub IsResponseReply : Call → Told → List ℕ → List ℕ → Reply → Type 0
IsResponseReply call told folder body reply =
    IsMomentReply told.moment (call_outcome call told) folder body reply
