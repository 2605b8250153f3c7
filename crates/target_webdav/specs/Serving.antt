-- What a call on a server comes to.
use Rattle.std.specs.Prelude.{ℕ, ◌≡◌, ◌⊎◌, List, Bool, true, false, Result, Ok, Err, if◌then◌else◌}
use Rattle.std.specs.declared.alloc.AllocError.{AllocError}
use Rattle.jop_outside.specs.Outside.{HasRisen, risen}
use Rattle.jop_outside.specs.declared.failed.Failed.{Failed as LinkFailed}
use Rattle.jop_target.specs.declared.call.Call.{Call}
use Rattle.jop_target.specs.declared.reply.Reply.{Reply}
use Rattle.jop_target.specs.declared.reply.Reply.TheVariants.{GotBlob, Failed}
use Rattle.dav_link.specs.Links.{LinkNow, OpensAlone}
use Rattle.dav_link.specs.declared.error.LinkErr.{LinkErr}
use Rattle.dav_link.specs.declared.error.LinkErr.TheVariants.{Fault, NoMemory, TooLong}
use Rattle.http_exchange.specs.declared.receiving.Received.{Received}
use Rattle.http_exchange.specs.declared.told.Told.{Told}
use Rattle.webdav_calls.specs.Asking.{AsksSite}
use Rattle.webdav_calls.specs.Replies.{IsResponseReply}
use Rattle.webdav_calls.specs.Sites.{SiteView}
use Rattle.target_webdav.specs.Budgets.{came_limit, kept_limit}
use Rattle.target_webdav.specs.Clients.{SiteClient, SiteClientNow, site_client_now}
use Rattle.target_webdav.specs.Folders.{listed_folder}
use Rattle.target_webdav.specs.Marks.{is_reply_true, mark_after}
use Rattle.target_webdav.specs.declared.mark.Mark.{Mark}

-- ---- asking

-- a link is opened first, unless it may be gone on with
abbrev pub opened_first : Bool → ℕ → ℕ
opened_first true before = before
opened_first false before = risen before

-- the link is open, and the next call won't go on with it if this one ends here
pub record HasBegunAsking (old new : SiteClientNow) : Type 0 where
  pub opened : new.link.opened ≡ opened_first old.ready old.link.opened
  pub alone : OpensAlone old.link new.link
  pub ready : new.ready ≡ false

abbrev pub BeginsAsking : SiteClientNow → Result (Unit {0}) LinkFailed → SiteClientNow → Type 0
BeginsAsking old (Ok done) new = HasBegunAsking old new × (new.link.faults ≡ old.link.faults)
BeginsAsking old (Err e) new = HasBegunAsking old new × HasRisen old.link.faults new.link.faults

-- the link was opened first, unless it could be gone on with, and over it this was asked and answered
pub record AsksOpen (site : SiteView) (call : Call) (blob : List ℕ) (old : SiteClientNow)
    (result : Result Received LinkErr) (new : LinkNow) : Type 0 where
  pub mid : SiteClientNow
  pub begun : HasBegunAsking old mid
  pub stays : mid.link.faults ≡ old.link.faults
  pub asks : AsksSite site call blob mid.link (kept_limit call) (came_limit call) result new

-- the link couldn't be opened
pub record IsUnopened (old : SiteClientNow) (new : LinkNow) : Type 0 where
  pub opened : new.opened ≡ opened_first old.ready old.link.opened
  pub alone : OpensAlone old.link new
  pub rose : HasRisen old.link.faults new.faults

abbrev pub AsksFirst : SiteView → Call → List ℕ → SiteClientNow → Result Received LinkErr
    → SiteClientNow → Type 0
AsksFirst site call blob old result new =
    (new.ready ≡ false)
    × (AsksOpen site call blob old result new.link
    ⊎ (IsUnopened old new.link × (result ≡ Err Fault)))

-- ---- replies

-- what disagrees with what is remembered is a failure
abbrev pub reply_if_true : Mark → Call → Reply → Reply
reply_if_true mark call reply = if is_reply_true mark call reply then reply else Failed

-- the response is this reply to the call, if it agrees with what is remembered
pub record IsTrueReply (site : SiteView) (mark : Mark) (call : Call) (told : Told) (body : List ℕ)
    (reply : Reply) : Type 0 where
  pub heard : Reply
  pub means : IsResponseReply call told (listed_folder site call) body heard
  pub reply_is : reply ≡ reply_if_true mark call heard

-- only a blob that was got changes the bytes that travel beside a call
abbrev pub blob_got : Reply → List ℕ → List ℕ → List ℕ
blob_got (GotBlob now len) before body = body
blob_got reply before body = before

-- the call was asked, and the response to it is this reply
pub record HasTrueReply (site : SiteView) (call : Call) (blob : List ℕ) (old : SiteClientNow)
    (reply : Reply) (new : SiteClientNow) (after : List ℕ) : Type 0 where
  pub received : Received
  pub asks : AsksOpen site call blob old (Ok received) new.link
  pub means : IsTrueReply site old.mark call received.told received.body reply
  pub kept : after ≡ blob_got reply blob received.body
  pub ready : new.ready ≡ received.ready
  pub mark : new.mark ≡ mark_after old.mark call reply

-- a response came that is no reply to the call, or disagrees with what is remembered
pub record HasWrongReply (site : SiteView) (call : Call) (blob : List ℕ) (old : SiteClientNow)
    (new : LinkNow) : Type 0 where
  pub received : Received
  pub asks : AsksOpen site call blob old (Ok received) new
  pub means : IsTrueReply site old.mark call received.told received.body Failed

-- the link couldn't be opened, or no response came over it, or one that is no reply
abbrev pub IsUnanswered : SiteView → Call → List ℕ → SiteClientNow → LinkNow → Type 0
IsUnanswered site call blob old new =
    IsUnopened old new
    ⊎ (AsksOpen site call blob old (Err Fault) new ⊎ HasWrongReply site call blob old new)

-- nothing is remembered and nothing is left of a call without an answer, and the next one opens the link anew
pub record EndsWithout (old : SiteClientNow) (blob : List ℕ) (new : SiteClientNow) (after : List ℕ)
    : Type 0 where
  pub ready : new.ready ≡ false
  pub mark : new.mark ≡ old.mark
  pub kept : after ≡ blob

-- what a call comes to, before a failure is counted
abbrev pub AnswersCall : SiteView → Call → List ℕ → SiteClientNow → Result Reply LinkErr
    → SiteClientNow → List ℕ → Type 0
AnswersCall site call blob old (Ok reply) new after =
    HasTrueReply site call blob old reply new after × ¬ (reply ≡ Failed)
AnswersCall site call blob old (Err Fault) new after =
    EndsWithout old blob new after × IsUnanswered site call blob old new.link
AnswersCall site call blob old (Err NoMemory) new after = EndsWithout old blob new after
AnswersCall site call blob old (Err TooLong) new after = ⊥

-- What a call comes to: `Failed` because the link failed, or no response to it came, or one that disagrees with what is
-- remembered; any other reply because its response came.
abbrev pub ServesCall : SiteView → Call → List ℕ → SiteClientNow → Result Reply AllocError
    → SiteClientNow → List ℕ → Type 0
ServesCall site call blob old (Ok Failed) new after =
    EndsWithout old blob new after × IsUnanswered site call blob old new.link
ServesCall site call blob old (Ok reply) new after =
    HasTrueReply site call blob old reply new after
ServesCall site call blob old (Err e) new after = EndsWithout old blob new after

-- ---- over links of a kind, by what such a link tells of itself

abbrev pub AsksOver : {L : Type 0} → (L → LinkNow) → Call → List ℕ → SiteClient L
    → Result Received LinkErr → SiteClient L → Type 0
AsksOver link_now call blob old result new =
    AsksFirst old.site call blob (site_client_now link_now old) result
    (site_client_now link_now new)

abbrev pub AnswersOver : {L : Type 0} → (L → LinkNow) → Call → List ℕ → SiteClient L
    → Result Reply LinkErr → SiteClient L → List ℕ → Type 0
AnswersOver link_now call blob old result new after =
    AnswersCall old.site call blob (site_client_now link_now old) result
    (site_client_now link_now new) after

abbrev pub ServesOver : {L : Type 0} → (L → LinkNow) → Call → List ℕ → SiteClient L
    → Result Reply AllocError → SiteClient L → List ℕ → Type 0
ServesOver link_now call blob old result new after =
    ServesCall old.site call blob (site_client_now link_now old) result
    (site_client_now link_now new) after

-- two are the same but for their links, and for whether these are ready
pub record IsSameClient {L : Type 0} (old new : SiteClient L) : Type 0 where
  pub site : new.site ≡ old.site
  pub mark : new.mark ≡ old.mark
  pub faults : new.faults ≡ old.faults
