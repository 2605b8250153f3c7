-- What the gets of an opening come to.
use Rattle.std.specs.Prelude.{ℕ, ◌≡◌, ◌<◌, List, Option, Some, None, Result, Ok, Err, refl}
use Rattle.std.proofs.Common.{◌∙◌, sym, ap, subst, inl, inr}
use Rattle.conflicts.specs.declared.error.StepErr.{StepErr}
use Rattle.conflicts.specs.declared.error.StepErr.TheVariants.{NoMemory, Refused}
use Rattle.conflicts.specs.declared.refusal.Refusal.TheVariants.{TargetOlder, TargetNewer, BadInfo}
use Rattle.jop_base.specs.declared.lock_name.LockKind.TheVariants.{Sync}
use Rattle.jop_base.specs.declared.path.Path.TheVariants.{Info as InfoFile, OldVersion}
use Rattle.jop_target.specs.Replies.{IsReplyTo}
use Rattle.jop_target.specs.declared.call.Call.TheVariants.{Get}
use Rattle.jop_target.specs.declared.reply.Reply.{Reply}
use Rattle.jop_target.specs.declared.reply.Reply.TheVariants.{Listed, Got, GotBlob, Absent, Done, Failed, TooLarge}
use Rattle.law_licences.specs.Deeds.{Deed}
use Rattle.law_licences.specs.Infos.{info_read, or_before}
use Rattle.law_licences.specs.Views.{View, view_from}
use Rattle.session_opening.proofs.Going.{still_sync}
use Rattle.session_opening.proofs.Informed.{informed}
use Rattle.session_opening.specs.Opening.{HasRead, IsOldVersion, IsTakenInfo, ReadsInfo, ReadsOldFile, ReadsOldOr, ReadsOr, ReadsVersion, RefusesTarget, TellsInfo, is_reading}
use Rattle.session.proofs.Behind.{behind}
use Rattle.session.proofs.Ending.{does_as, does_starves, gives_up_behind}
use Rattle.session.proofs.Joins.{does_then}
use Rattle.session.proofs.Refusing.{not_refused}
use Rattle.session.specs.Doing.{Does, RefusesOr}
use Rattle.session.specs.Parts.{Hears, Then}
use Rattle.session.specs.Sessions.{HasHeard}
use Rattle.session.specs.Work.{WorkNow, view_of}
use Rattle.sync_info.specs.Info.{IsInfo}
use Rattle.sync_info.specs.declared.info.Info.{Info}
use Rattle.target_upgrade.specs.Reading.{GivesInfo, IsBadReply}
use Rattle.target_upgrade.specs.Steps.{SUPPORTED}

-- ---- the old version's file

pub absent_is : (reply : Reply) (now : ℕ) → reply ≡ Absent now → IsOldVersion 0 reply
absent_is reply now is = subst (IsOldVersion 0) (sym is) refl

pub there_is : (reply : Reply) → IsReplyTo (Get OldVersion) reply → ¬ (reply ≡ Failed)
    → ((now : ℕ) → ¬ (reply ≡ Absent now)) → IsOldVersion 1 reply
there_is (Got now content) shape heard other = refl
there_is (TooLarge len) shape heard other = refl
there_is (Absent now) shape heard other = absurd (other now refl)
there_is Failed shape heard other = absurd (heard refl)
there_is (Listed listing) shape heard other = absurd shape
there_is (GotBlob now len) shape heard other = absurd shape
there_is (Done now) shape heard other = absurd shape

pub reads_old : (a b : WorkNow) (version : ℕ) → (h : HasHeard (Get OldVersion) is_reading a b)
    → IsOldVersion version h.reply → version < SUPPORTED → ReadsOldOr a (Ok version) b
reads_old a b version h is less = (
  less,
  does_as (Hears (Get OldVersion) h.reply) (ReadsOldFile version) is_reading a b
      (λ shown ds it. (h.reply, (is, it))) h.does,
)

-- ---- the info

info_got : (info : Info) (reply : Reply) (v : View) (ds : List Deed) → GivesInfo info reply
    → Hears (Get InfoFile) reply v ds → ReadsInfo info v ds
info_got info (Got now content) v ds holds h = (now, (content, (holds, h)))
info_got info (Listed listing) v ds holds h = absurd holds
info_got info (GotBlob now len) v ds holds h = absurd holds
info_got info (Absent now) v ds holds h = absurd holds
info_got info (Done now) v ds holds h = absurd holds
info_got info Failed v ds holds h = absurd holds
info_got info (TooLarge len) v ds holds h = absurd holds

pub info_last : (info : Info) (v : View) (ds : List Deed) → ReadsInfo info v ds
    → info_read (view_from v ds).calls ≡ Some info
unfolding info_read view_from
info_last info v ds h =
    ap (λ (x : List Deed). info_read (view_from v x).calls) h.1.1.1
    ∙ ap (λ (o : Option Info). or_before o (info_read v.calls)) h.1.1.0

-- an info of the supported version was got
has_read : (info : Info) (a b : WorkNow) → (h : HasHeard (Get InfoFile) is_reading a b)
    → a.lease.kind ≡ Sync → IsInfo info → GivesInfo info h.reply → info.version ≡ SUPPORTED
    → HasRead info a b
has_read info a b h sync valid gives version =
    let does = does_as (Hears (Get InfoFile) h.reply) (ReadsInfo info) is_reading a b
    (λ shown ds. info_got info h.reply (view_of shown a.site) ds gives) h.does in
    record {
      does = does;
      read = record {
        valid = valid;
        version = version;
        last = behind (λ t cs u us. info_read us ≡ Some info) (ReadsInfo info) is_reading a b
            (info_last info) does;
      };
      told = informed b.lease b.site info h.reply h.ends h.does.ready.held
          (still_sync a.lease b.lease h.does.went.same sync) gives version;
    }

-- the info is of another version
other_version : (info : Info) (version : ℕ) (a b : WorkNow)
    → (h : HasHeard (Get InfoFile) is_reading a b) → GivesInfo info h.reply → version ≡ info.version
    → Does (ReadsVersion version) is_reading a b
other_version info version a b h gives is =
    does_as (Hears (Get InfoFile) h.reply) (ReadsVersion version) is_reading a b
    (λ shown ds it.
    inl (info, (sym is, info_got info h.reply (view_of shown a.site) ds gives it)))
    h.does

-- ---- each answer

-- an info was told
pub takes : (info : Info) (result : Result Info StepErr) (a b : WorkNow)
    → (h : HasHeard (Get InfoFile) is_reading a b) → a.lease.kind ≡ Sync → IsInfo info
    → GivesInfo info h.reply → IsTakenInfo info result → ReadsOr a result b
takes info (Ok same) a b h sync valid gives is =
    subst (λ (x : Info). HasRead x a b) (sym is.0) (has_read info a b h sync valid gives is.1)
takes info (Err (Refused (TargetOlder version))) a b h sync valid gives is =
    does_as (ReadsVersion version) (RefusesTarget (TargetOlder version)) is_reading a b
    (λ shown ds it. (is.1, it)) (other_version info version a b h gives is.0)
takes info (Err (Refused (TargetNewer version))) a b h sync valid gives is =
    does_as (ReadsVersion version) (RefusesTarget (TargetNewer version)) is_reading a b
    (λ shown ds it. (is.1, it)) (other_version info version a b h gives is.0)
takes info (Err e) a b h sync valid gives is = absurd is

-- no info was told
pub told_refuses : (a b : WorkNow) (answer : Reply) (e : StepErr)
    → (h : HasHeard (Get InfoFile) is_reading a b) → answer ≡ h.reply → TellsInfo answer (Err e)
    → RefusesOr RefusesTarget is_reading a e b
told_refuses a b answer (Refused BadInfo) h same tells =
    does_as (Hears (Get InfoFile) h.reply) (RefusesTarget BadInfo) is_reading a b
    (λ shown ds it. (h.reply, (subst IsBadReply same tells, it))) h.does
told_refuses a b answer NoMemory h same tells = does_starves h.does
told_refuses a b answer e h same tells = absurd tells

-- it was told that there is none, and the old version's file tells the version
pub absent_refuses : (a b c : WorkNow) (answer : Reply) (version : ℕ)
    → (h : HasHeard (Get InfoFile) is_reading a b) → answer ≡ h.reply → TellsInfo answer (Ok None)
    → ReadsOldOr b (Ok version) c → Does (RefusesTarget (TargetOlder version)) is_reading a c
absent_refuses a b c answer version h same tells k =
    let absent = Hears (Get InfoFile) (Absent tells.0) in
    let got = subst (λ (y : Reply). Does (Hears (Get InfoFile) y) is_reading a b)
    (sym same ∙ tells.1) h.does in
    does_as (Then absent (ReadsOldFile version)) (RefusesTarget (TargetOlder version)) is_reading a
    c (λ shown ds read. (k.0, inr (tells.0, read)))
    (does_then absent (ReadsOldFile version) is_reading a b c got k.1)

pub absent_stops : (a b c : WorkNow) (e : StepErr)
    → (h : HasHeard (Get InfoFile) is_reading a b) → ReadsOldOr b (Err e) c
    → RefusesOr RefusesTarget is_reading a e c
absent_stops a b c e h k =
    not_refused RefusesTarget is_reading a c e
    (gives_up_behind (Hears (Get InfoFile) h.reply) is_reading a b c e h.does k)
