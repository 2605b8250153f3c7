-- What a sync does under its lease.
use Rattle.std.specs.Prelude.{◌≡◌, ◌⊎◌, [], Bool, ◌||◌, Option, Result, Ok, Err}
use Rattle.conflicts.specs.declared.error.StepErr.{StepErr}
use Rattle.conflicts.specs.declared.refusal.Refusal.{Refusal}
use Rattle.client.specs.Sites.{SiteNow}
use Rattle.download.specs.Downloading.{Downloads, is_download}
use Rattle.download.specs.Reading.{RefusesDownload}
use Rattle.jop_base.specs.declared.lock_name.LockKind.TheVariants.{Sync}
use Rattle.jop_target.specs.declared.call.Call.{Call}
use Rattle.lease.specs.Calls.{Fails}
use Rattle.lease.specs.declared.error.Seen.{Seen}
use Rattle.lease.specs.declared.lease.Lease.{Lease}
use Rattle.law_licences.specs.Trails.{session_calls}
use Rattle.keeper.specs.Keepers.{Kept}
use Rattle.session_opening.specs.Opening.{IsLawful, Opens, RefusesTarget, is_opening}
use Rattle.session.specs.Agreeing.{AgreeBut}
use Rattle.session.specs.Doing.{Does, DoesLast, HasLostLease, KeeperFails, RefusesOr, Starves, CameToEnd}
use Rattle.session.specs.Parts.{Nothing, Part, Then}
use Rattle.session.specs.Work.{IsReady, WorkNow}
use Rattle.upload.specs.Deleting.{Deletes, is_deletion}
use Rattle.upload.specs.Settled.{AreSettled}
use Rattle.upload.specs.Uploading.{Uploads, is_upload}
use Rattle.sync_session.specs.Keys.{RefusesKeys}
use Rattle.sync_session.specs.declared.sync_err.SyncErr.{SyncErr}
use Rattle.sync_session.specs.declared.sync_err.SyncErr.TheVariants.{Busy, LeaseLost, Refused, TargetFault, KeeperFault, NoMemory}

-- behind its opening a sync uploads, deletes and downloads
abbrev pub is_exchange : Call → Bool
is_exchange call = is_upload call || (is_deletion call || is_download call)

-- so far it lists nothing
abbrev pub is_sending : Call → Bool
is_sending call = is_upload call || is_deletion call

abbrev pub is_sync : Call → Bool
is_sync call = is_opening call || is_exchange call

-- What was saved here is uploaded, and what was removed here is deleted. The bytes of resources are
-- those that are kept, if the keeper tells.
abbrev pub Sends : Option Kept → Part
Sends kept = Then (Uploads kept) Deletes

-- and then what others have done is read
abbrev pub Exchanges : Option Kept → Part
Exchanges kept = Then (Sends kept) Downloads

-- the info is read and becomes one with the client's own, and then that is done
abbrev pub SyncsTables : Option Kept → Part
SyncsTables kept = Then Opens (Exchanges kept)

-- ---- where it begins

-- a session has its lease, which is a sync lease, by what is allowed, and has called nothing under it
pub record StartsSync (d : SiteNow) (lease : Lease) : Type 0 where
  pub ready : IsReady d lease
  pub sync : lease.kind ≡ Sync
  pub lawful : IsLawful lease d
  pub first : session_calls d.line.trail ≡ []

-- ---- what it comes to

-- What was saved and removed here is settled: each row that waits still has a file that this
-- session saw and couldn't read, and no deletion is left.
pub record LeavesNothing (d : SiteNow) : Type 0 where
  pub settled : AreSettled d
  pub deleted : d.tables.deletions ≡ []

-- what is done before an exchange is refused: what was saved and removed here is sent, and then the target is read
abbrev pub RefusesExchange : Option Kept → Refusal → Part
RefusesExchange kept why = Then (Sends kept) (RefusesDownload why)

-- each answer behind the opening, by its cause
abbrev pub ExchangesOr : WorkNow → Result (Unit {0}) StepErr → WorkNow → Type 0
ExchangesOr old (Ok done) new =
    DoesLast (Exchanges old.site.keeper.kept) is_exchange old new × LeavesNothing new.site
ExchangesOr old (Err e) new =
    RefusesOr (RefusesExchange old.site.keeper.kept) is_exchange old e new

-- what is done behind the opening before a sync is refused: nothing, for its keys, or so much of the exchange
abbrev pub RefusesOpened : Option Kept → Refusal → Part
RefusesOpened kept why v ds =
    (RefusesKeys why v.tables × Nothing v ds) ⊎ RefusesExchange kept why v ds

-- what is done under its lease before it is refused: its target is read, or it has been opened, and then that
abbrev pub RefusesSync : Option Kept → Refusal → Part
RefusesSync kept why v ds = RefusesTarget why v ds ⊎ Then Opens (RefusesOpened kept why) v ds

-- the lease, from whatever stamp it was held, was lost at its renewal
abbrev pub Lapses : WorkNow → WorkNow → Seen → Type 0
Lapses old new seen = CameToEnd is_sync old new × HasLostLease old.lease new seen

-- each answer, by its cause
abbrev pub SyncWorks : WorkNow → Result (Unit {0}) SyncErr → WorkNow → Type 0
SyncWorks old (Ok done) new =
    DoesLast (SyncsTables old.site.keeper.kept) is_sync old new
    × (LeavesNothing new.site × AgreeBut [] new.site)
SyncWorks old (Err (LeaseLost seen)) new = Lapses old new seen
SyncWorks old (Err (Refused why)) new =
    Does (RefusesSync old.site.keeper.kept why) is_sync old new
SyncWorks old (Err TargetFault) new =
    CameToEnd is_sync old new × Fails old.lease.client old.site.line new.site.line
SyncWorks old (Err KeeperFault) new = KeeperFails is_sync old new
SyncWorks old (Err NoMemory) new = Starves is_sync old new
SyncWorks old (Err (Busy lock now)) new = ⊥
