-- What a part of a session leaves, by each of its answers.
use Rattle.std.specs.Prelude.{ℕ, ◌≤◌, ◌≡◌, List, [], ◌++◌, length, map, option_map, Bool, true, false, Option, Result, Ok, Err}
use Rattle.conflicts.specs.declared.error.StepErr.{StepErr}
use Rattle.conflicts.specs.declared.error.StepErr.TheVariants.{Lost, TargetFault, KeeperFault, Refused, NoMemory}
use Rattle.conflicts.specs.declared.refusal.Refusal.{Refusal}
use Rattle.client.specs.Sites.{IsTidy}
use Rattle.jop_outside.specs.Outside.{HasRisen}
use Rattle.jop_target.specs.Runs.{has_failed}
use Rattle.jop_target.specs.declared.call.Call.{Call}
use Rattle.lease.specs.Calls.{Fails, GoesOn}
use Rattle.lease.specs.Discipline.{session_of}
use Rattle.lease.specs.Outcomes.{HasMissed}
use Rattle.lease.specs.Phase.{Renewing}
use Rattle.lease.specs.Standing.{IsSameBut}
use Rattle.lease.specs.Work.{NoneFailed}
use Rattle.lease.specs.declared.error.Seen.{Seen}
use Rattle.lease.specs.declared.lease.Lease.{Lease}
use Rattle.law_licences.specs.Deeds.{Deed, changes_in, events_of}
use Rattle.law_licences.specs.Licences.{AreWork, ObeysData}
use Rattle.law_licences.specs.Views.{Finished, Shown, Stage, Working, view_from}
use Rattle.local_store.specs.Changing.{after_all}
use Rattle.keeper.specs.declared.blob.Blob.{Blob}
use Rattle.session.specs.Agreeing.{AgreeBut}
use Rattle.session.specs.Parts.{Part, but_locks}
use Rattle.session.specs.Reported.{reported}
use Rattle.session.specs.Saving.{Told, blobs_got, kept_after_saves, tale_of}
use Rattle.session.specs.Steps.{IsStep, works_by}
use Rattle.session.specs.Work.{MayBeShown, IsReady, WorkNow, view_of}

-- A session has gone on by these deeds: calls and changes, each with its licence. Its work is of
-- this sort, and else only its lease calls. The changes are kept, if the keeper tells, and the
-- bytes of resources that were saved: those that were got, in that order, but for the last ones,
-- which are still owed. It works
-- by the same references.
pub record Went (sort : Call → Bool) (old new : WorkNow) : Type 0 where
  pub deeds : List Deed
  pub saves : List Blob
  pub owed : List Told
  pub trail : new.site.line.trail
      ≡ old.site.line.trail ++ events_of (length old.site.made) deeds
  pub made : new.site.made ≡ old.site.made ++ changes_in deeds
  pub kept : new.site.keeper.kept
      ≡ option_map (kept_after_saves (changes_in deeds) saves) old.site.keeper.kept
  pub got : blobs_got deeds ≡ map tale_of saves ++ owed
  pub work : AreWork deeds
  pub obeys : (shown : Option Shown) → MayBeShown old.known shown
      → ObeysData (view_of shown old.site) deeds
  pub goes :
      GoesOn (IsStep sort old.lease.client) old.lease.client old.site.line new.site.line
  pub sorted : works_by sort old.lease.client
      (session_of old.lease.client old.site.line.trail)
      (events_of (length old.site.made) deeds) ≡ true
  pub later : old.site.keeper.faults ≤ new.site.keeper.faults
  pub same : IsSameBut old.lease new.lease
  pub place : new.place ≡ old.place

-- its tables are those after the changes, and its report says what was done
pub record IsTold (old new : WorkNow) (deeds : List Deed) : Type 0 where
  pub tidy : IsTidy new.site
  pub tables : new.site.tables ≡ after_all old.site.tables (changes_in deeds)
  pub report : (shown : Option Shown)
      → new.report ≡ reported (view_of shown old.site) old.report deeds

-- It was this part of a session, in which nothing failed. The session stands there now, and these bytes that it got are
-- still to be saved.
pub record DoesTo (there : Stage) (left : List Told) (P : Part) (sort : Call → Bool)
    (old new : WorkNow) : Type 0 where
  pub went : Went sort old new
  pub told : IsTold old new went.deeds
  pub part : (shown : Option Shown) → P (view_of shown old.site) (but_locks went.deeds)
  pub stands : (shown : Option Shown)
      → (view_from (view_of shown old.site) went.deeds).stage ≡ there
  pub sees : (shown : Option Shown) → MayBeShown old.known shown
      → MayBeShown new.known (view_from (view_of shown old.site) went.deeds).shown
  pub owes : went.owed ≡ left
  pub agrees : AgreeBut [] old.site → AgreeBut left new.site
  pub heard : has_failed (events_of (length old.site.made) went.deeds) ≡ false
  pub well : new.site.keeper.faults ≡ old.site.keeper.faults
  pub ready : IsReady new.site new.lease

-- all that it got is saved, and more may be done
abbrev pub Does : Part → (Call → Bool) → WorkNow → WorkNow → Type 0
Does P sort old new = DoesTo Working [] P sort old new

-- or it was the session's last part
abbrev pub DoesLast : Part → (Call → Bool) → WorkNow → WorkNow → Type 0
DoesLast P sort old new = DoesTo Finished [] P sort old new

-- it went on and came to an end
pub record CameToEnd (sort : Call → Bool) (old new : WorkNow) : Type 0 where
  pub went : Went sort old new
  pub told : IsTold old new went.deeds

-- the lease, from whatever stamp it was held, was lost at its renewal
abbrev pub HasLostLease : Lease → WorkNow → Seen → Type 0
HasLostLease lease new seen =
    (stamp : ℕ)
    × HasMissed lease.kind lease.client (Renewing lease.kind stamp) new.site.line.trail seen

-- the keeper failed, and the session could go on
pub record KeeperFails (sort : Call → Bool) (old new : WorkNow) : Type 0 where
  pub stops : CameToEnd sort old new
  pub ready : IsReady new.site new.lease
  pub rose : HasRisen old.site.keeper.faults new.site.keeper.faults

-- Memory ran out: no call was answered `Failed`, and the keeper didn't fail. Tables and report may
-- lag behind what was done.
pub record Starves (sort : Call → Bool) (old new : WorkNow) : Type 0 where
  pub went : Went sort old new
  pub heard : NoneFailed old.site.line.trail new.site.line.trail
  pub well : new.site.keeper.faults ≡ old.site.keeper.faults

-- why it gave nothing, by each error
abbrev pub GivesNothing : (Call → Bool) → WorkNow → StepErr → WorkNow → Type 0
GivesNothing sort old (Lost seen) new = CameToEnd sort old new × HasLostLease old.lease new seen
GivesNothing sort old TargetFault new =
    CameToEnd sort old new × Fails old.lease.client old.site.line new.site.line
GivesNothing sort old KeeperFault new = KeeperFails sort old new
GivesNothing sort old (Refused why) new = ⊥
GivesNothing sort old NoMemory new = Starves sort old new

-- why it gave nothing, if it may be refused: it did this part then, which says why
abbrev pub RefusesOr : (Refusal → Part) → (Call → Bool) → WorkNow → StepErr → WorkNow → Type 0
RefusesOr Refuses sort old (Refused why) new = Does (Refuses why) sort old new
RefusesOr Refuses sort old e new = GivesNothing sort old e new

-- it was this part of a session, behind which the session stands there, or it gave nothing
abbrev pub EndsAt : {R : Type 0} → Stage → Part → (Call → Bool) → WorkNow → Result R StepErr →
    WorkNow → Type 0
EndsAt there P sort old (Ok value) new = DoesTo there [] P sort old new
EndsAt there P sort old (Err e) new = GivesNothing sort old e new

-- it was this part of a session, and more may be done, or it gave nothing
abbrev pub Ends : {R : Type 0} → Part → (Call → Bool) → WorkNow → Result R StepErr → WorkNow →
    Type 0
Ends P sort old (Ok value) new = Does P sort old new
Ends P sort old (Err e) new = GivesNothing sort old e new

-- the same of a part that hands something on, of which the part tells
abbrev pub EndsGiving : {R : Type 0} → (R → Part) → (Call → Bool) → WorkNow → Result R StepErr →
    WorkNow → Type 0
EndsGiving P sort old (Ok value) new = Does (P value) sort old new
EndsGiving P sort old (Err e) new = GivesNothing sort old e new
