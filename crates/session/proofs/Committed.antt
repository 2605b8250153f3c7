-- What a change comes to that a part of a session makes.
use Rattle.std.specs.Prelude.{ℕ, ◌≤◌, ◌≡◌, List, [], ◌∷◌, ◌++◌, length, option_map, Bool, Option, Some, None, Err, refl}
use Rattle.std.proofs.Common.{sym, ap, subst, ◌∙◌, arith, append-nil, inl, inr}
use Rattle.std.proofs.lemmas.List.Elements.{All-cons, All-nil}
use Rattle.conflicts.specs.Reports.{counted}
use Rattle.conflicts.specs.declared.report.SyncReport.{SyncReport}
use Rattle.client.specs.Sites.{SiteNow, Commits, IsChanged, IsMadeChange, IsTidy, IsUnmade}
use Rattle.conflicts.specs.Errors.{step_err}
use Rattle.keeper.specs.declared.keeper_err.KeeperErr.{KeeperErr}
use Rattle.keeper.specs.declared.keeper_err.KeeperErr.TheVariants.{Fault, NoMemory}
use Rattle.jop_outside.specs.Outside.{HasRisen}
use Rattle.jop_target.proofs.Runs.{continues_same}
use Rattle.jop_target.specs.Replies.{TargetNow}
use Rattle.jop_target.specs.Runs.{Continues, LeadsTo, TellsRun, has_failed}
use Rattle.jop_target.specs.Store.{Store}
use Rattle.jop_target.specs.Trail.{LineNow}
use Rattle.jop_target.specs.declared.call.Call.{Call}
use Rattle.jop_target.specs.declared.event.Event.{Event}
use Rattle.jop_target.specs.declared.event.Event.TheVariants.{Made}
use Rattle.lease.proofs.NoFailures.{none_failed_nowhere}
use Rattle.lease.proofs.Sessions.{session_from-last}
use Rattle.lease.specs.Discipline.{Session, outside, session_of}
use Rattle.lease.specs.Standing.{IsHeld}
use Rattle.lease.specs.Work.{NoneFailed}
use Rattle.lease.specs.declared.lease.Lease.{Lease}
use Rattle.law_licences.proofs.Told.{calls_from-append}
use Rattle.law_licences.specs.Deeds.{Makes, changes_in, events_of}
use Rattle.law_licences.specs.Licences.{AreWork, Each}
use Rattle.law_licences.specs.Trails.{calls_from, session_calls}
use Rattle.law_licences.specs.Views.{Shown, Working, stage_after, view_from}
use Rattle.local_store.specs.Changing.{after_all}
use Rattle.keeper.specs.Keepers.{HasKeeperCause, Kept, IsOfKept, changed}
use Rattle.local_store.specs.Sound.{IsAllowed, IsSound}
use Rattle.local_store.specs.declared.change.Change.{Change}
use Rattle.local_store.specs.declared.tables.Tables.{Tables}
use Rattle.session.proofs.Leased.{kept-same, tables-same}
use Rattle.session.proofs.Agreeing.{agrees_made}
use Rattle.session.specs.Doing.{GivesNothing, KeeperFails, DoesTo, Starves, Went}
use Rattle.session.specs.Parts.{Changes, but_locks}
use Rattle.session.specs.Reported.{reported}
use Rattle.session.specs.Steps.{IsStep, works_by}
use Rattle.session.specs.Making.{IsUnkept, MayMakeBy}
use Rattle.session.specs.Saving.{blobs_got, kept_after_saves, saved_all}
use Rattle.session.specs.Work.{IsReady, WorkPlace, work_by}

-- ---- the line

pub store_made : (n : ℕ) (o : Option Store) → TellsRun o (Made n ∷ []) o
unfolding LeadsTo
store_made n None = refl
store_made n (Some s) = (s, refl, refl)

pub continues_made : (sort : Call → Bool) (client : List ℕ) (old new : LineNow) (n : ℕ)
    → new ≡ record old { trail = old.trail ++ Made n ∷ [] }
    → Continues (IsStep sort client) old new
unfolding has_failed
continues_made sort client old new n is =
    let target : new.target ≡ old.target = ap (λ (l : LineNow). l.target) is in
    let faults : new.target.faults ≡ old.target.faults =
    ap (λ (t : TargetNow). t.faults) target in
    record {
      more = Made n ∷ [];
      trail = ap (λ (l : LineNow). l.trail) is;
      each = All-cons (IsStep sort client) (Made n) [] tt (All-nil (IsStep sort client));
      later = omega (arith, faults);
      fault = λ failed. absurd cc;
      stays = λ none. faults;
      store = subst (λ (t : TargetNow). TellsRun old.target.store (Made n ∷ []) t.store)
          (sym target) (store_made n old.target.store);
    }

session_made : (client : List ℕ) (old new : List Event) (n : ℕ) → new ≡ old ++ Made n ∷ []
    → session_of client new ≡ session_of client old
session_made client old new n is =
    ap (session_of client) is ∙ session_from-last client outside old (Made n)

pub held_made : (lease : Lease) (old new : List Event) (n : ℕ) → new ≡ old ++ Made n ∷ []
    → IsHeld lease old → IsHeld lease new
held_made lease old new n is held =
    let same = session_made lease.client old new n is in
    record {
      in_time = held.in_time;
      stands = record {
        running = ap (λ (s : Session). s.running) same ∙ held.stands.running;
        lawful = ap (λ (s : Session). s.lawful) same ∙ held.stands.lawful;
        phase = ap (λ (s : Session). s.phase) same ∙ held.stands.phase;
      };
    }

pub calls_made : (old new : List Event) (n : ℕ) → new ≡ old ++ Made n ∷ []
    → session_calls new ≡ session_calls old
unfolding calls_from
calls_made old new n is = ap session_calls is ∙ calls_from-append [] old (Made n ∷ [])

-- ---- the change was made

pub kept_changed : (kept : Option Kept) (change : Change)
    → option_map (changed change) kept ≡ option_map (kept_after_saves (change ∷ []) []) kept
unfolding after_all saved_all
kept_changed None change = refl
kept_changed (Some k) change = refl

unfoldable pub went_made : {p : WorkPlace} (known : Option Shown) (sort : Call → Bool) (old new : SiteNow)
    (lease : Lease) (r s : SyncReport) (change : Change)
    → IsMadeChange change old new → old.keeper.faults ≤ new.keeper.faults → IsAllowed change
    → MayMakeBy known old change → IsHeld lease old.line.trail
    → Went sort (work_by p known old lease r) (work_by p known new lease s)
unfolding events_of changes_in AreWork Each works_by blobs_got view_from
went_made known sort old new lease r s change made later allowed may held =
    let n = length old.made in
    let trail : new.line.trail ≡ old.line.trail ++ Made n ∷ [] =
    ap (λ (l : LineNow). l.trail) made.line in
    let now = held_made lease old.line.trail new.line.trail n trail held in
    record {
      deeds = Makes change ∷ [];
      saves = [];
      owed = [];
      trail = trail;
      made = made.made;
      kept = made.kept ∙ kept_changed old.keeper.kept change;
      got = refl;
      work = (allowed, tt);
      obeys = λ shown fits. (may shown fits, tt);
      goes = record {
        running = now.stands.running;
        lawful = now.stands.lawful;
        line = continues_made sort lease.client old.line new.line n made.line;
      };
      sorted = refl;
      later = later;
      same = refl;
      place = refl;
    }

pub does_made : {p : WorkPlace} (known : Option Shown) (sort : Call → Bool) (old new : SiteNow) (lease : Lease)
    (r s : SyncReport) (change : Change)
    → IsChanged change old new → new.keeper.faults ≡ old.keeper.faults → IsAllowed change
    → MayMakeBy known old change → s ≡ counted r change → IsHeld lease old.line.trail
    → DoesTo (stage_after Working change) [] (Changes change) sort (work_by p known old lease r)
    (work_by p known new lease s)
unfolding went_made events_of changes_in after_all reported but_locks view_from has_failed
does_made known sort old new lease r s change h well allowed may count held =
    let n = length old.made in
    let trail : new.line.trail ≡ old.line.trail ++ Made n ∷ [] =
    ap (λ (l : LineNow). l.trail) h.made.line in
    record {
      went = went_made known sort old new lease r s change h.made (omega (arith, well)) allowed may held;
      told = record { tidy = h.tidy; tables = h.tables; report = λ shown. count };
      part = λ shown. refl;
      stands = λ shown. refl;
      sees = λ shown fits. fits;
      owes = refl;
      agrees = agrees_made old new change h.made.kept (ap (λ (l : LineNow). l.target) h.made.line)
          (calls_made old.line.trail new.line.trail n trail);
      heard = refl;
      well = well;
      ready = record {
        tidy = h.tidy;
        held = held_made lease old.line.trail new.line.trail n trail held;
      };
    }

-- ---- it wasn't

unfoldable pub went_nowhere : {p : WorkPlace} {known : Option Shown} (sort : Call → Bool) (old new : SiteNow)
    (lease : Lease) (r s : SyncReport)
    → IsUnmade old new → old.keeper.faults ≤ new.keeper.faults → IsHeld lease old.line.trail
    → Went sort (work_by p known old lease r) (work_by p known new lease s)
unfolding events_of changes_in AreWork Each works_by blobs_got view_from
went_nowhere sort old new lease r s h later held =
    let trail : new.line.trail ≡ old.line.trail = ap (λ (l : LineNow). l.trail) h.line in
    let now = subst (λ (t : List Event). IsHeld lease t) (sym trail) held in
    record {
      deeds = [];
      saves = [];
      owed = [];
      trail = trail ∙ sym (append-nil old.line.trail);
      made = h.made ∙ sym (append-nil old.made);
      kept = h.kept ∙ kept-same old.keeper.kept [] refl;
      got = refl;
      work = tt;
      obeys = λ shown fits. tt;
      goes = record {
        running = now.stands.running;
        lawful = now.stands.lawful;
        line = subst (λ (l : LineNow). Continues (IsStep sort lease.client) old.line l) (sym h.line)
            (continues_same (IsStep sort lease.client) old.line);
      };
      sorted = refl;
      later = later;
      same = refl;
      place = refl;
    }

pub tidy_unmade : (old new : SiteNow) → IsUnmade old new → IsTidy old → IsTidy new
tidy_unmade old new h tidy = record {
  sound = subst IsSound (sym h.tables) tidy.sound;
  told = subst (λ (k : Option Kept). IsOfKept k new.tables) (sym h.kept)
      (subst (λ (t : Tables). IsOfKept old.keeper.kept t) (sym h.tables) tidy.told);
}

pub fails_unmade : {p : WorkPlace} {known : Option Shown} (sort : Call → Bool) (old new : SiteNow) (lease : Lease)
    (r : SyncReport)
    → IsUnmade old new → HasRisen old.keeper.faults new.keeper.faults
    → old.keeper.faults ≤ new.keeper.faults → IsTidy old → IsHeld lease old.line.trail
    → KeeperFails sort (work_by p known old lease r) (work_by p known new lease r)
unfolding went_nowhere changes_in reported
fails_unmade sort old new lease r h rose later tidy held =
    let trail : new.line.trail ≡ old.line.trail = ap (λ (l : LineNow). l.trail) h.line in
    record {
      stops = record {
        went = went_nowhere sort old new lease r r h later held;
        told = record {
          tidy = tidy_unmade old new h tidy;
          tables = h.tables ∙ tables-same old.tables [] refl;
          report = λ shown. refl;
        };
      };
      ready = record {
        tidy = tidy_unmade old new h tidy;
        held = subst (λ (t : List Event). IsHeld lease t) (sym trail) held;
      };
      rose = rose;
    }

unfailed_made : (old new : LineNow) (n : ℕ) → new ≡ record old { trail = old.trail ++ Made n ∷ [] }
    → NoneFailed old.trail new.trail
unfolding has_failed
unfailed_made old new n is =
    record { more = Made n ∷ []; trail = ap (λ (l : LineNow). l.trail) is; heard = refl }

pub unfailed_same : (old new : LineNow) → new ≡ old → NoneFailed old.trail new.trail
unfailed_same old new is =
    subst (λ (l : LineNow). NoneFailed old.trail l.trail) (sym is) (none_failed_nowhere old.trail)

-- memory ran out before anything was done
pub starves_nowhere : {p : WorkPlace} {known : Option Shown} (sort : Call → Bool) (old new : SiteNow)
    (lease : Lease) (r : SyncReport)
    → IsUnmade old new → new.keeper.faults ≡ old.keeper.faults → IsHeld lease old.line.trail
    → Starves sort (work_by p known old lease r) (work_by p known new lease r)
starves_nowhere sort old new lease r h well held = record {
  went = went_nowhere sort old new lease r r h (omega (arith, well)) held;
  heard = unfailed_same old.line new.line h.line;
  well = well;
}

-- the keeper failed, or memory ran out
pub gives_up_unmade : {T : Type 0} (p : WorkPlace) (known : Option Shown) (sort : Call → Bool)
    (old new : SiteNow) (lease : Lease) (r : SyncReport) (k : KeeperErr)
    → IsUnmade old new → HasKeeperCause {T = T} old.keeper.faults (Err k) new.keeper.faults
    → IsTidy old → IsHeld lease old.line.trail
    → GivesNothing sort (work_by p known old lease r) (step_err k) (work_by p known new lease r)
gives_up_unmade p known sort old new lease r Fault h cause tidy held =
    fails_unmade sort old new lease r h (cause.failed refl) cause.later tidy held
gives_up_unmade p known sort old new lease r NoMemory h cause tidy held =
    starves_nowhere sort old new lease r h (cause.stays (λ e. cc)) held

-- the change wasn't made, or memory ran out behind it
pub gives_up_making : (p : WorkPlace) (known : Option Shown) (sort : Call → Bool)
    (old new : SiteNow) (lease : Lease) (r : SyncReport) (change : Change) (k : KeeperErr)
    → Commits change old (Err k) new
    → HasKeeperCause {T = Unit {0}} old.keeper.faults (Err k) new.keeper.faults → IsAllowed change
    → MayMakeBy known old change → IsTidy old → IsHeld lease old.line.trail
    → GivesNothing sort (work_by p known old lease r) (step_err k) (work_by p known new lease r)
gives_up_making p known sort old new lease r change Fault h cause allowed may tidy held =
    gives_up_unmade p known sort old new lease r Fault h cause tidy held
gives_up_making p known sort old new lease r change NoMemory h cause allowed may tidy held =
    let well = cause.stays (λ e. cc) in
    elim h [
      | inl none ↦ starves_nowhere sort old new lease r none well held
      | inr made ↦ record {
        went = went_made known sort old new lease r r change made (omega (arith, well)) allowed may
            held;
        heard = unfailed_made old.line new.line (length old.made) made.line;
        well = well;
      }
    ]

-- a session stands as it did, once a change was made
pub ready_made : (old new : SiteNow) (lease : Lease) (change : Change) → IsChanged change old new
    → IsReady old lease → IsReady new lease
ready_made old new lease change h ready = record {
  tidy = h.tidy;
  held = held_made lease old.line.trail new.line.trail (length old.made)
      (ap (λ (l : LineNow). l.trail) h.made.line) ready.held;
}

-- ---- why it gave nothing

pub unkept : (e : KeeperErr) → IsUnkept (step_err e)
unkept Fault = tt
unkept NoMemory = tt
