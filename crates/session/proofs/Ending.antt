-- How a part of a session comes to an end behind another one.
use Rattle.std.specs.Prelude.{ℕ, ◌≤◌, ◌≡◌, List, [], length, Bool, Option, None, Result, Ok, Err, refl}
use Rattle.std.proofs.Common.{sym, subst, arith, append-nil, ◌∙◌}
use Rattle.conflicts.specs.declared.error.StepErr.{StepErr}
use Rattle.conflicts.specs.declared.report.SyncReport.{SyncReport}
use Rattle.client.specs.Sites.{SiteNow}
use Rattle.conflicts.specs.declared.error.StepErr.TheVariants.{Lost, TargetFault, KeeperFault, Refused, NoMemory}
use Rattle.jop_target.proofs.Runs.{continues_same}
use Rattle.jop_target.specs.Runs.{has_failed}
use Rattle.jop_target.specs.declared.call.Call.{Call}
use Rattle.jop_target.specs.Trail.{LineNow}
use Rattle.lease.proofs.NoFailures.{none_failed_on}
use Rattle.lease.specs.Calls.{EndsFailed, Fails}
use Rattle.lease.specs.Standing.{IsSameBut}
use Rattle.lease.specs.Work.{NoneFailed}
use Rattle.lease.specs.declared.error.Seen.{Seen}
use Rattle.lease.specs.declared.lease.Lease.{Lease}
use Rattle.law_licences.specs.Deeds.{Deed, changes_in, events_of}
use Rattle.law_licences.specs.Licences.{AreWork, Each}
use Rattle.law_licences.specs.Views.{Shown, Stage, Working, view_from}
use Rattle.local_store.specs.Changing.{after_all}
use Rattle.session.proofs.Joins.{client_is, does_then, told_on, went_on}
use Rattle.session.specs.Doing.{Does, DoesTo, Ends, EndsAt, GivesNothing, HasLostLease, Starves, CameToEnd, Went}
use Rattle.session.proofs.Leased.{kept-same}
use Rattle.session.specs.Parts.{Nothing, Part, Then, but_locks}
use Rattle.session.specs.Reported.{reported}
use Rattle.session.specs.Saving.{Told, blobs_got}
use Rattle.session.specs.Steps.{IsStep, works_by}
use Rattle.session.specs.Work.{IsReady, WorkNow, WorkPlace, view_of, work_by}

stops_on : (P : Part) (sort : Call → Bool) (a b c : WorkNow) → Does P sort a b
    → CameToEnd sort b c → CameToEnd sort a c
stops_on P sort a b c h k = record {
  went = went_on P sort a b c h k.went;
  told = told_on P sort a b c h k.went k.told;
}

lapsed_on : (a b : Lease) (c : WorkNow) (seen : Seen) → IsSameBut a b → HasLostLease b c seen
    → HasLostLease a c seen
lapsed_on a b c seen same h =
    let of_a : record a { stamp = b.stamp } ≡ b = sym same in
    subst (λ (l : Lease). HasLostLease l c seen) (sym of_a) h

fails_on : (client other : List ℕ) (a b c : LineNow) → other ≡ client
    → a.target.faults ≤ b.target.faults → Fails other b c → Fails client a c
fails_on client other a b c same later h = record {
  failed = subst (λ (x : List ℕ). EndsFailed x c.trail) same h.failed;
  rose = let r = h.rose in omega arith;
}

-- no call of a part that was done has failed
pub does_unfailed : {there : Stage} {left : List Told} {P : Part} {sort : Call → Bool}
    {a b : WorkNow} → DoesTo there left P sort a b
    → NoneFailed a.site.line.trail b.site.line.trail
does_unfailed {there} {left} {P} {sort} {a} {b} h = record {
  more = events_of (length a.site.made) h.went.deeds;
  trail = h.went.trail;
  heard = h.heard;
}

-- memory may run out behind it
pub does_starves : {there : Stage} {left : List Told} {P : Part} {sort : Call → Bool}
    {a b : WorkNow} → DoesTo there left P sort a b → Starves sort a b
does_starves {there} {left} {P} {sort} {a} {b} h =
    record { went = h.went; heard = does_unfailed h; well = h.well }

starves_on : (P : Part) (sort : Call → Bool) (a b c : WorkNow) → Does P sort a b
    → Starves sort b c → Starves sort a c
starves_on P sort a b c h k = record {
  went = went_on P sort a b c h k.went;
  heard = none_failed_on a.site.line.trail b.site.line.trail c.site.line.trail (does_unfailed h)
      k.heard;
  well = k.well ∙ h.well;
}

-- behind a part that was done
pub gives_up_behind : (P : Part) (sort : Call → Bool) (a b c : WorkNow) (e : StepErr)
    → Does P sort a b → GivesNothing sort b e c → GivesNothing sort a e c
gives_up_behind P sort a b c (Lost seen) h k =
    (stops_on P sort a b c h k.0, lapsed_on a.lease b.lease c seen h.went.same k.1)
gives_up_behind P sort a b c TargetFault h k = (
  stops_on P sort a b c h k.0,
  fails_on a.lease.client b.lease.client a.site.line b.site.line c.site.line
      (client_is a.lease b.lease h.went.same) h.went.goes.line.later k.1,
)
gives_up_behind P sort a b c KeeperFault h k = record {
  stops = stops_on P sort a b c h k.stops;
  ready = k.ready;
  rose = let r = k.rose in let w = h.well in omega arith;
}
gives_up_behind P sort a b c (Refused why) h k = absurd k
gives_up_behind P sort a b c NoMemory h k = starves_on P sort a b c h k

-- the answer of one part and then another, by that of the second
pub ends_then : {R : Type 0} (P Q : Part) (sort : Call → Bool) (a b c : WorkNow)
    (result : Result R StepErr) → Does P sort a b → Ends Q sort b result c
    → Ends (Then P Q) sort a result c
ends_then P Q sort a b c (Ok value) h k = does_then P Q sort a b c h k
ends_then P Q sort a b c (Err e) h k = gives_up_behind P sort a b c e h k

-- the same of whatever part, the session's last one too
pub ends_at : {R : Type 0} (there : Stage) (P Q : Part) (sort : Call → Bool) (a b c : WorkNow)
    (result : Result R StepErr) → Does P sort a b → EndsAt there Q sort b result c
    → EndsAt there (Then P Q) sort a result c
ends_at there P Q sort a b c (Ok value) h k = does_then P Q sort a b c h k
ends_at there P Q sort a b c (Err e) h k = gives_up_behind P sort a b c e h k

-- a part that may be told in other words
pub does_as : {there : Stage} {left : List Told} (P Q : Part) (sort : Call → Bool) (a b : WorkNow)
    → ((shown : Option Shown) (ds : List Deed)
    → P (view_of shown a.site) ds → Q (view_of shown a.site) ds)
    → DoesTo there left P sort a b → DoesTo there left Q sort a b
does_as P Q sort a b also h = record {
  went = h.went;
  told = h.told;
  part = λ shown. also shown (but_locks h.went.deeds) (h.part shown);
  stands = h.stands;
  sees = h.sees;
  owes = h.owes;
  agrees = h.agrees;
  heard = h.heard;
  well = h.well;
  ready = h.ready;
}

pub ends_as : {R : Type 0} (P Q : Part) (sort : Call → Bool) (a b : WorkNow)
    (result : Result R StepErr)
    → ((shown : Option Shown) (ds : List Deed)
    → P (view_of shown a.site) ds → Q (view_of shown a.site) ds)
    → Ends P sort a result b → Ends Q sort a result b
ends_as P Q sort a b (Ok value) also h = does_as P Q sort a b also h
ends_as P Q sort a b (Err e) also h = h

-- nothing is done
pub does_nothing : (sort : Call → Bool) (a : WorkNow) → IsReady a.site a.lease
    → Does Nothing sort a a
unfolding events_of changes_in AreWork Each works_by after_all reported but_locks view_from has_failed blobs_got
does_nothing sort a ready = record {
  went = record {
    deeds = [];
    saves = [];
    owed = [];
    trail = sym (append-nil a.site.line.trail);
    made = sym (append-nil a.site.made);
    kept = kept-same a.site.keeper.kept [] refl;
    got = refl;
    work = tt;
    obeys = λ shown fits. tt;
    goes = record {
      running = ready.held.stands.running;
      lawful = ready.held.stands.lawful;
      line = continues_same (IsStep sort a.lease.client) a.site.line;
    };
    sorted = refl;
    later = omega arith;
    same = refl;
    place = refl;
  };
  told = record { tidy = ready.tidy; tables = refl; report = λ shown. refl };
  part = λ shown. refl;
  stands = λ shown. refl;
  sees = λ shown fits. fits;
  owes = refl;
  agrees = λ agree. agree;
  heard = refl;
  well = refl;
  ready = ready;
}

-- what was done is the same, whatever is said of the report
went_report : {p : WorkPlace} (sort : Call → Bool) (a : WorkNow) (d : SiteNow) (l : Lease) (r s : SyncReport)
    → Went sort a (work_by p None d l r) → Went sort a (work_by p None d l s)
went_report sort a d l r s h = record {
  deeds = h.deeds;
  saves = h.saves;
  owed = h.owed;
  trail = h.trail;
  made = h.made;
  kept = h.kept;
  got = h.got;
  work = h.work;
  obeys = h.obeys;
  goes = h.goes;
  sorted = h.sorted;
  later = h.later;
  same = h.same;
  place = h.place;
}

pub starves_report : {p : WorkPlace} (sort : Call → Bool) (a : WorkNow) (d : SiteNow) (l : Lease)
    (r s : SyncReport) → Starves sort a (work_by p None d l r) → Starves sort a (work_by p None d l s)
starves_report sort a d l r s h =
    record { went = went_report sort a d l r s h.went; heard = h.heard; well = h.well }

-- a session that stands there stands here, if that is the same
pub does_there : {there here : Stage} {left : List Told} {P : Part} {sort : Call → Bool}
    {a b : WorkNow} → there ≡ here → DoesTo there left P sort a b → DoesTo here left P sort a b
does_there {there} {here} {left} {P} {sort} {a} {b} same h =
    subst (λ (s : Stage). DoesTo s left P sort a b) same h

pub ends_there : {R : Type 0} {there : Stage} (P : Part) (sort : Call → Bool) (a b : WorkNow)
    (result : Result R StepErr) → there ≡ Working → EndsAt there P sort a result b
    → Ends P sort a result b
ends_there P sort a b (Ok value) same h = does_there same h
ends_there P sort a b (Err e) same h = h
