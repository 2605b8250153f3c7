-- What a session comes to by calls of its lease, and by others behind them.
use Rattle.std.specs.Prelude.{ℕ, ◌+◌, ◌≡◌, List, [], ◌++◌, length, option_map, Bool, true, Option, Some, None, refl}
use Rattle.std.proofs.Common.{sym, ap, subst, ◌∙◌, arith, inr, add-zero, append-nil}
use Rattle.std.proofs.lemmas.List.{append_assoc, append_cancel_left}
use Rattle.conflicts.specs.declared.report.SyncReport.{SyncReport}
use Rattle.client.specs.Sites.{SiteNow, IsSameSite, IsTidy}
use Rattle.jop_target.proofs.Runs.{continues_same}
use Rattle.jop_target.specs.Trail.{LineNow}
use Rattle.jop_target.specs.declared.call.Call.{Call}
use Rattle.jop_target.specs.declared.event.Event.{Event}
use Rattle.jop_target.specs.declared.event.Event.TheVariants.{Sent, Called}
use Rattle.lease.proofs.Sessions.{goes_leased, goes_on, session_from-append}
use Rattle.lease.specs.Calls.{GoesOn, IsLeaseEvent, LeaseGoesOn}
use Rattle.lease.specs.Discipline.{Session, outside, session_from, session_of}
use Rattle.lease.specs.Idle.{is_idle_from}
use Rattle.lease.specs.Standing.{IsSameBut}
use Rattle.lease.specs.declared.lease.Lease.{Lease}
use Rattle.law_licences.proofs.Joins.{Each-append}
use Rattle.law_licences.proofs.Told.{events_of-append}
use Rattle.law_licences.specs.Deeds.{Deed, changes_in, events_of}
use Rattle.law_licences.specs.Licences.{Each, MayDo}
use Rattle.law_licences.specs.Views.{Shown, View}
use Rattle.local_store.specs.Changing.{after_all}
use Rattle.keeper.specs.Keepers.{IsOfKept, KeeperNow, Kept}
use Rattle.local_store.specs.Sound.{IsSound}
use Rattle.local_store.specs.declared.change.Change.{Change}
use Rattle.local_store.specs.declared.tables.Tables.{Tables}
use Rattle.session.proofs.LockDeeds.{AreCalls, AreCalls-append, AreCalls-locks, AreLocks, AreWork-calls, ToldLocks, changes_in-calls, obeys-locks, reported-locks, told_locks, view_from-locks, works_by-idle}
use Rattle.session.proofs.Seen.{reported-append}
use Rattle.session.proofs.Sorted.{works_by-append}
use Rattle.session.specs.Doing.{IsTold, CameToEnd, Went}
use Rattle.session.specs.Reported.{reported}
use Rattle.session.specs.Saving.{blobs_got, kept_after_saves, saved_all}
use Rattle.session.specs.Steps.{IsStep, works_by}
use Rattle.session.specs.Work.{WorkPlace, view_of, work_by}

-- ---- small facts

pub kept-same : (kept : Option Kept) (cs : List Change) → cs ≡ []
    → kept ≡ option_map (kept_after_saves cs []) kept
unfolding after_all saved_all
kept-same None cs none = refl
kept-same (Some k) cs none =
    ap (λ (x : List Change). option_map (kept_after_saves x []) (Some k)) (sym none)

-- a step of the lease's own
pub step_of : (sort : Call → Bool) (client : List ℕ) (e : Event) → IsLeaseEvent client e
    → IsStep sort client e
step_of sort client (Sent call) own = inr own
step_of sort client (Called call reply) own = inr own
step_of sort client e own = absurd own

-- the same part of a trail
pub same_more : (old new xs ys : List Event) → new ≡ old ++ xs → new ≡ old ++ ys → xs ≡ ys
same_more old new xs ys h k = append_cancel_left old xs ys (sym h ∙ k)

-- ---- by calls

-- what is done behind the lease's own calls
pub record Last (sort : Call → Bool) (client : List ℕ) (old : SiteNow) (mid new : LineNow)
    (last : List Deed) : Type 0 where
  pub calls : AreCalls last
  pub trail : new.trail ≡ mid.trail ++ events_of (length old.made) last
  pub obeys : (shown : Option Shown) → Each MayDo (view_of shown old) last
  pub goes : GoesOn (IsStep sort client) client mid new
  pub sorted : works_by sort client (session_of client mid.trail)
      (events_of (length old.made) last) ≡ true

pub told_more : (client : List ℕ) (old : SiteNow) (mid : LineNow)
    → (h : LeaseGoesOn client old.line mid)
    → ToldLocks client (length old.made) h.line.more
told_more client old mid h = told_locks client (length old.made) h.line.more h.line.each

-- a session has gone on by calls of its lease, and then by these
unfoldable pub went_by : {p : WorkPlace} (sort : Call → Bool) (old new : SiteNow) (mid : LineNow)
    (before after : Lease) (r s : SyncReport) (last : List Deed)
    → IsSameSite old new → IsSameBut before after
    → (h : LeaseGoesOn before.client old.line mid)
    → (locks : ToldLocks before.client (length old.made) h.line.more)
    → Last sort before.client old mid new.line last
    → Went sort (work_by p None old before r) (work_by p None new after s)
went_by sort old new mid before after r s last same but h locks l =
    let n = length old.made in
    let client = before.client in
    let ds = locks.deeds in
    let calls = AreCalls-append ds last (AreCalls-locks client ds locks.locks) l.calls in
    let none : changes_in (ds ++ last) ≡ [] = changes_in-calls (ds ++ last) calls in
    let nought : changes_in ds ≡ [] =
    changes_in-calls ds (AreCalls-locks client ds locks.locks) in
    let count : n + length (changes_in ds) ≡ n =
    ap (λ (cs : List Change). n + length cs) nought ∙ add-zero n in
    let both : events_of n (ds ++ last) ≡ events_of n ds ++ events_of n last =
    events_of-append n ds last
    (AreWork-calls ds (AreCalls-locks client ds locks.locks))
    ∙ ap (λ (m : ℕ). events_of n ds ++ events_of m last) count in
    let first : mid.trail ≡ old.line.trail ++ events_of n ds =
    h.line.trail ∙ ap (λ (es : List Event). old.line.trail ++ es) (sym locks.told) in
    let idle : is_idle_from client (session_of client old.line.trail) (events_of n ds) ≡ true =
    subst (λ (es : List Event).
    is_idle_from client (session_of client old.line.trail) es ≡ true)
    (same_more old.line.trail mid.trail h.idle.more (events_of n ds) h.idle.trail first)
    h.idle.idle in
    let between : session_of client mid.trail
    ≡ session_from client (session_of client old.line.trail) (events_of n ds) =
    ap (session_of client) first
    ∙ session_from-append client outside old.line.trail (events_of n ds) in
    record {
      deeds = ds ++ last;
      saves = [];
      owed = blobs_got (ds ++ last);
      trail =
          l.trail
          ∙ (ap (λ (t : List Event). t ++ events_of n last) first
          ∙ (append_assoc old.line.trail (events_of n ds) (events_of n last)
          ∙ ap (λ (t : List Event). old.line.trail ++ t) (sym both)));
      made =
          same.made
          ∙ (sym (append-nil old.made) ∙ ap (λ (cs : List Change). old.made ++ cs) (sym none));
      kept =
          ap (λ (k : KeeperNow). k.kept) same.keeper ∙ kept-same old.keeper.kept (changes_in (ds ++ last)) none;
      got = refl;
      work = AreWork-calls (ds ++ last) calls;
      obeys = λ shown fits.
          let v = view_of shown old in
          Each-append MayDo v ds last (obeys-locks client v ds tt locks.locks)
          (subst (λ (w : View). Each MayDo w last) (sym (view_from-locks client v ds locks.locks))
          (l.obeys shown));
      goes = goes_on (IsStep sort client) client old.line mid new.line
          (goes_leased (IsStep sort client) client old.line mid (step_of sort client) h) l.goes;
      sorted = subst
          (λ (es : List Event).
          works_by sort client (session_of client old.line.trail) es ≡ true)
          (sym both)
          (works_by-append sort client (session_of client old.line.trail) (events_of n ds)
          (events_of n last)
          (works_by-idle sort client (session_of client old.line.trail) (events_of n ds) idle)
          (subst (λ (x : Session). works_by sort client x (events_of n last) ≡ true) between
          l.sorted));
      later = let e = ap (λ (k : KeeperNow). k.faults) same.keeper in omega (arith, e);
      same = but;
      place = refl;
    }

-- ---- what is told

pub tidy-same : (old new : SiteNow) → IsSameSite old new → IsTidy old → IsTidy new
tidy-same old new same tidy = record {
  sound = subst IsSound (sym same.tables) tidy.sound;
  told = subst (λ (k : KeeperNow). IsOfKept k.kept new.tables) (sym same.keeper)
      (subst (λ (t : Tables). IsOfKept old.keeper.kept t) (sym same.tables) tidy.told);
}

pub tables-same : (t : Tables) (cs : List Change) → cs ≡ [] → t ≡ after_all t cs
unfolding after_all
tables-same t cs none = ap (λ (x : List Change). after_all t x) (sym none)

reported_last : (client : List ℕ) (v : View) (r : SyncReport) (ds last : List Deed)
    → (locks : AreLocks client ds) → reported v r (ds ++ last) ≡ reported v r last
reported_last client v r ds last locks =
    reported-append v r ds last
    ∙ (ap (λ (w : View). reported w (reported v r ds) last) (view_from-locks client v ds locks)
    ∙ ap (λ (x : SyncReport). reported v x last) (reported-locks client v r ds locks))

-- behind calls tables are as they were, and the report notes what was heard
pub told_by : {p : WorkPlace} (sort : Call → Bool) (old new : SiteNow) (mid : LineNow) (before after : Lease)
    (r s : SyncReport) (last : List Deed)
    → (same : IsSameSite old new) → (but : IsSameBut before after)
    → (h : LeaseGoesOn before.client old.line mid)
    → (locks : ToldLocks before.client (length old.made) h.line.more)
    → (l : Last sort before.client old mid new.line last)
    → IsTidy old → ((shown : Option Shown) → s ≡ reported (view_of shown old) r last)
    → IsTold (work_by p None old before r) (work_by p None new after s)
    (went_by {p = p} sort old new mid before after r s last same but h locks l).deeds
unfolding went_by
told_by {p} sort old new mid before after r s last same but h locks l tidy noted =
    let ds = locks.deeds in
    let client = before.client in
    let calls = AreCalls-append ds last (AreCalls-locks client ds locks.locks) l.calls in
    record {
      tidy = tidy-same old new same tidy;
      tables =
          same.tables
          ∙ tables-same old.tables (changes_in (ds ++ last)) (changes_in-calls (ds ++ last) calls);
      report = λ shown.
          noted shown
          ∙ sym (reported_last client (view_of shown old) r ds last locks.locks);
    }

-- ---- the lease's calls alone

no_more : (sort : Call → Bool) (client : List ℕ) (old : SiteNow) (mid : LineNow)
    → LeaseGoesOn client old.line mid → Last sort client old mid mid []
unfolding AreCalls events_of Each works_by
no_more sort client old mid h = record {
  calls = tt;
  trail = sym (append-nil mid.trail);
  obeys = λ shown. tt;
  goes = record {
    running = h.running;
    lawful = h.lawful;
    line = continues_same (IsStep sort client) mid;
  };
  sorted = refl;
}

pub went_leased : {p : WorkPlace} (sort : Call → Bool) (old new : SiteNow) (before after : Lease)
    (r s : SyncReport) → IsSameSite old new → IsSameBut before after
    → LeaseGoesOn before.client old.line new.line
    → Went sort (work_by p None old before r) (work_by p None new after s)
went_leased sort old new before after r s same but h =
    went_by sort old new new.line before after r s [] same but h
    (told_more before.client old new.line h) (no_more sort before.client old new.line h)

pub stops_leased : {p : WorkPlace} (sort : Call → Bool) (old new : SiteNow) (before after : Lease)
    (r : SyncReport) → IsSameSite old new → IsSameBut before after
    → LeaseGoesOn before.client old.line new.line → IsTidy old
    → CameToEnd sort (work_by p None old before r) (work_by p None new after r)
unfolding reported
stops_leased sort old new before after r same but h tidy =
    let locks = told_more before.client old new.line h in
    let last = no_more sort before.client old new.line h in
    record {
      went = went_by sort old new new.line before after r r [] same but h locks last;
      told = told_by sort old new new.line before after r r [] same but h locks last tidy
          (λ shown. refl);
    }
