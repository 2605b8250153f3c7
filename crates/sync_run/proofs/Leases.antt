-- What a session promises of its lease.
use Rattle.std.proofs.Common.{◌≡◌, ◌∙◌, refl, sym, ap, subst, arith, ℕ, suc, List, [], ◌∷◌, ◌++◌, true, false, Some, Result, Ok, Err}
use Rattle.std.specs.Prelude.{All}
use Rattle.std.proofs.lemmas.List.{append_cancel_left}
use Rattle.std.proofs.lemmas.Option.{same_Some}
use Rattle.jop_base.specs.declared.lock_name.LockKind.{LockKind}
use Rattle.jop_base.specs.declared.lock_name.LockKind.TheVariants.{Exclusive, Sync}
use Rattle.jop_target.specs.declared.event.Event.{Event}
use Rattle.jop_target.specs.declared.event.Event.TheVariants.{Began, Ended}
use Rattle.lease.specs.Blocked.{NamesALiveLock}
use Rattle.lease.specs.Calls.{IsLeaseEvent}
use Rattle.lease.specs.Discipline.{KeepsLocks}
use Rattle.lease.specs.Exclusion.{KeepsApart}
use Rattle.lease.specs.Outcomes.{IsBlocked}
use Rattle.lease.specs.WholeSession.{AddsWhole}
use Rattle.lease.specs.declared.lock.Lock.{Lock}
use Rattle.law_exclusion.specs.Exclusive.{KeptTrailsAreExclusive}
use Rattle.law_exclusion.specs.Runs.{DoneSessionsLeaveUpgraded, LeavesUpgraded, begins_none}
use Rattle.target_upgrade.specs.Answers.{IsCall}
use Rattle.target_upgrade.specs.Course.{Course, ObeysLease, begun_course, course_from, course_of}
use Rattle.target_upgrade.specs.Steps.{Upgraded}
use Rattle.target_upgrade.proofs.Courses.{course_from-last}
use Rattle.target_upgrade.proofs.Whole.{course_of-begun, stage_left}
use Rattle.sync_run.specs.Checks.{AddsCheck, CheckAnswers}
use Rattle.sync_run.specs.Leases.{KeepsLeaseFrom, blocked_in, is_done}
use Rattle.sync_run.specs.Sessions.{AddsSession, IsWholeSession}
use Rattle.sync_run.specs.Upgrades.{AddsUpgrade, UpgradeAnswers}
use Rattle.sync_run.specs.declared.session_err.SessionErr.{SessionErr}
use Rattle.sync_run.specs.declared.session_err.SessionErr.TheVariants.{Busy, NoMemory}

-- ---- what was added obeys

obeys_whole : {T : Type 0} (P : Event → Type 0) (B : List Event → Result T SessionErr → Type 0)
    (client : List ℕ) (old new added : List Event) (result : Result T SessionErr) →
    IsWholeSession P B client old new result → new ≡ old ++ added → ObeysLease client added
obeys_whole P B client old new added result h is =
    subst (ObeysLease client) (append_cancel_left old _ added (sym h.whole.trail ∙ is))
    (record { locks = h.whole.obeys; work = h.work })

obeys_added : {T : Type 0} (P : Event → Type 0)
    (B : List Event → Result T SessionErr → Type 0) (client : List ℕ)
    (old new added : List Event) (result : Result T SessionErr) →
    AddsSession P B client old new result → new ≡ old ++ added → ObeysLease client added
obeys_added P B client old new added (Err NoMemory) h is =
    subst (ObeysLease client) (append_cancel_left old _ added (sym h.begun.trail ∙ is))
    (record { locks = h.begun.obeys; work = h.work })
obeys_added P B client old new added result h is =
    obeys_whole P B client old new added result h is

-- ---- the lock for which it gave up

abbrev pub NamesBlocked : Type 0
NamesBlocked =
    (kind : LockKind) (client : List ℕ) (old calls rest : List Event) (lock : Lock) (now : ℕ) →
    IsBlocked kind client (old ++ Began ∷ calls) lock now →
    NamesALiveLock kind client (Began ∷ (calls ++ rest)) lock now

pub names_added : (P : Event → Type 0) (kind : LockKind) (client : List ℕ)
    (old new added : List Event) (lock : Lock) (now : ℕ) (adds : AddsWhole P client old new) →
    NamesBlocked → IsBlocked kind client (old ++ Began ∷ adds.middle) lock now →
    new ≡ old ++ added → NamesALiveLock kind client added lock now
names_added P kind client old new added lock now adds law h is =
    subst (λ (es : List Event). NamesALiveLock kind client es lock now)
    (append_cancel_left old _ added (sym adds.trail ∙ is))
    (law kind client old adds.middle (Ended ∷ []) lock now h)

-- ---- it leaves the upgraded target

none_begins : (es : List Event) → All IsCall es → begins_none (es ++ Ended ∷ []) ≡ true
none_begins [] each = refl
none_begins (Began ∷ es) each = absurd (each 0 Began (omega arith))
none_begins (e ∷ es) each = none_begins es (λ i d lt. each (suc i) d (omega arith))

stage_ended : (client : List ℕ) (old middle : List Event) →
    (course_of client (old ++ Began ∷ middle)).stage ≡ Upgraded →
    (course_from client begun_course (middle ++ Ended ∷ [])).stage ≡ Upgraded
stage_ended client old middle at =
    ap (λ (c : Course). c.stage) (course_from-last client begun_course middle Ended)
    ∙ (ap (λ (c : Course). c.stage) (sym (course_of-begun client old middle)) ∙ at)

leaves_added : (client : List ℕ) (old new added : List Event) (version : ℕ) →
    DoneSessionsLeaveUpgraded →
    IsWholeSession IsCall (UpgradeAnswers client) client old new (Ok version) →
    new ≡ old ++ added → LeavesUpgraded client added
leaves_added client old new added version law h is =
    let left = h.because.1.left in
    let at : (course_of client (old ++ Began ∷ h.whole.middle)).stage ≡ Upgraded =
    ap (λ (t : List Event). (course_of client t).stage) left.ends
    ∙ (stage_left client left.stamp left.before left.reply left.held ∙ left.was) in
    subst (LeavesUpgraded client)
    (append_cancel_left old _ added (sym h.whole.trail ∙ is))
    (law client (h.whole.middle ++ Ended ∷ [])
    (record { locks = h.whole.obeys; work = h.work }) (none_begins h.whole.middle h.whole.each)
    (stage_ended client old h.whole.middle at))

-- ---- all that it promises

-- what the laws over all histories say of one client's trail
pub record Laws : Type 0 where
  pub apart : (client : List ℕ) (trail : List Event) → KeepsLocks client trail →
      KeepsApart client trail
  pub exclusive : KeptTrailsAreExclusive
  pub named : NamesBlocked

blocked_is : {T : Type 0} (result : Result T SessionErr) (lock : Lock) (now : ℕ) →
    blocked_in result ≡ Some (lock, now) → result ≡ Err (Busy lock now)
blocked_is (Err (Busy at moment)) lock now is =
    ap (λ (b : Lock × ℕ). Err (Busy b.0 b.1)) (same_Some (at, moment) (lock, now) is)
blocked_is result lock now is = cc

pub keeps_check : (client : List ℕ) (old new : List Event) (result : Result (Unit {0}) SessionErr) →
    Laws → AddsCheck client old new result →
    KeepsLeaseFrom Sync client (blocked_in result) false old new
keeps_check client old new result laws adds added is =
    let obeys = obeys_added (IsLeaseEvent client) (CheckAnswers client) client old new added result
    adds is in
    record {
      obeys = obeys;
      apart = laws.apart client added obeys.locks.keeps;
      exclusive = laws.exclusive client added obeys.locks.keeps obeys.work;
      busy = λ lock now busy.
          let session = subst (AddsCheck client old new) (blocked_is result lock now busy) adds in
          names_added (IsLeaseEvent client) Sync client old new added lock now session.whole
          laws.named session.because is;
      redone = λ done. tt;
    }

leaves_done : (client : List ℕ) (old new added : List Event) (result : Result ℕ SessionErr) →
    DoneSessionsLeaveUpgraded → AddsUpgrade client old new result → new ≡ old ++ added →
    is_done result ≡ true → LeavesUpgraded client added
leaves_done client old new added (Ok version) law adds is done =
    leaves_added client old new added version law adds is
leaves_done client old new added (Err error) law adds is done = cc

pub keeps_upgrade : (client : List ℕ) (old new : List Event) (result : Result ℕ SessionErr) →
    Laws → DoneSessionsLeaveUpgraded → AddsUpgrade client old new result →
    KeepsLeaseFrom Exclusive client (blocked_in result) (is_done result) old new
keeps_upgrade client old new result laws leaves adds added is =
    let obeys = obeys_added IsCall (UpgradeAnswers client) client old new added result adds is in
    record {
      obeys = obeys;
      apart = laws.apart client added obeys.locks.keeps;
      exclusive = laws.exclusive client added obeys.locks.keeps obeys.work;
      busy = λ lock now busy.
          let session = subst (AddsUpgrade client old new) (blocked_is result lock now busy) adds in
          names_added IsCall Exclusive client old new added lock now session.whole laws.named
          session.because is;
      redone = λ done. leaves_done client old new added result leaves adds is done;
    }
