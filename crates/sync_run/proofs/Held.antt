-- What a session came to under its lease, and once its lock was deleted.
use Rattle.std.proofs.Common.{◌≡◌, ◌∙◌, refl, sym, ap, subst, inl, inr, ℕ, List, [], ◌∷◌, ◌++◌, true, Result, Ok, Err}
use Rattle.jop_base.specs.declared.lock_name.LockKind.{LockKind}
use Rattle.jop_base.specs.declared.lock_name.LockKind.TheVariants.{Exclusive, Sync}
use Rattle.jop_base.specs.declared.path.Path.TheVariants.{Lock as LockFile}
use Rattle.jop_target.specs.declared.call.Call.TheVariants.{Delete}
use Rattle.jop_target.specs.declared.event.Event.{Event}
use Rattle.jop_target.specs.declared.event.Event.TheVariants.{Began, Called}
use Rattle.jop_target.specs.declared.reply.Reply.{Reply}
use Rattle.jop_target.specs.declared.reply.Reply.TheVariants.{Failed}
use Rattle.jop_target.specs.Trail.{LineNow}
use Rattle.lease.specs.Calls.{LeaseGoesOn, IsLeaseEvent}
use Rattle.lease.specs.Discipline.{ends_released, phase_of}
use Rattle.lease.specs.Locks.{own_name}
use Rattle.lease.specs.Outcomes.{Acquires, HasAcquired, IsBlocked, Releases}
use Rattle.lease.specs.Phase.{Held, Over}
use Rattle.lease.specs.Standing.{IsSameBut, StandsIn}
use Rattle.lease.specs.Work.{NoneFailed}
use Rattle.lease.specs.declared.error.LeaseErr.{LeaseErr}
use Rattle.lease.specs.declared.error.LeaseErr.TheVariants.{Busy, Lost, TargetFault, NoMemory}
use Rattle.lease.specs.declared.lease.Lease.{Lease}
use Rattle.lease.specs.declared.lock.Lock.{Lock}
use Rattle.lease.proofs.NoFailures.{none_failed_on}
use Rattle.lease.proofs.WholeSessions.{begun_stands}
use Rattle.target_upgrade.specs.Answers.{HasCome, StandsAt, Stops, WorkGoesOn, info_or_new}
use Rattle.target_upgrade.specs.Course.{Course, course_of, outside_course}
use Rattle.target_upgrade.specs.Reading.{HasFound}
use Rattle.target_upgrade.specs.Steps.{Reads, starts}
use Rattle.target_upgrade.specs.declared.reading.Found.{Found}
use Rattle.target_upgrade.proofs.Courses.{course_from-last, idle_work}
use Rattle.target_upgrade.proofs.Made.{client_same, goes_lease, goes_on, goes_then, same_on, stops_then}
use Rattle.sync_run.proofs.Starved.{none_failed_stopped, none_failed_starved}
use Rattle.sync_run.specs.Outcomes.{Comes, RefusesUpgrade, StandsFor}
use Rattle.sync_run.specs.Sessions.{HasBegun, IsReleased, session_err_of, RunsTask}
use Rattle.sync_run.specs.Upgrades.{HasLeftUpgrade, IsUpgradedAt, RunsUpgrade, UpgradeAnswers, answer_released}
use Rattle.sync_run.specs.declared.outcome.Outcome.{Outcome}
use Rattle.sync_run.specs.declared.session_err.SessionErr.{SessionErr}
use Rattle.sync_run.specs.declared.session_err.SessionErr.TheVariants as session_errors
use Rattle.sync_run.specs.declared.outcome.Outcome.TheVariants.{Upgraded, Refused}
use Rattle.jop_target.specs.declared.call.Call.{Call}
use Rattle.lease.specs.Added.{Makes}
use Rattle.lease.proofs.Sessions.{lease_on}
use Rattle.sync_run.specs.Checks.{CheckAnswers}

-- ---- a session that has begun

pub has_begun : (client : List ℕ) (old new : List Event) → new ≡ old ++ Began ∷ [] →
    HasBegun client new
has_begun client old new is = record {
  stands = begun_stands client old new is;
  course = ap (course_of client) is ∙ course_from-last client outside_course old Began;
}

lawful_begun : (client : List ℕ) (trail : List Event) → HasBegun client trail →
    (course_of client trail).lawful ≡ true
lawful_begun client trail h = ap (λ (c : Course). c.lawful) h.course

pub goes_acquired : (client : List ℕ) (old new : LineNow) → HasBegun client old.trail →
    LeaseGoesOn client old new → WorkGoesOn client old new
goes_acquired client old new h goes = goes_lease client old new (lawful_begun client old.trail h)
    goes

-- once the lease is taken, the version is to be read
pub stands_acquired : (client : List ℕ) (old new : LineNow) (lease : Lease) →
    HasBegun client old.trail → LeaseGoesOn client old new →
    HasAcquired Exclusive client new.trail lease → StandsAt lease new.trail Reads
stands_acquired client old new lease begun goes h =
    let same = idle_work client old.trail new.trail goes.idle in
    let mine : client ≡ lease.client = sym (ap (λ (l : Lease). l.client) h.whole) in
    let lawful : (course_of client new.trail).lawful ≡ true =
    same.lawful ∙ lawful_begun client old.trail begun in
    let reads : (course_of client new.trail).stage ≡ Reads =
    same.stage ∙ ap (λ (c : Course). c.stage) begun.course in
    record {
      exclusive = ap (λ (l : Lease). l.kind) h.whole;
      held = h.fresh.held;
      lawful = subst (λ (c : List ℕ). (course_of c new.trail).lawful ≡ true) mine lawful;
      at = subst (λ (c : List ℕ). (course_of c new.trail).stage ≡ Reads) mine reads;
    }

-- ---- there is no lease

pub over_released : (client : List ℕ) (trail : List Event) → StandsIn client trail Over →
    ends_released (phase_of client trail) ≡ true
over_released client trail over = ap ends_released over.phase

pub blocked_released : (kind : LockKind) (client : List ℕ) (trail : List Event) (lock : Lock) (now : ℕ) →
    IsBlocked kind client trail lock now → ends_released (phase_of client trail) ≡ true
blocked_released kind client trail lock now (inl once) = ap ends_released once.looked.phase
blocked_released kind client trail lock now (inr after) = over_released client trail after.left.over

-- the calls have come to this, and the lock is released as far as can be known
abbrev IsUpgradeReleased : List ℕ → List Event → Result ℕ SessionErr → Type 0
IsUpgradeReleased client trail result = IsReleased (UpgradeAnswers client) client trail result

pub released_none : (client : List ℕ) (old new : LineNow) (e : LeaseErr) →
    Acquires Exclusive client old new (Err e) →
    IsUpgradeReleased client new.trail (Err (session_err_of e))
released_none client old new (Busy lock now) h =
    (h, blocked_released Exclusive client new.trail lock now h)
released_none client old new (Lost seen) h = (inl h, over_released client new.trail h.left.over)
released_none client old new TargetFault h =
    (h.failed, over_released client new.trail h.failed.over)
released_none client old new NoMemory h = tt

-- or none any more
pub released_stops : (lease : Lease) (old new : LineNow) (e : LeaseErr) → Stops lease old new e →
    IsUpgradeReleased lease.client new.trail (Err (session_err_of e))
released_stops lease old new (Lost seen) h =
    (inr h, over_released lease.client new.trail h.1.left.over)
released_stops lease old new TargetFault h =
    (h.failed, over_released lease.client new.trail h.failed.over)
released_stops lease old new NoMemory h = tt
released_stops lease old new (Busy lock now) h = absurd h

-- ---- the lock is deleted

abbrev has_left : (lease : Lease) (old new : LineNow) (reply : Reply) (Was : List Event → Type 0) →
    lease.kind ≡ Exclusive → StandsIn lease.client old.trail (Held lease.kind lease.stamp) →
    Was old.trail →
    new.trail ≡ old.trail
    ++ Called (Delete (LockFile (own_name lease.kind lease.client))) reply ∷ [] →
    HasLeftUpgrade lease.client new.trail Was
has_left lease old new reply Was exclusive held was ends = record {
  before = old.trail;
  stamp = lease.stamp;
  held = subst (λ (k : LockKind). StandsIn lease.client old.trail (Held k lease.stamp)) exclusive
      held;
  was = was;
  reply = reply;
  ends = subst (λ (k : LockKind). new.trail ≡ old.trail
      ++ Called (Delete (LockFile (own_name k lease.client))) reply ∷ []) exclusive ends;
}

pub released_left : (lease : Lease) (old new : LineNow) (released : Result (Unit {0}) LeaseErr)
    (outcome : Outcome) → StandsFor lease old.trail outcome → Releases lease old new released →
    IsUpgradeReleased lease.client new.trail (answer_released released outcome)
released_left lease old new (Err NoMemory) outcome s h = tt
released_left lease old new (Err (Busy lock now)) outcome s h = absurd h
released_left lease old new (Err (Lost seen)) outcome s h = absurd h
released_left lease old new (Ok done) Upgraded s h =
    let at = s.stands.at ∙ s.told in
    let left = has_left lease old new h.reply (IsUpgradedAt lease.client) s.stands.exclusive
    s.stands.held.stands at h.trail in
    ((refl, record { left = left; heard = h.heard }), over_released lease.client new.trail h.over)
released_left lease old new (Err TargetFault) Upgraded s h =
    (h.fails.failed, over_released lease.client new.trail h.fails.failed.over)
released_left lease old new (Ok done) (Refused why) s h = (
  has_left lease old new h.reply (RefusesUpgrade why) s.stands.exclusive s.stands.held.stands
      s.told h.trail,
  over_released lease.client new.trail h.over,
)
released_left lease old new (Err TargetFault) (Refused why) s h = (
  has_left lease old new Failed (RefusesUpgrade why) s.stands.exclusive s.stands.held.stands
      s.told h.trail,
  over_released lease.client new.trail h.fails.failed.over,
)

pub runs_upgrade : (client : List ℕ) (old new : LineNow) (result : Result ℕ SessionErr) →
    WorkGoesOn client old new → IsUpgradeReleased client new.trail result →
    (result ≡ Err session_errors.NoMemory → NoneFailed old.trail new.trail) →
    RunsUpgrade client old new result
runs_upgrade client old new result h released heard =
    record {
      on = record { goes = h.goes; work = h.work };
      ends = record { released = released; heard = heard };
    }

-- ---- whose lease it is

pub whose : (client : List ℕ) (trail : List Event) (lease : Lease) →
    HasAcquired Exclusive client trail lease → lease.client ≡ client
whose client trail lease h = ap (λ (l : Lease). l.client) h.whole

goes_by : (client : List ℕ) (lease : Lease) (old mid new : LineNow) → lease.client ≡ client →
    WorkGoesOn client old mid → WorkGoesOn lease.client mid new → WorkGoesOn client old new
goes_by client lease old mid new mine h k =
    goes_on client old mid new h (subst (λ (c : List ℕ). WorkGoesOn c mid new) mine k)

-- the lease was acquired, and more was done under it
pub goes_under : (client : List ℕ) (lease : Lease) (old mid new : LineNow) →
    HasBegun client old.trail → LeaseGoesOn client old mid →
    HasAcquired Exclusive client mid.trail lease → WorkGoesOn lease.client mid new →
    WorkGoesOn client old new
goes_under client lease old mid new begun goes h k =
    goes_by client lease old mid new (whose client mid.trail lease h)
    (goes_acquired client old mid begun goes) k

-- and then it was given up
pub goes_left : (client : List ℕ) (lease after : Lease) (old mid late new : LineNow) →
    HasBegun client old.trail → LeaseGoesOn client old mid →
    HasAcquired Exclusive client mid.trail lease → WorkGoesOn lease.client mid late →
    IsSameBut lease after → WorkGoesOn after.client late new → WorkGoesOn client old new
goes_left client lease after old mid late new begun goes h k same l =
    goes_by client after old late new (client_same lease after same ∙ whose client mid.trail lease
    h)
    (goes_under client lease old mid late begun goes h k) l

-- ---- what it answers then

-- there is no lease any more
pub runs_stopped : (client : List ℕ) (lease : Lease) (old mid new : LineNow) (e : LeaseErr) →
    lease.client ≡ client → WorkGoesOn client old new → NoneFailed old.trail mid.trail →
    Stops lease mid new e → RunsUpgrade client old new (Err (session_err_of e))
runs_stopped client lease old mid new e mine goes none h =
    runs_upgrade client old new (Err (session_err_of e)) goes
    (subst (λ (c : List ℕ). IsUpgradeReleased c new.trail (Err (session_err_of e))) mine
    (released_stops lease mid new e h))
    (λ starved. none_failed_on old.trail mid.trail new.trail none
    (none_failed_stopped lease mid new e _ h refl starved))

pub work_of : (client : List ℕ) (old new : LineNow) (result : Result ℕ SessionErr) →
    RunsUpgrade client old new result → WorkGoesOn client old new
work_of client old new result h = record { goes = h.on.goes; work = h.on.work }

-- the lease was given up
pub runs_left : (client : List ℕ) (lease : Lease) (old late new : LineNow)
    (result : Result ℕ SessionErr) → lease.client ≡ client → WorkGoesOn client old new →
    NoneFailed old.trail late.trail → RunsUpgrade lease.client late new result →
    RunsUpgrade client old new result
runs_left client lease old late new result mine goes none h =
    runs_upgrade client old new result goes
    (subst (λ (c : List ℕ). IsUpgradeReleased c new.trail result) mine h.ends.released)
    (λ starved. none_failed_on old.trail late.trail new.trail none (h.ends.heard starved))

-- ---- the version was read, and then the steps were made

found_come : (a b : Lease) (found : Found) (mid : LineNow) → HasFound a b found mid →
    HasCome a b (starts (info_or_new found.version found.info)) mid
found_come a b found mid h = record { same = h.same; stands = h.at.stands }

pub goes_found : (a b : Lease) (found : Found) (old mid new : LineNow) → HasFound a b found mid →
    WorkGoesOn a.client old mid → WorkGoesOn b.client mid new → WorkGoesOn a.client old new
goes_found a b found old mid new h k l =
    goes_then a b (starts (info_or_new found.version found.info)) old mid new
    (found_come a b found mid h) k l

pub comes_found : (a b c : Lease) (found : Found) (old mid new : LineNow)
    (result : Result Outcome LeaseErr) → HasFound a b found mid → WorkGoesOn a.client old mid →
    Comes b c mid new result → Comes a c old new result
comes_found a b c found old mid new (Ok outcome) h k l =
    record { same = same_on a b c h.same l.same; at = l.at }
comes_found a b c found old mid new (Err e) h k l =
    stops_then a b (starts (info_or_new found.version found.info)) old mid new e
    (found_come a b found mid h) k l

-- ---- a check

abbrev pub RunsCheck : List ℕ → LineNow → LineNow → Result (Unit {0}) SessionErr → Type 0
RunsCheck client old new result = RunsTask IsLeaseEvent CheckAnswers client old new result

abbrev IsCheckReleased : List ℕ → LineNow → Result (Unit {0}) SessionErr → Type 0
IsCheckReleased client new result = IsReleased (CheckAnswers client) client new.trail result

runs_check : (client : List ℕ) (old new : LineNow) (result : Result (Unit {0}) SessionErr) →
    HasBegun client old.trail → LeaseGoesOn client old new → IsCheckReleased client new result →
    (result ≡ Err session_errors.NoMemory → NoneFailed old.trail new.trail) →
    RunsCheck client old new result
runs_check client old new result begun h released heard = record {
  on = record {
    goes = record { running = h.running; lawful = h.lawful; line = h.line };
    work = (goes_acquired client old new begun h).work;
  };
  ends = record { released = released; heard = heard };
}

-- ---- there is no lease for a check

check_released_none : (client : List ℕ) (old new : LineNow) (e : LeaseErr) →
    Acquires Sync client old new (Err e) → IsCheckReleased client new (Err (session_err_of e))
check_released_none client old new (Busy lock now) h =
    (h, blocked_released Sync client new.trail lock now h)
check_released_none client old new (Lost seen) h = (h, over_released client new.trail h.left.over)
check_released_none client old new TargetFault h =
    (h.failed, over_released client new.trail h.failed.over)
check_released_none client old new NoMemory h = tt

pub checks_none : (calls : List Call) (client : List ℕ) (old new : LineNow) (e : LeaseErr) →
    HasBegun client old.trail → LeaseGoesOn client old new → Acquires Sync client old new (Err e) →
    Makes {T = Unit {0}} calls old.trail new.trail (Err e) →
    RunsCheck client old new (Err (session_err_of e))
checks_none calls client old new e begun goes h made =
    runs_check client old new _ begun goes (check_released_none client old new e h)
    (none_failed_starved calls old.trail new.trail e _ made refl)

-- ---- the lock of a check is deleted

-- what a check answers whose release was answered so
abbrev pub released_as : Result (Unit {0}) LeaseErr → Result (Unit {0}) SessionErr
released_as (Ok done) = Ok done
released_as (Err e) = Err (session_err_of e)

check_released_left : (client : List ℕ) (stamp : ℕ) (mid new : LineNow)
    (released : Result (Unit {0}) LeaseErr) → StandsIn client mid.trail (Held Sync stamp) →
    Releases (record { client = client; kind = Sync; stamp = stamp }) mid new released →
    IsCheckReleased client new (released_as released)
check_released_left client stamp mid new (Ok done) held h = (
  record {
    before = mid.trail;
    stamp = stamp;
    held = held;
    reply = h.reply;
    ends = h.trail;
    shape = h.shape;
    heard = h.heard;
  },
  over_released client new.trail h.over,
)
check_released_left client stamp mid new (Err TargetFault) held h =
    (h.fails.failed, over_released client new.trail h.fails.failed.over)
check_released_left client stamp mid new (Err NoMemory) held h = tt
check_released_left client stamp mid new (Err (Busy lock now)) held h = absurd h
check_released_left client stamp mid new (Err (Lost seen)) held h = absurd h

heard_left : (calls : List Call) (old mid new : List Event)
    (released : Result (Unit {0}) LeaseErr) → NoneFailed old mid → Makes calls mid new released →
    released_as released ≡ Err session_errors.NoMemory → NoneFailed old new
heard_left calls old mid new (Ok done) none made is = cc
heard_left calls old mid new (Err e) none made is =
    none_failed_on old mid new none
    (none_failed_starved calls mid new e (released_as (Err e)) made refl is)

pub checks_left : (calls : List Call) (client : List ℕ) (old mid new : LineNow) (lease : Lease)
    (released : Result (Unit {0}) LeaseErr) → HasBegun client old.trail →
    LeaseGoesOn client old mid → HasAcquired Sync client mid.trail lease →
    NoneFailed old.trail mid.trail → LeaseGoesOn lease.client mid new →
    Releases lease mid new released → Makes calls mid.trail new.trail released →
    RunsCheck client old new (released_as released)
checks_left calls client old mid new lease released begun first has none second gives made =
    let on : LeaseGoesOn client mid new =
    subst (λ (l : Lease). LeaseGoesOn l.client mid new) has.whole second in
    let held : StandsIn client mid.trail (Held Sync lease.stamp) =
    subst (λ (l : Lease). StandsIn l.client mid.trail (Held l.kind l.stamp)) has.whole
    has.fresh.held.stands in
    let left = subst (λ (l : Lease). Releases l mid new released) has.whole gives in
    runs_check client old new (released_as released) begun (lease_on client old mid new first on)
    (check_released_left client lease.stamp mid new released held left)
    (heard_left calls old.trail mid.trail new.trail released none made)
