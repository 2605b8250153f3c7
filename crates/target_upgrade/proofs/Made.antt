-- What a call under an exclusive lease leaves of the session, and several of them.
use Rattle.std.proofs.Common.{◌≡◌, ◌∙◌, refl, sym, ap, subst, inl, inr, arith, ℕ, List, true, false, Some, Err}
use Rattle.jop_base.specs.declared.lock_name.LockKind.{LockKind}
use Rattle.jop_base.specs.declared.lock_name.LockKind.TheVariants.{Exclusive}
use Rattle.jop_base.specs.declared.dir.Dir.TheVariants.{Locks}
use Rattle.jop_target.specs.declared.call.Call.{Call}
use Rattle.jop_target.specs.declared.call.Call.TheVariants.{List as ListDir, Put, Delete, MakeDir}
use Rattle.jop_target.specs.declared.event.Event.{Event}
use Rattle.jop_target.specs.declared.event.Event.TheVariants.{Began, Sent, Called, Made, Ended}
use Rattle.jop_target.specs.declared.reply.Reply.{Reply}
use Rattle.jop_target.specs.declared.reply.Reply.TheVariants.{Failed}
use Rattle.jop_target.specs.Replies.{IsCallable}
use Rattle.jop_target.specs.Trail.{LineNow}
use Rattle.lease.specs.Calls.{IsLeaseCall, IsLeaseEvent, GoesOn, LeaseGoesOn, Fails}
use Rattle.lease.specs.Idle.{is_working}
use Rattle.lease.specs.Outcomes.{HasMissed}
use Rattle.lease.specs.Phase.{Held, Renewing, role_of}
use Rattle.lease.specs.Standing.{IsFresh, IsSameBut}
use Rattle.lease.specs.Work.{IsFreshlyHeld, HasCalled, HasCalledUnheard, HasWorked, NoneFailed, Works}
use Rattle.lease.specs.declared.error.LeaseErr.{LeaseErr}
use Rattle.lease.specs.declared.error.LeaseErr.TheVariants.{Busy, Lost, TargetFault, NoMemory}
use Rattle.lease.specs.declared.error.Seen.{Seen}
use Rattle.lease.specs.declared.lease.Lease.{Lease}
use Rattle.lease.proofs.NoFailures.{begins, none_failed_held, none_failed_on}
use Rattle.lease.proofs.Sessions.{goes_answered, goes_leased, goes_nowhere as line_nowhere, goes_on as line_on, goes_unheard as line_unheard}
use Rattle.lease.proofs.Works.{may_work as lease_may}
use Rattle.target_upgrade.specs.Answers.{HasCome, HasLapsed, HasMade, IsCall, IsNextCall, StandsAt, Stops, WorkGoesOn, leaves_items, stage_of}
use Rattle.target_upgrade.specs.Course.{course_of, puts_text}
use Rattle.target_upgrade.specs.Steps.{UpgradeStage, awaited, stage_after_reply}
use Rattle.target_upgrade.proofs.Courses.{IsReady, idle_work, awaited_works, awaited_callable, awaited_leaves, lawful_called, lawful_sent, stage_called}

-- ---- leases

pub same_lease : (lease : Lease) → IsSameBut lease lease
same_lease lease = refl

pub same_on : (a b c : Lease) → IsSameBut a b → IsSameBut b c → IsSameBut a c
same_on a b c h k =
    let client : b.client ≡ a.client = ap (λ (l : Lease). l.client) h in
    let kind : b.kind ≡ a.kind = ap (λ (l : Lease). l.kind) h in
    k ∙ (λ i. record { client = client i; kind = kind i; stamp = c.stamp })

pub client_same : (a b : Lease) → IsSameBut a b → b.client ≡ a.client
client_same a b h = ap (λ (l : Lease). l.client) h

kind_same : (a b : Lease) → IsSameBut a b → b.kind ≡ a.kind
kind_same a b h = ap (λ (l : Lease). l.kind) h

-- ---- lines

-- the locks are no items
lease_leaves : (client : List ℕ) (call : Call) → IsLeaseCall client call →
    leaves_items call ≡ true
lease_leaves client (MakeDir Locks) own = refl
lease_leaves client (ListDir Locks) own = refl
lease_leaves client (Put path content) own = rw (own.1) refl
lease_leaves client (Delete path) own = rw (own.1) refl
lease_leaves client call own = absurd own

pub calls_of_lease : (client : List ℕ) (e : Event) → IsLeaseEvent client e → IsCall e
calls_of_lease client (Sent call) h = lease_leaves client call h
calls_of_lease client (Called call reply) h = lease_leaves client call h
calls_of_lease client Began h = absurd h
calls_of_lease client (Made number) h = absurd h
calls_of_lease client Ended h = absurd h

pub goes_lease : (client : List ℕ) (old new : LineNow) →
    (course_of client old.trail).lawful ≡ true → LeaseGoesOn client old new →
    WorkGoesOn client old new
goes_lease client old new lawful h = record {
  goes = goes_leased IsCall client old new (calls_of_lease client) h;
  work = (idle_work client old.trail new.trail h.idle).lawful ∙ lawful;
}

pub goes_on : (client : List ℕ) (a b c : LineNow) → WorkGoesOn client a b →
    WorkGoesOn client b c → WorkGoesOn client a c
goes_on client a b c h k =
    record { goes = line_on IsCall client a b c h.goes k.goes; work = k.work }

pub goes_nowhere : (lease : Lease) (s : LineNow) (stage : UpgradeStage) →
    StandsAt lease s.trail stage →
    WorkGoesOn lease.client s s
goes_nowhere lease s stage at = record {
  goes = line_nowhere IsCall lease.client s (Held lease.kind lease.stamp) at.held.stands;
  work = at.lawful;
}

-- ---- the next call

pub may_call : (lease : Lease) (trail : List Event) (stage : UpgradeStage) (call : Call) →
    StandsAt lease trail stage → awaited stage ≡ Some call → puts_text call ≡ true →
    IsNextCall lease trail call
may_call lease trail stage call at next text = record {
  stands = record { exclusive = at.exclusive; held = at.held; lawful = at.lawful; at = refl };
  next = rw (at.at) next;
  text = text;
}

pub may_work : (lease : Lease) (trail : List Event) (call : Call) → IsNextCall lease trail call →
    is_working (role_of lease.client call) ≡ true
may_work lease trail call may =
    awaited_works lease.client (stage_of lease trail) call may.next

pub may_be_called : (lease : Lease) (trail : List Event) (call : Call) (blob : List ℕ) →
    IsNextCall lease trail call → IsCallable call blob
may_be_called lease trail call blob may =
    awaited_callable (stage_of lease trail) call blob may.next

may_leave : (lease : Lease) (trail : List Event) (call : Call) → IsNextCall lease trail call →
    leaves_items call ≡ true
may_leave lease trail call may = awaited_leaves (stage_of lease trail) call may.next

-- the lease with its new stamp is the one that there was
abbrev restamped : Lease → Lease → Lease
restamped lease now = record lease { stamp = now.stamp }

fresh_again : (lease now : Lease) (trail : List Event) → IsSameBut lease now →
    IsFresh now trail → IsFresh (restamped lease now) trail
fresh_again lease now trail same fresh = subst (λ (l : Lease). IsFresh l trail) same fresh

-- behind the renewal the session stands where it stood
ready : (lease now : Lease) (old mid : LineNow) (call : Call) → IsSameBut lease now →
    IsNextCall lease old.trail call → IsFreshlyHeld lease now old mid →
    IsReady lease.client now.stamp mid.trail (stage_of lease old.trail)
ready lease now old mid call same may h =
    let work = idle_work lease.client old.trail mid.trail h.goes.idle in
    let fresh = fresh_again lease now mid.trail same h.fresh in
    record {
      phase = fresh.held.stands.phase
          ∙ ap (λ (k : LockKind). Held k now.stamp) may.stands.exclusive;
      lawful = work.lawful ∙ may.stands.lawful;
      at = work.stage;
    }

goes_called : (lease now : Lease) (old new : LineNow) (call : Call) (before after : List ℕ)
    (reply : Reply) → IsSameBut lease now → IsNextCall lease old.trail call →
    HasCalled lease now call before old new after reply → WorkGoesOn lease.client old new
goes_called lease now old new call before after reply same may h =
    let fresh = fresh_again lease now h.mid.trail same h.ready.fresh in
    let allowed = lease_may (restamped lease now) h.mid.trail call fresh
    (may_work lease old.trail call may) in
    let at = ready lease now old h.mid call same may h.ready in
    let step : WorkGoesOn lease.client h.mid new = record {
      goes = goes_answered IsCall lease.client h.mid new call before after reply allowed
          (may_be_called lease old.trail call before may) (may_leave lease old.trail call may)
          h.answered;
      work = lawful_called lease.client now.stamp h.mid.trail new.trail (stage_of lease old.trail)
          call reply at may.next may.text h.answered.trail;
    } in
    goes_on lease.client old h.mid new
    (goes_lease lease.client old h.mid may.stands.lawful h.ready.goes) step

goes_unheard : (lease now : Lease) (old new : LineNow) (call : Call) (before after : List ℕ) →
    IsSameBut lease now → IsNextCall lease old.trail call →
    HasCalledUnheard lease now call before old new after → WorkGoesOn lease.client old new
goes_unheard lease now old new call before after same may h =
    let fresh = fresh_again lease now h.mid.trail same h.ready.fresh in
    let allowed = lease_may (restamped lease now) h.mid.trail call fresh
    (may_work lease old.trail call may) in
    let at = ready lease now old h.mid call same may h.ready in
    let goes = line_unheard IsCall lease.client h.mid new call before after h.error allowed
    (may_be_called lease old.trail call before may) (may_leave lease old.trail call may) h.unheard
    in
    let work : (course_of lease.client new.trail).lawful ≡ true = elim h.unheard [
      | inl stays ↦
          ap (λ (s : LineNow). (course_of lease.client s.trail).lawful) stays.0 ∙ at.lawful
      | inr sent ↦
          lawful_sent lease.client now.stamp h.mid.trail new.trail (stage_of lease old.trail) call
          at may.next may.text sent.trail
    ] in
    goes_on lease.client old h.mid new
    (goes_lease lease.client old h.mid may.stands.lawful h.ready.goes)
    (record { goes = goes; work = work })

-- ---- what `call_held` gives

pub made : (lease now : Lease) (old new : LineNow) (call : Call) (before after : List ℕ) →
    IsSameBut lease now → IsNextCall lease old.trail call →
    HasWorked lease now call before old new after →
    HasMade lease now call (stage_of lease old.trail) new
made lease now old new call before after same may h =
    let client = client_same lease now same in
    let stage = stage_of lease old.trail in
    let at = ready lease now old h.called.mid call same may h.called.ready in
    let lawful = lawful_called lease.client now.stamp h.called.mid.trail new.trail stage call
    h.reply at may.next may.text h.called.answered.trail in
    let next = stage_called lease.client now.stamp h.called.mid.trail new.trail stage call
    h.reply at may.next h.called.answered.trail in
    record {
      same = same;
      reply = h.reply;
      ends = (h.called.mid.trail, h.called.answered.trail);
      shape = h.called.answered.shape;
      heard = h.heard;
      stands = record {
        exclusive = kind_same lease now same ∙ may.stands.exclusive;
        held = h.held;
        lawful = subst (λ (c : List ℕ). (course_of c new.trail).lawful ≡ true) (sym client)
            lawful;
        at = subst (λ (c : List ℕ). (course_of c new.trail).stage ≡ stage_after_reply stage h.reply)
            (sym client) next;
      };
    }

pub goes_made : (lease now : Lease) (old new : LineNow) (call : Call) (before after : List ℕ) →
    IsSameBut lease now → IsNextCall lease old.trail call →
    HasWorked lease now call before old new after → WorkGoesOn lease.client old new
goes_made lease now old new call before after same may h =
    goes_called lease now old new call before after h.reply same may h.called

lapsed : (lease : Lease) (kind : LockKind) (trail : List Event) (seen : Seen) →
    lease.kind ≡ kind →
    HasMissed lease.kind lease.client (Renewing lease.kind lease.stamp) trail seen →
    HasMissed kind lease.client (Renewing kind lease.stamp) trail seen
lapsed lease kind trail seen is h =
    subst (λ (k : LockKind). HasMissed k lease.client (Renewing k lease.stamp) trail seen) is h

pub stops_held : (lease now : Lease) (old new : LineNow) (call : Call) (before after : List ℕ)
    (e : LeaseErr) → IsNextCall lease old.trail call →
    Works lease now call before old new after (Err e) → Stops lease old new e
stops_held lease now old new call before after (Lost seen) may h =
    (lease.stamp, lapsed lease Exclusive new.trail seen may.stands.exclusive h.1)
stops_held lease now old new call before after TargetFault may h = h.0
stops_held lease now old new call before after NoMemory may h = h.0
stops_held lease now old new call before after (Busy lock moment) may h = h

pub goes_held : (lease now : Lease) (old new : LineNow) (call : Call) (before after : List ℕ)
    (e : LeaseErr) → IsSameBut lease now → IsNextCall lease old.trail call →
    Works lease now call before old new after (Err e) → WorkGoesOn lease.client old new
goes_held lease now old new call before after (Lost seen) same may h =
    goes_lease lease.client old new may.stands.lawful h.0.goes
goes_held lease now old new call before after TargetFault same may h = elim h.1 [
  | inl renewal ↦ goes_lease lease.client old new may.stands.lawful renewal.goes
  | inr called ↦ goes_called lease now old new call before after Failed same may called
]
goes_held lease now old new call before after NoMemory same may h = elim h.1 [
  | inl renewal ↦ goes_lease lease.client old new may.stands.lawful renewal.goes
  | inr called ↦ goes_unheard lease now old new call before after same may called
]
goes_held lease now old new call before after (Busy lock moment) same may h = absurd h

-- ---- several calls

-- no call begins a session
begins_none : (e : Event) → IsCall e → begins e ≡ false
begins_none Began h = absurd h
begins_none e h = refl

-- as long as the lease is held, no call has failed
pub none_failed_come : (a b : Lease) (at : UpgradeStage) (old mid : LineNow) → HasCome a b at mid →
    WorkGoesOn a.client old mid → NoneFailed old.trail mid.trail
none_failed_come a b at old mid come h =
    none_failed_held IsCall b old mid begins_none
    (subst (λ (c : List ℕ). GoesOn IsCall c old mid) (sym (client_same a b come.same)) h.goes)
    come.stands.held

pub none_failed_made : (a b : Lease) (call : Call) (stage : UpgradeStage) (old mid : LineNow) →
    HasMade a b call stage mid → WorkGoesOn a.client old mid →
    NoneFailed old.trail mid.trail
none_failed_made a b call stage old mid m h =
    none_failed_come a b (stage_after_reply stage m.reply) old mid
    (record { same = m.same; stands = m.stands }) h

pub goes_then : (a b : Lease) (at : UpgradeStage) (old mid new : LineNow) → HasCome a b at mid →
    WorkGoesOn a.client old mid → WorkGoesOn b.client mid new → WorkGoesOn a.client old new
goes_then a b at old mid new come h k =
    goes_on a.client old mid new h
    (subst (λ (c : List ℕ). WorkGoesOn c mid new) (client_same a b come.same) k)

pub stops_then : (a b : Lease) (at : UpgradeStage) (old mid new : LineNow) (e : LeaseErr) →
    HasCome a b at mid → WorkGoesOn a.client old mid → Stops b mid new e → Stops a old new e
stops_then a b at old mid new (Lost seen) come h k =
    subst (λ (c : List ℕ). HasLapsed c new.trail seen) (client_same a b come.same) k
stops_then a b at old mid new TargetFault come h k =
    let fails : Fails a.client mid new =
    subst (λ (c : List ℕ). Fails c mid new) (client_same a b come.same) k in
    record { failed = fails.failed; rose = omega (arith, h.goes.line.later, fails.rose) }
stops_then a b at old mid new NoMemory come h k =
    none_failed_on old.trail mid.trail new.trail (none_failed_come a b at old mid come h) k
stops_then a b at old mid new (Busy lock moment) come h k = k

pub come_then : (a b c : Lease) (at stage : UpgradeStage) (mid new : LineNow) → HasCome a b at mid →
    HasCome b c stage new → HasCome a c stage new
come_then a b c at stage mid new come h =
    record { same = same_on a b c come.same h.same; stands = h.stands }
