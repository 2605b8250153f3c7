-- What is done under a lease.
use Rattle.std.proofs.Common.{◌≡◌, ◌≤◌, ◌<◌, ◌+◌, ◌∙◌, refl, sym, ap, subst, inl, inr, arith, ℕ, List, [], ◌∷◌, ◌++◌, append_assoc, true, false, Ok, Err}
use Rattle.std.specs.declared.alloc.AllocError.{AllocError}
use Rattle.std.proofs.lemmas.Bool.{lt-ltb}
use Rattle.jop_base.specs.declared.lock_name.LockKind.{LockKind}
use Rattle.jop_target.specs.declared.call.Call.{Call}
use Rattle.jop_target.specs.declared.event.Event.{Event}
use Rattle.jop_target.specs.declared.event.Event.TheVariants.{Sent}
use Rattle.jop_target.specs.declared.reply.Reply.{Reply}
use Rattle.jop_target.specs.declared.reply.Reply.TheVariants.{Failed}
use Rattle.jop_target.specs.Runs.{has_failed}
use Rattle.jop_target.specs.Trail.{LineNow, IsAnswered, IsUnheard}
use Rattle.jop_target.proofs.Runs.{has_failed-append}
use Rattle.lease.specs.declared.error.LeaseErr.{LeaseErr}
use Rattle.lease.specs.declared.error.LeaseErr.TheVariants.{Busy, Lost, TargetFault, NoMemory}
use Rattle.lease.specs.declared.lease.Lease.{Lease}
use Rattle.lease.specs.Added.{AddsCalls}
use Rattle.lease.specs.Calls.{LeaseGoesOn, MayCallInOrder, Fails}
use Rattle.lease.specs.Discipline.{session_of, keeps_lock_order, renews_in_time}
use Rattle.lease.specs.Idle.{is_working, is_work}
use Rattle.lease.specs.Locks.{RENEWAL}
use Rattle.lease.specs.Outcomes.{Renews, RenewsIfDue}
use Rattle.lease.specs.Phase.{Phase, Held, Role, MakesLocks, Plain, role_of, allows, heard}
use Rattle.lease.specs.Standing.{StandsIn, IsHeld, IsFresh, IsSameBut}
use Rattle.lease.specs.Work.{IsFreshlyHeld, MakesRenewal, NoneFailed, RenewsInVain, Works}
use Rattle.lease.proofs.Added.{not_failed}
use Rattle.lease.proofs.Calls.{held_stays}
use Rattle.lease.proofs.Renewals.{now-is}
use Rattle.lease.proofs.Sessions.{may_call, hears, hears_at}

-- ---- the phase

working_allowed : (client : List ℕ) (kind : LockKind) (stamp : ℕ) (role : Role) →
    is_working role ≡ true →
    allows client (Held kind stamp) role ≡ true
working_allowed client kind stamp MakesLocks h = refl
working_allowed client kind stamp Plain h = refl
working_allowed client kind stamp role h = cc

working_in_time : (kind : LockKind) (stamp now : ℕ) (role : Role) → is_working role ≡ true →
    now < stamp + RENEWAL →
    renews_in_time (Held kind stamp) now role ≡ true
working_in_time kind stamp now MakesLocks h lt = lt-ltb _ _ lt
working_in_time kind stamp now Plain h lt = lt-ltb _ _ lt
working_in_time kind stamp now role h lt = cc

working_in_order : (client : List ℕ) (kind : LockKind) (stamp : ℕ) (role : Role) (reply : Reply) →
    is_working role ≡ true →
    keeps_lock_order (heard client (Held kind stamp) role reply) ≡ true
working_in_order client kind stamp role Failed h = refl
working_in_order client kind stamp role reply h =
    ap keeps_lock_order (held_stays client kind stamp role reply h refl)

pub working_is_work : (kind : LockKind) (stamp : ℕ) (role : Role) → is_working role ≡ true →
    is_work (Held kind stamp) role ≡ true
working_is_work kind stamp MakesLocks h = refl
working_is_work kind stamp Plain h = refl
working_is_work kind stamp role h = cc

-- a call of work is one that the discipline allows under a fresh lease
pub may_work : (lease : Lease) (trail : List Event) (call : Call) → IsFresh lease trail →
    is_working (role_of lease.client call) ≡ true → MayCallInOrder lease.client trail call
may_work lease trail call f work =
    let soon : (session_of lease.client trail).now < lease.stamp + RENEWAL = omega
    (arith, now-is lease.client trail, f.fresh) in
    let role = role_of lease.client call in
    may_call lease.client trail (Held lease.kind lease.stamp) call role f.held.stands refl
    (working_allowed lease.client lease.kind lease.stamp role work)
    (working_in_time lease.kind lease.stamp (session_of lease.client trail).now role work soon)
    (λ reply shape. working_in_order lease.client lease.kind lease.stamp role reply work)

-- ---- the call was answered

pub work_held : (lease : Lease) (mid new : LineNow) (call : Call) (blob bytes : List ℕ)
    (reply : Reply) →
    IsFresh lease mid.trail → is_working (role_of lease.client call) ≡ true →
    IsAnswered mid call blob new bytes reply →
    ¬ (reply ≡ Failed) → IsHeld lease new.trail
work_held lease mid new call blob bytes reply f work h ok =
    let hears' = hears lease.client mid new call blob bytes reply
    (may_work lease mid.trail call f work) h in
    let stands = hears_at lease.client (Held lease.kind lease.stamp) mid new call
    (role_of lease.client call) reply f.held.stands refl hears' in
    let stays = held_stays lease.client lease.kind lease.stamp (role_of lease.client call)
    reply work (not_failed reply ok) in
    record {
      in_time = f.held.in_time;
      stands = subst (λ (p : Phase). StandsIn lease.client new.trail p) stays stands;
    }

pub work_failed : (lease : Lease) (old mid new : LineNow) (call : Call) (blob bytes : List ℕ) →
    old.target.faults ≤ mid.target.faults → IsFresh lease mid.trail →
    is_working (role_of lease.client call) ≡ true →
    IsAnswered mid call blob new bytes Failed → Fails lease.client old new
work_failed lease old mid new call blob bytes later f work h =
    let hears' = hears lease.client mid new call blob bytes Failed
    (may_work lease mid.trail call f work) h in
    record {
      failed = record {
        before = mid.trail;
        call = call;
        ends = h.trail;
        matters = rw (f.held.stands.phase) refl;
        over = hears'.stands;
      };
      rose = let r = h.fault refl in omega arith;
    }

pub answered_as : (mid new : LineNow) (call : Call) (blob bytes : List ℕ) (reply r : Reply) →
    IsAnswered mid call blob new bytes reply → reply ≡ r → IsAnswered mid call blob new bytes r
answered_as mid new call blob bytes reply r h same =
    subst (λ (y : Reply). IsAnswered mid call blob new bytes y) same h

-- ---- out of memory no call was answered `Failed`

pub none_failed : (calls rest : List Call) (old new : List Event) →
    AddsCalls calls rest false old new → NoneFailed old new
none_failed calls rest old new h = record { more = h.more; trail = h.trail; heard = h.fails }

pub none_failed_unheard : (calls rest : List Call) (old mid new : LineNow) (call : Call)
    (blob bytes : List ℕ)
    (e : AllocError) → AddsCalls calls rest false old.trail mid.trail →
    IsUnheard mid call blob new bytes e →
    NoneFailed old.trail new.trail
unfolding has_failed
none_failed_unheard calls rest old mid new call blob bytes e h unheard = elim unheard [
  | inl same ↦ record {
    more = h.more;
    trail = ap (λ (s : LineNow). s.trail) same.0 ∙ h.trail;
    heard = h.fails;
  }
  | inr sent ↦ record {
    more = h.more ++ Sent call ∷ [];
    trail =
        sent.trail ∙ (ap (λ (t : List Event). t ++ Sent call ∷ []) h.trail ∙
        append_assoc old.trail h.more (Sent call ∷ []));
    heard = rw (has_failed-append h.more (Sent call ∷ []), h.fails) refl;
  }
]

-- ---- the renewal gave nothing

pub works_none : (before after : Lease) (call : Call) (blob bytes : List ℕ) (old new : LineNow)
    (e : LeaseErr) → RenewsInVain before old new e → Renews before after old new (Err e) →
    Works before after call blob old new bytes (Err e)
works_none before after call blob bytes old new (Lost seen) vain h = (vain, h)
works_none before after call blob bytes old new TargetFault vain h = (h, inl vain)
works_none before after call blob bytes old new NoMemory vain h =
    (none_failed _ vain.calls.0 _ _ vain.calls.1, inl vain)
works_none before after call blob bytes old new (Busy lock now) vain h = h

pub is_ready : (before after : Lease) (old mid : LineNow) → LeaseGoesOn before.client old mid →
    MakesRenewal before old mid (Ok tt) → RenewsIfDue before after old mid (Ok tt) →
    IsFreshlyHeld before after old mid
is_ready before after old mid goes made h =
    record { goes = goes; calls = made; fresh = h.0; spared = h.1 }

-- the lease with its new stamp is the one that there was
pub fresh_same : (before after : Lease) (trail : List Event) → IsSameBut before after →
    IsFresh after trail →
    IsFresh (record before { stamp = after.stamp }) trail
fresh_same before after trail same fresh = subst (λ (l : Lease). IsFresh l trail) same fresh

pub held_same : (before after : Lease) (trail : List Event) → IsSameBut before after →
    IsHeld (record before { stamp = after.stamp }) trail → IsHeld after trail
held_same before after trail same held = subst (λ (l : Lease). IsHeld l trail) (sym same) held
