-- A lease that is taken or renewed, and what is done under it.
use Rattle.std.proofs.Common.{◌≡◌, ◌≤◌, ◌+◌, ◌∙◌, ◌↔◌, refl, sym, ap, subst, inl, inr, arith, ℕ, List, [], ◌∷◌, ◌++◌, false, Option, Some, None, Result, Ok, Err}
use Rattle.std.specs.Prelude.{IsOk, OnErr}
use Rattle.std.proofs.lemmas.Bool.{le-leb}
use Rattle.jop_base.specs.declared.dir.Dir.TheVariants.{Locks}
use Rattle.jop_base.specs.declared.lock_name.LockKind.{LockKind}
use Rattle.jop_base.specs.declared.path.Path.TheVariants.{Lock as LockFile}
use Rattle.jop_base.specs.Times.{last_time}
use Rattle.jop_target.specs.declared.call.Call.TheVariants.{List as ListDir, Delete}
use Rattle.jop_target.specs.declared.event.Event.{Event}
use Rattle.jop_target.specs.declared.event.Event.TheVariants.{Began, Sent, Called, Made, Ended}
use Rattle.jop_target.specs.declared.reply.Reply.{Reply}
use Rattle.jop_target.specs.declared.reply.Reply.TheVariants.{Listed}
use Rattle.jop_target.specs.Trail.{LineNow, moment_after, moment_from, last_moment}
use Rattle.jop_target.proofs.Moments.{moment_from_last}
use Rattle.lease.specs.declared.error.LeaseErr.{LeaseErr}
use Rattle.lease.specs.declared.error.LeaseErr.TheVariants.{Busy, Lost, TargetFault, NoMemory}
use Rattle.lease.specs.declared.error.Seen.{Seen}
use Rattle.lease.specs.declared.lease.Lease.{Lease}
use Rattle.lease.specs.declared.lock.Lock.{Lock}
use Rattle.lease.specs.declared.sight.Sight.{Sight}
use Rattle.lease.specs.Calls.{MayPutLock, HasSeen, is_held}
use Rattle.lease.specs.Discipline.{Session, session_of, phase_of, session_from, session_after}
use Rattle.lease.specs.Locks.{LIFE, RENEWAL, own_name, own_stamp, blocking_in}
use Rattle.lease.specs.Outcomes.{HasLeft, HasMissed, IsBlocked, Renews}
use Rattle.lease.specs.Phase.{Phase, Free, Asked, Held, Renewing, Leaving, Over, ListsLocks, heard, asked_phase, renewed_phase, listed_phase, old_end, stamp_in_time}
use Rattle.lease.specs.Standing.{StandsIn, IsFresh, IsDue}
use Rattle.lease.proofs.Calls.{same_kind-itself}
use Rattle.lease.proofs.Stamps.{own_stamp-le, stamp_is_in_time, in_time-soon}

-- ---- moments

moment_same : (client : List ℕ) (s : Session) (e : Event) →
    (session_after client s e).now ≡ moment_after s.now e
moment_same client s Began = refl
moment_same client s (Sent call) = refl
moment_same client s (Called call reply) = refl
moment_same client s (Made number) = refl
moment_same client s Ended = refl

now-from : (client : List ℕ) (s : Session) (es : List Event) →
    (session_from client s es).now ≡ moment_from s.now es
unfolding session_from moment_from
now-from client s [] = refl
now-from client s (e ∷ es) =
    now-from client (session_after client s e) es ∙
    ap (λ (n : ℕ). moment_from n es) (moment_same client s e)

-- the monitor has the last moment that was told
pub now-is : (client : List ℕ) (trail : List Event) →
    (session_of client trail).now ≡ last_moment trail
now-is client trail = now-from client _ trail

-- ---- when its own lock may be put

pub may_put_first : (kind : LockKind) (client : List ℕ) (trail : List Event) (sight : Sight) →
    HasSeen kind client Free trail sight → sight.blocking ≡ None → MayPutLock kind client trail
may_put_first kind client trail sight h none =
    let s = h.asked.stands in
    let free : blocking_in kind client h.listing ≡ None = sym
    (ap (λ (x : Sight). x.blocking) h.says) ∙ none in
    record {
      stands = record { running = s.running; lawful = s.lawful; phase = refl };
      allowed = rw (s.phase, free) refl;
      in_time = rw (s.phase) refl;
    }

pub may_put_again : (lease : Lease) (trail : List Event) → IsDue lease trail →
    MayPutLock lease.kind lease.client trail
may_put_again lease trail h =
    let s = h.held.stands in
    let due : lease.stamp + RENEWAL ≤ (session_of lease.client trail).now = omega
    (arith, h.due, now-is lease.client trail) in
    record {
      stands = record { running = s.running; lawful = s.lawful; phase = refl };
      allowed = rw (s.phase, same_kind-itself lease.kind) refl;
      in_time = rw (s.phase) (le-leb _ _ due);
    }

-- ---- what the listing behind the put says

own_seen : (kind : LockKind) (client : List ℕ) (at : Phase) (trail : List Event) (sight : Sight)
    (h : HasSeen kind client at trail sight) → own_stamp kind client h.listing ≡ sight.own
own_seen kind client at trail sight h = sym (ap (λ (x : Sight). x.own) h.says)

now_seen : (kind : LockKind) (client : List ℕ) (at : Phase) (trail : List Event) (sight : Sight)
    (h : HasSeen kind client at trail sight) → h.listing.now ≡ sight.now
now_seen kind client at trail sight h = sym (ap (λ (x : Sight). x.now) h.says)

fresh_of : (kind : LockKind) (client : List ℕ) (at : Phase) (trail : List Event) (sight : Sight)
    (end : Option ℕ)
    (stamp : ℕ) (h : HasSeen kind client at trail sight) →
    stamp_in_time end sight.now sight.own ≡ Some stamp →
    heard client at ListsLocks (Listed h.listing) ≡ Held kind stamp →
    IsFresh (record { client = client; kind = kind; stamp = stamp }) trail
fresh_of kind client at trail sight end stamp h is held =
    let by = stamp_is_in_time end sight.now sight.own stamp is in
    let told : last_moment trail ≡ h.listing.now =
    ap last_moment h.asked.ends ∙ moment_from_last 0 h.asked.before
    (Called (ListDir Locks) (Listed h.listing)) in
    record {
      held = record {
        in_time =
            own_stamp-le kind client h.listing last_time stamp h.asked.shape.stamps
            (own_seen _ _ _ _ _ h ∙ by.own_is);
        stands = subst (λ (p : Phase). StandsIn client trail p) held h.asked.stands;
      };
      fresh =
          omega (arith, told, now_seen _ _ _ _ _ h, in_time-soon end sight.now stamp by.in_time);
    }

pub acquired : (kind : LockKind) (client : List ℕ) (trail : List Event) (sight : Sight)
    (stamp : ℕ) →
    HasSeen kind client (Asked kind) trail sight →
    stamp_in_time None sight.now sight.own ≡ Some stamp →
    sight.blocking ≡ None → IsFresh (record { client = client; kind = kind; stamp = stamp }) trail
acquired kind client trail sight stamp h is none =
    let free : blocking_in kind client h.listing ≡ None = sym
    (ap (λ (x : Sight). x.blocking) h.says) ∙ none in
    let shown : stamp_in_time None h.listing.now (own_stamp kind client h.listing) ≡ Some stamp =
    rw (now_seen _ _ _ _ _ h, own_seen _ _ _ _ _ h) is in
    let held : asked_phase kind client h.listing ≡ Held kind stamp = λ i. listed_phase kind
    (shown i) (free i) in
    fresh_of kind client (Asked kind) trail sight None stamp h is held

pub renewed : (lease : Lease) (trail : List Event) (sight : Sight) (end : Option ℕ) (stamp : ℕ) →
    end ≡ Some (lease.stamp + LIFE) → HasSeen lease.kind lease.client
    (Renewing lease.kind lease.stamp) trail sight →
    stamp_in_time end sight.now sight.own ≡ Some stamp → IsFresh (record lease {
      stamp = stamp;
    }) trail
renewed lease trail sight end stamp ends h is =
    let shown : stamp_in_time (Some (lease.stamp + LIFE)) sight.now sight.own ≡ Some stamp = rw
    (← ends) is in
    let held : renewed_phase lease.kind lease.stamp lease.client h.listing ≡ Held lease.kind stamp =
    rw (now_seen _ _ _ _ _ h, own_seen _ _ _ _ _ h, shown) refl in
    fresh_of lease.kind lease.client (Renewing lease.kind lease.stamp)
    trail sight end stamp h is held

-- ---- its own lock isn't shown in time, or another's is in its way

pub missed_leaving : (kind : LockKind) (client : List ℕ) (trail : List Event) (sight : Sight) →
    HasSeen kind client (Asked kind) trail sight → stamp_in_time None sight.now sight.own ≡ None →
    StandsIn client trail (Leaving kind)
missed_leaving kind client trail sight h is =
    let gone : asked_phase kind client h.listing ≡ Leaving kind = rw
    (now_seen _ _ _ _ _ h, own_seen _ _ _ _ _ h, is) refl in
    subst (λ (p : Phase). StandsIn client trail p) gone h.asked.stands

pub blocked_leaving : (kind : LockKind) (client : List ℕ) (trail : List Event) (sight : Sight)
    (stamp : ℕ) (lock : Lock) →
    HasSeen kind client (Asked kind) trail sight →
    stamp_in_time None sight.now sight.own ≡ Some stamp →
    sight.blocking ≡ Some lock → StandsIn client trail (Leaving kind)
blocked_leaving kind client trail sight stamp lock h is blocks =
    let blocked : blocking_in kind client h.listing ≡ Some lock = sym
    (ap (λ (x : Sight). x.blocking) h.says) ∙ blocks in
    let shown : stamp_in_time None h.listing.now (own_stamp kind client h.listing) ≡ Some stamp =
    rw (now_seen _ _ _ _ _ h, own_seen _ _ _ _ _ h) is in
    let gone : asked_phase kind client h.listing ≡ Leaving kind = λ i. listed_phase kind (shown i)
    (blocked i) in
    subst (λ (p : Phase). StandsIn client trail p) gone h.asked.stands

pub lapsed_leaving : (lease : Lease) (trail : List Event) (sight : Sight) (end : Option ℕ) →
    end ≡ Some (lease.stamp + LIFE) → HasSeen lease.kind lease.client
    (Renewing lease.kind lease.stamp) trail sight →
    stamp_in_time end sight.now sight.own ≡ None → StandsIn lease.client trail (Leaving lease.kind)
lapsed_leaving lease trail sight end ends h is =
    let shown : stamp_in_time (Some (lease.stamp + LIFE)) sight.now sight.own ≡ None = rw (← ends)
    is in
    let gone : renewed_phase lease.kind lease.stamp lease.client h.listing ≡ Leaving lease.kind =
    rw (now_seen _ _ _ _ _ h, own_seen _ _ _ _ _ h, shown) refl in
    subst (λ (p : Phase). StandsIn lease.client trail p) gone h.asked.stands

pub has_left : (kind : LockKind) (client : List ℕ) (at : Phase) (sight : Sight)
    (before after : List Event) (reply : Reply)
    (h : HasSeen kind client at before sight) →
    after ≡ before ++ Called (Delete (LockFile (own_name kind client))) reply ∷ [] →
    StandsIn client after Over →
    HasLeft kind client at after h.listing
has_left kind client at sight before after reply h ends over =
    record { before = before; asked = h.asked; reply = reply; ends = ends; over = over }

pub missed : (kind : LockKind) (client : List ℕ) (at : Phase) (sight : Sight) (end : Option ℕ)
    (seen : Seen) (before after : List Event) (reply : Reply) →
    HasSeen kind client at before sight → old_end at ≡ end →
    stamp_in_time end sight.now sight.own ≡ None →
    seen ≡ record { own = sight.own; now = sight.now; old_end = end } →
    after ≡ before ++ Called (Delete (LockFile (own_name kind client))) reply ∷ [] →
    StandsIn client after Over → HasMissed kind client at after seen
missed kind client at sight end seen before after reply h ends none is trail over = record {
  listing = h.listing;
  left = has_left kind client at sight before after reply h trail over;
  now = now_seen kind client at before sight h ∙ sym (ap (λ (s : Seen). s.now) is);
  own = own_seen kind client at before sight h ∙ sym (ap (λ (s : Seen). s.own) is);
  end = ends ∙ sym (ap (λ (s : Seen). s.old_end) is);
  missed = rw is none;
}

pub blocked : (kind : LockKind) (client : List ℕ) (sight : Sight) (stamp : ℕ) (lock : Lock)
    (before after : List Event) (reply : Reply) → HasSeen kind client (Asked kind) before sight →
    stamp_in_time None sight.now sight.own ≡ Some stamp → sight.blocking ≡ Some lock →
    after ≡ before ++ Called (Delete (LockFile (own_name kind client))) reply ∷ [] →
    StandsIn client after Over → IsBlocked kind client after lock sight.now
blocked kind client sight stamp lock before after reply h shown blocks trail over = inr (record {
  listing = h.listing;
  at = now_seen kind client (Asked kind) before sight h;
  left = has_left kind client (Asked kind) sight before after reply h trail over;
  stamp = stamp;
  shown = rw (now_seen _ _ _ _ _ h, own_seen _ _ _ _ _ h) shown;
  blocking = sym (ap (λ (x : Sight). x.blocking) h.says) ∙ blocks;
})

-- ---- a renewal is Ok if the lease is held again

unheld : (client : List ℕ) (kind : LockKind) (stamp : ℕ) (trail : List Event) →
    StandsIn client trail (Held kind stamp) →
    is_held (phase_of client trail) ≡ false → ⊥
unheld client kind stamp trail s h =
    let is : is_held (Held kind stamp) ≡ false = ap is_held (sym s.phase) ∙ h in cc

over_unheld : (client : List ℕ) (trail : List Event) → StandsIn client trail Over →
    is_held (phase_of client trail) ≡ false
over_unheld client trail s = rw (s.phase) refl

undue : (lease : Lease) (old new : List Event) → IsDue lease old → new ≡ old → IsFresh lease new → ⊥
undue lease old new due same fresh =
    let told : last_moment new ≡ last_moment old = ap last_moment same in
    omega (arith, told, due.due, fresh.fresh)

not_fresh : (before after : Lease) (old new : LineNow) (e : LeaseErr) → IsDue before old.trail →
    after ≡ before →
    Renews before after old new (Err e) → IsFresh after new.trail → ⊥
not_fresh before after old new e due same gives fresh =
    go e gives (subst (λ (l : Lease). IsFresh l new.trail) same fresh)
  where
    go : (e : LeaseErr) → Renews before after old new (Err e) → IsFresh before new.trail → ⊥
    go (Busy lock now) h f = h
    go (Lost seen) h f = unheld _ _ _ new.trail f.held.stands (over_unheld _ new.trail h.left.over)
    go TargetFault h f =
        unheld _ _ _ new.trail f.held.stands (over_unheld _ new.trail h.failed.over)
    go NoMemory (inl unchanged) f = undue before old.trail new.trail due unchanged f
    go NoMemory (inr starved) f = unheld _ _ _ new.trail f.held.stands starved

pub held_again : (before after : Lease) (old new : LineNow) (result : Result (Unit {0}) LeaseErr) →
    IsDue before old.trail →
    OnErr result (after ≡ before) → Renews before after old new result →
    IsOk result ↔ IsFresh after new.trail
held_again before after old new (Ok done) due same gives = (λ ok. gives, λ fresh. refl)
held_again before after old new (Err e) due same gives =
    (λ ok. cc, λ fresh. absurd (not_fresh before after old new e due same gives fresh))
