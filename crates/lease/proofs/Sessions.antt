-- A session's monitor, call by call.
use Rattle.std.proofs.Common.{◌≡◌, ◌⊎◌, ◌∙◌, refl, sym, ap, subst, inl, inr, ℕ, List, [], ◌∷◌, ◌++◌, Bool, true, false, ◌&&◌, not, append_assoc, append-nil}
use Rattle.std.specs.declared.alloc.AllocError.{AllocError}
use Rattle.jop_target.specs.declared.call.Call.{Call}
use Rattle.jop_target.specs.declared.call.Call.TheVariants.{List as ListDir, Put, Delete, MakeDir}
use Rattle.jop_target.specs.declared.reply.Reply.{Reply}
use Rattle.jop_target.specs.declared.event.Event.{Event}
use Rattle.jop_target.specs.declared.event.Event.TheVariants.{Began, Sent, Called, Made, Ended}
use Rattle.jop_target.specs.Replies.{IsCallable, IsReplyTo}
use Rattle.jop_target.proofs.Runs.{continues_on, continues_same, continues_answered, continues_unheard, continues_weaker}
use Rattle.jop_target.specs.Running.{is_running, runs_from}
use Rattle.jop_target.specs.Trail.{LineNow, IsAnswered, IsUnheard, EndsWith}
use Rattle.lease.specs.Calls.{IsLeaseCall, IsLeaseEvent, GoesOn, LeaseGoesOn, MayCallInOrder, MayAskOwn, HearsReply, IsLast}
use Rattle.lease.specs.Discipline.{Session, session_of, phase_of, session_from, session_after, outside, keeps_lock_order, renews_in_time}
use Rattle.lease.specs.Idle.{is_work, is_idle_event, is_idle_from, IsIdle}
use Rattle.lease.specs.Phase.{Phase, Over, Role, role_of, allows, heard}
use Rattle.lease.specs.Standing.{StandsIn}

-- ---- the fold

pub session_from-append : (client : List ℕ) (s : Session) (xs ys : List Event) →
    session_from client s (xs ++ ys) ≡ session_from client (session_from client s xs) ys
unfolding session_from
session_from-append client s [] ys = refl
session_from-append client s (x ∷ xs) ys =
    session_from-append client (session_after client s x) xs ys

pub session_from-last : (client : List ℕ) (s : Session) (es : List Event) (e : Event) →
    session_from client s (es ++ e ∷ []) ≡ session_after client (session_from client s es) e
unfolding session_from
session_from-last client s es e = session_from-append client s es (e ∷ [])

-- ---- a session that goes on

-- the diary and the discipline of locks say the same of it
running_from : (client : List ℕ) (s : Session) (es : List Event) →
    (session_from client s es).running ≡ runs_from s.running es
unfolding session_from runs_from
running_from client s [] = refl
running_from client s (Began ∷ es) = running_from client (session_after client s Began) es
running_from client s (Sent call ∷ es) =
    running_from client (session_after client s (Sent call)) es
running_from client s (Called call reply ∷ es) =
    running_from client (session_after client s (Called call reply)) es
running_from client s (Made number ∷ es) = running_from client s es
running_from client s (Ended ∷ es) = running_from client (session_after client s Ended) es

still_running : (client : List ℕ) (trail : List Event) →
    (session_of client trail).running ≡ true → is_running trail ≡ true
still_running client trail running = sym (running_from client outside trail) ∙ running

-- so there is room for its end
pub has_room : (client : List ℕ) (trail : List Event) → (session_of client trail).running ≡ true →
    ¬ (is_running trail ≡ true → false ≡ true)
has_room client trail running refused =
    let lost : false ≡ true = refused (still_running client trail running) in
    cc

-- ---- one call

all_four : (a b c d : Bool) → a ≡ true → b ≡ true → c ≡ true → d ≡ true →
    (a && (b && (c && d))) ≡ true
all_four true true true d h i j k = k
all_four false b c d h i j k = h
all_four true false c d h i j k = i
all_four true true false d h i j k = j

-- an answered call
stands_after : (client : List ℕ) (old new : List Event) (call : Call) (reply : Reply) →
    MayCallInOrder client old call →
    IsReplyTo call reply → new ≡ old ++ Called call reply ∷ [] →
    StandsIn client new (heard client (phase_of client old) (role_of client call) reply)
stands_after client old new call reply may shape ends =
    let s = may.stands in
    let whole : session_of client new ≡ session_after client (session_of client old)
    (Called call reply) =
    ap (session_of client) ends ∙ session_from-last client outside old (Called call reply) in
    record {
      running = rw whole s.running;
      lawful =
          rw (whole, may.allowed) (all_four _ _ _ _ s.lawful s.running may.in_time
          (may.sound reply shape));
      phase = rw (whole, may.allowed) refl;
    }

-- a call whose reply was never heard
stands_unheard : (client : List ℕ) (old new : List Event) (call : Call) →
    MayCallInOrder client old call →
    new ≡ old ++ Sent call ∷ [] → StandsIn client new Over
stands_unheard client old new call may ends =
    let s = may.stands in
    let whole : session_of client new ≡ session_after client (session_of client old) (Sent call) =
    ap (session_of client) ends ∙ session_from-last client outside old (Sent call) in
    record {
      running = rw whole s.running;
      lawful = rw (whole, may.allowed) (all_four _ _ _ _ s.lawful s.running may.in_time refl);
      phase = rw (whole, may.allowed) refl;
    }

pub hears : (client : List ℕ) (old new : LineNow) (call : Call) (before after : List ℕ)
    (reply : Reply) →
    MayCallInOrder client old.trail call → IsAnswered old call before new after reply →
    HearsReply client call old new reply
hears client old new call before after reply may h = record {
  trail = h.trail;
  shape = h.shape;
  stands = stands_after client old.trail new.trail call reply may h.shape h.trail;
}

pub unheard : (client : List ℕ) (old new : LineNow) (call : Call) (before after : List ℕ)
    (e : AllocError) →
    MayCallInOrder client old.trail call → IsUnheard old call before new after e →
    (new.trail ≡ old.trail) ⊎ IsLast client call old.trail new.trail
unheard client old new call before after e may h = elim h [
  | inl same ↦ inl (ap (λ (s : LineNow). s.trail) same.0)
  | inr sent ↦ inr (record {
    trail = sent.trail;
    over = stands_unheard client old.trail new.trail call may sent.trail;
  })
]

-- what was read of the reply is the reply
pub last_is : (client : List ℕ) (old new : LineNow) (call : Call) (reply r : Reply) →
    HearsReply client call old new reply →
    ((c : Call) (y : Reply) → EndsWith new.trail c y → r ≡ y) → r ≡ reply
last_is client old new call reply r h last = last call reply (old.trail, h.trail)

pub hears_as : (client : List ℕ) (old new : LineNow) (call : Call) (reply r : Reply) →
    HearsReply client call old new reply → reply ≡ r → HearsReply client call old new r
hears_as client old new call reply r h same =
    subst (λ (x : Reply). HearsReply client call old new x) same h

-- ---- a session goes on

pub goes_answered : (P : Event → Type 0) (client : List ℕ) (old new : LineNow) (call : Call)
    (before after : List ℕ)
    (reply : Reply) → MayCallInOrder client old.trail call → IsCallable call before →
    P (Called call reply) →
    IsAnswered old call before new after reply → GoesOn P client old new
goes_answered P client old new call before after reply may callable each h =
    let stands = stands_after client old.trail new.trail call reply may h.shape h.trail in
    record {
      running = stands.running;
      lawful = stands.lawful;
      line = continues_answered P old new call before after reply callable h each;
    }

pub goes_unheard : (P : Event → Type 0) (client : List ℕ) (old new : LineNow) (call : Call)
    (before after : List ℕ)
    (e : AllocError) → MayCallInOrder client old.trail call → IsCallable call before →
    P (Sent call) →
    IsUnheard old call before new after e → GoesOn P client old new
goes_unheard P client old new call before after e may callable each h =
    let line = continues_unheard P old new call before after e callable h each in
    elim (unheard client old new call before after e may h) [
      | inl same ↦ record {
        running = rw same may.stands.running;
        lawful = rw same may.stands.lawful;
        line = line;
      }
      | inr last ↦ record { running = last.over.running; lawful = last.over.lawful; line = line }
    ]

pub goes_on : (P : Event → Type 0) (client : List ℕ) (a b c : LineNow) →
    GoesOn P client a b → GoesOn P client b c → GoesOn P client a c
goes_on P client a b c h k = record {
  running = k.running;
  lawful = k.lawful;
  line = continues_on P a b c h.line k.line;
}

pub goes_nowhere : (P : Event → Type 0) (client : List ℕ) (s : LineNow) (at : Phase) →
    StandsIn client s.trail at → GoesOn P client s s
goes_nowhere P client s at stands = record {
  running = stands.running;
  lawful = stands.lawful;
  line = continues_same P s;
}

-- by calls of the lease
pub goes_leased : (P : Event → Type 0) (client : List ℕ) (old new : LineNow) →
    ((e : Event) → IsLeaseEvent client e → P e) → LeaseGoesOn client old new →
    GoesOn P client old new
goes_leased P client old new weaker h = record {
  running = h.running;
  lawful = h.lawful;
  line = continues_weaker (IsLeaseEvent client) P old new weaker h.line;
}

-- ---- no work

idle_more : (a b c : Bool) → (a && b) ≡ true → (b ≡ true → c ≡ true) → (a && c) ≡ true
idle_more true b c h k = k h
idle_more false b c h k = h

is_idle-append : (client : List ℕ) (s : Session) (xs ys : List Event) →
    is_idle_from client s xs ≡ true →
    is_idle_from client (session_from client s xs) ys ≡ true →
    is_idle_from client s (xs ++ ys) ≡ true
unfolding is_idle_from session_from
is_idle-append client s [] ys h k = k
is_idle-append client s (x ∷ xs) ys h k =
    let next = session_after client s x in
    idle_more (is_idle_event client s x) (is_idle_from client next xs)
    (is_idle_from client next (xs ++ ys)) h
    (λ rest. is_idle-append client next xs ys rest k)

pub idle_on : (client : List ℕ) (a b c : List Event) → IsIdle client a b → IsIdle client b c →
    IsIdle client a c
idle_on client a b c h k =
    let at : session_of client b ≡ session_from client (session_of client a) h.more =
    ap (session_of client) h.trail ∙ session_from-append client outside a h.more in
    record {
      more = h.more ++ k.more;
      trail =
          k.trail ∙ (ap (λ (t : List Event). t ++ k.more) h.trail ∙ append_assoc a h.more k.more);
      idle = is_idle-append client (session_of client a) h.more k.more h.idle
          (subst (λ (s : Session). is_idle_from client s k.more ≡ true) at k.idle);
    }

pub idle_same : (client : List ℕ) (a b : List Event) → b ≡ a → IsIdle client a b
unfolding is_idle_from
idle_same client a b is = record { more = []; trail = is ∙ sym (append-nil a); idle = refl }

not_work : (b : Bool) → b ≡ false → (not b && true) ≡ true
not_work true h = sym h
not_work false h = refl

idle_called : (client : List ℕ) (old new : List Event) (call : Call) (reply : Reply) →
    is_work (phase_of client old) (role_of client call) ≡ false →
    new ≡ old ++ Called call reply ∷ [] →
    IsIdle client old new
unfolding is_idle_from
idle_called client old new call reply h is =
    record { more = Called call reply ∷ []; trail = is; idle = not_work _ h }

idle_sent : (client : List ℕ) (old new : List Event) (call : Call) →
    is_work (phase_of client old) (role_of client call) ≡ false → new ≡ old ++ Sent call ∷ [] →
    IsIdle client old new
unfolding is_idle_from
idle_sent client old new call h is =
    record { more = Sent call ∷ []; trail = is; idle = not_work _ h }

-- ---- a call of the lease's own

lease_callable : (client : List ℕ) (call : Call) (blob : List ℕ) → IsLeaseCall client call →
    IsCallable call blob
lease_callable client (ListDir dir) blob own = tt
lease_callable client (MakeDir dir) blob own = tt
lease_callable client (Delete path) blob own = tt
lease_callable client (Put path content) blob own = rw (own.1) refl
lease_callable client call blob own = absurd own

idle_lease : (client : List ℕ) (old new : LineNow) → GoesOn (IsLeaseEvent client) client old new →
    IsIdle client old.trail new.trail → LeaseGoesOn client old new
idle_lease client old new h idle =
    record { running = h.running; lawful = h.lawful; line = h.line; idle = idle }

pub lease_answered : (client : List ℕ) (old new : LineNow) (call : Call) (before after : List ℕ)
    (reply : Reply) →
    MayAskOwn client old.trail call → IsAnswered old call before new after reply →
    LeaseGoesOn client old new
lease_answered client old new call before after reply m h =
    let callable = lease_callable client call before m.own in
    idle_lease client old new
    (goes_answered (IsLeaseEvent client)
    client old new call before after reply m.may callable m.own h)
    (idle_called client old.trail new.trail call reply m.idle h.trail)

pub lease_unheard : (client : List ℕ) (old new : LineNow) (call : Call) (before after : List ℕ)
    (e : AllocError) →
    MayAskOwn client old.trail call → IsUnheard old call before new after e →
    LeaseGoesOn client old new
lease_unheard client old new call before after e m h =
    let callable = lease_callable client call before m.own in
    idle_lease client old new
    (goes_unheard (IsLeaseEvent client) client old new call before after e m.may callable m.own h)
    (elim h [
      | inl same ↦ idle_same client old.trail new.trail (ap (λ (s : LineNow). s.trail) same.0)
      | inr sent ↦ idle_sent client old.trail new.trail call m.idle sent.trail
    ])

pub lease_on : (client : List ℕ) (a b c : LineNow) →
    LeaseGoesOn client a b → LeaseGoesOn client b c → LeaseGoesOn client a c
lease_on client a b c h k = record {
  running = k.running;
  lawful = k.lawful;
  line = continues_on (IsLeaseEvent client) a b c h.line k.line;
  idle = idle_on client a.trail b.trail c.trail h.idle k.idle;
}

pub lease_nowhere : (client : List ℕ) (s : LineNow) (at : Phase) → StandsIn client s.trail at →
    LeaseGoesOn client s s
lease_nowhere client s at stands = record {
  running = stands.running;
  lawful = stands.lawful;
  line = continues_same (IsLeaseEvent client) s;
  idle = idle_same client s.trail s.trail refl;
}

-- ---- in a known phase, and by a known role

pub may_call : (client : List ℕ) (trail : List Event) (at : Phase) (call : Call) (role : Role) →
    StandsIn client trail at →
    role_of client call ≡ role → allows client at role ≡ true →
    renews_in_time at (session_of client trail).now role ≡ true →
    ((reply : Reply) → IsReplyTo call reply →
    keeps_lock_order (heard client at role reply) ≡ true) →
    MayCallInOrder client trail call
may_call client trail at call role s is allowed in_time sound = record {
  stands = record { running = s.running; lawful = s.lawful; phase = refl };
  allowed = rw (s.phase, is) allowed;
  in_time = rw (s.phase, is) in_time;
  sound = λ reply shape. rw (s.phase, is) (sound reply shape);
}

pub hears_at : (client : List ℕ) (at : Phase) (old new : LineNow) (call : Call) (role : Role)
    (reply : Reply) →
    StandsIn client old.trail at → role_of client call ≡ role →
    HearsReply client call old new reply →
    StandsIn client new.trail (heard client at role reply)
hears_at client at old new call role reply s is h =
    subst (λ (r : Role). StandsIn client new.trail (heard client at r reply)) is
    (subst (λ (p : Phase). StandsIn client new.trail (heard client p (role_of client call) reply))
    s.phase h.stands)
