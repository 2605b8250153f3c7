-- While a lease is held no call of its session has failed.
use Rattle.std.proofs.Common.{◌≡◌, ◌∙◌, refl, sym, ap, arith, ℕ, suc, List, [], ◌∷◌, ◌++◌, append-nil, append_assoc, Bool, true, false, cond}
use Rattle.std.specs.Prelude.{All}
use Rattle.jop_target.specs.declared.call.Call.{Call}
use Rattle.jop_target.specs.declared.event.Event.{Event}
use Rattle.jop_target.specs.declared.event.Event.TheVariants.{Began, Sent, Called, Made, Ended}
use Rattle.jop_target.specs.declared.reply.Reply.{Reply}
use Rattle.jop_target.specs.declared.reply.Reply.TheVariants.{Failed}
use Rattle.jop_target.specs.Runs.{has_failed}
use Rattle.jop_target.specs.Trail.{LineNow}
use Rattle.jop_target.proofs.Runs.{has_failed-append}
use Rattle.lease.specs.Calls.{GoesOn, is_held}
use Rattle.lease.specs.Discipline.{Session, session_of, session_from, session_after, outside}
use Rattle.lease.specs.Phase.{Phase, Over, Broken, role_of, allows, phase_after, phase_unheard}
use Rattle.lease.specs.Standing.{IsHeld}
use Rattle.lease.specs.Work.{NoneFailed}
use Rattle.lease.specs.declared.lease.Lease.{Lease}
use Rattle.lease.proofs.Sessions.{session_from-append}

-- ---- nothing brings a lease back but a new session

abbrev is_dead : Phase → Bool
is_dead Over = true
is_dead Broken = true
is_dead phase = false

dead_if : (b : Bool) → is_dead (cond b Over Broken) ≡ true
dead_if true = refl
dead_if false = refl

dead_after : (client : List ℕ) (p : Phase) (call : Call) (reply : Reply) → is_dead p ≡ true →
    is_dead (phase_after client p call reply) ≡ true
dead_after client Over call reply h = refl
dead_after client Broken call reply h = refl
dead_after client p call reply h = cc

dead_failed : (client : List ℕ) (p : Phase) (call : Call) →
    is_dead (phase_after client p call Failed) ≡ true
dead_failed client p call = dead_if (allows client p (role_of client call))

dead_unheard : (client : List ℕ) (p : Phase) (call : Call) →
    is_dead (phase_unheard client p call) ≡ true
dead_unheard client p call = dead_if (allows client p (role_of client call))

-- whether a session begins there
abbrev pub begins : Event → Bool
begins Began = true
begins event = false

abbrev pub NoneBegins : List Event → Type 0
NoneBegins es = All (λ (e : Event). begins e ≡ false) es

stays_dead : (client : List ℕ) (s : Session) (es : List Event) → NoneBegins es →
    is_dead s.phase ≡ true → is_dead (session_from client s es).phase ≡ true
unfolding session_from
stays_dead client s [] none dead = dead
stays_dead client s (Sent call ∷ es) none dead =
    stays_dead client (session_after client s (Sent call)) es
    (λ i d lt. none (suc i) d (omega arith)) (dead_unheard client s.phase call)
stays_dead client s (Called call reply ∷ es) none dead =
    stays_dead client (session_after client s (Called call reply)) es
    (λ i d lt. none (suc i) d (omega arith)) (dead_after client s.phase call reply dead)
stays_dead client s (Made number ∷ es) none dead =
    stays_dead client s es (λ i d lt. none (suc i) d (omega arith)) dead
stays_dead client s (Ended ∷ es) none dead =
    stays_dead client (session_after client s Ended) es
    (λ i d lt. none (suc i) d (omega arith)) dead
stays_dead client s (Began ∷ es) none dead = let b = none 0 Began (omega arith) in absurd cc

not_both : (p : Phase) → is_dead p ≡ true → is_held p ≡ true → ⊥
not_both Over h k = cc
not_both Broken h k = cc
not_both p h k = cc

pub none_failed_from : (client : List ℕ) (s : Session) (es : List Event) → NoneBegins es →
    is_held (session_from client s es).phase ≡ true → has_failed es ≡ false
unfolding session_from has_failed
none_failed_from client s [] none held = refl
none_failed_from client s (Sent call ∷ es) none held =
    none_failed_from client (session_after client s (Sent call)) es
    (λ i d lt. none (suc i) d (omega arith)) held
none_failed_from client s (Called call Failed ∷ es) none held =
    absurd (not_both _ (stays_dead client (session_after client s (Called call Failed)) es
    (λ i d lt. none (suc i) d (omega arith)) (dead_failed client s.phase call)) held)
none_failed_from client s (Called call reply ∷ es) none held =
    none_failed_from client (session_after client s (Called call reply)) es
    (λ i d lt. none (suc i) d (omega arith)) held
none_failed_from client s (Made number ∷ es) none held =
    none_failed_from client s es (λ i d lt. none (suc i) d (omega arith)) held
none_failed_from client s (Ended ∷ es) none held =
    none_failed_from client (session_after client s Ended) es
    (λ i d lt. none (suc i) d (omega arith)) held
none_failed_from client s (Began ∷ es) none held =
    let b = none 0 Began (omega arith) in absurd cc

-- ---- trails

pub none_failed_held : (P : Event → Type 0) (lease : Lease) (old new : LineNow) →
    ((e : Event) → P e → begins e ≡ false) → GoesOn P lease.client old new →
    IsHeld lease new.trail → NoneFailed old.trail new.trail
none_failed_held P lease old new never goes held =
    let client = lease.client in
    let more = goes.line.more in
    let whole : session_of client new.trail
    ≡ session_from client (session_of client old.trail) more =
    ap (session_of client) goes.line.trail
    ∙ session_from-append client outside old.trail more in
    record {
      more = more;
      trail = goes.line.trail;
      heard = none_failed_from client (session_of client old.trail) more
          (λ i d lt. never _ (goes.line.each i d lt))
          (ap (λ (s : Session). is_held s.phase) (sym whole) ∙ ap is_held held.stands.phase);
    }

pub none_failed_nowhere : (trail : List Event) → NoneFailed trail trail
unfolding has_failed
none_failed_nowhere trail = record { more = []; trail = sym (append-nil trail); heard = refl }

pub none_failed_on : (a b c : List Event) → NoneFailed a b → NoneFailed b c → NoneFailed a c
none_failed_on a b c h k = record {
  more = h.more ++ k.more;
  trail =
      k.trail ∙ (ap (λ (t : List Event). t ++ k.more) h.trail
      ∙ append_assoc a h.more k.more);
  heard = rw (has_failed-append h.more k.more, h.heard) k.heard;
}
