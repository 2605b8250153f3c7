-- What follows of how a session ended.
use Rattle.std.proofs.Common.{◌≡◌, ◌∙◌, refl, sym, ap, subst, inl, inr, ℕ, List, [], ◌∷◌, ◌++◌, append_assoc}
use Rattle.std.proofs.Common.{Bool, true, false, ◌||◌, Option, Result, Ok, Err}
use Rattle.jop_base.specs.declared.lock_name.LockKind.{LockKind}
use Rattle.jop_base.specs.declared.lock_name.LockKind.TheVariants as kinds
use Rattle.jop_cli.proofs.Runs.{IsToldAs}
use Rattle.jop_cli.specs.Commands.Sessions.{lock_named, outcome_by, went_well}
use Rattle.jop_status.specs.Refusals.{session_status}
use Rattle.jop_status.specs.Statuses.{is_early}
use Rattle.jop_status.specs.declared.status.Status.{Status}
use Rattle.jop_target.proofs.Runs.{has_failed-append}
use Rattle.jop_target.specs.Runs.{has_failed}
use Rattle.jop_target.specs.declared.call.Call.{Call}
use Rattle.jop_target.specs.declared.event.Event.{Event}
use Rattle.jop_target.specs.declared.event.Event.TheVariants.{Began, Called, Ended}
use Rattle.jop_target.specs.declared.reply.Reply.TheVariants.{Failed}
use Rattle.lease.specs.Calls.{EndsFailed}
use Rattle.lease.specs.WholeSession.{AddsWhole}
use Rattle.lease.specs.declared.lock.Lock.{Lock}
use Rattle.sync_run.specs.Leases.{KeepsLease, blocked_in, is_done}
use Rattle.sync_run.specs.declared.session_err.SessionErr.{SessionErr}
use Rattle.sync_run.specs.declared.session_err.SessionErr.TheVariants.{Busy, LeaseLost, Refused, TargetFault, NoMemory}

pub early_session : (error : SessionErr) → is_early (session_status error) ≡ true
early_session (Busy lock now) = refl
early_session (LeaseLost seen) = refl
early_session (Refused why) = refl
early_session TargetFault = refl
early_session NoMemory = refl

-- ---- what a lease promises

-- of a sync lock, whatever is said of an upgrade
pub any_done : (client : List ℕ) (blocked : Option (Lock × ℕ)) (before after : Bool)
    (events : List Event) → KeepsLease kinds.Sync client blocked before events →
    KeepsLease kinds.Sync client blocked after events
any_done client blocked before after events h = record {
  obeys = h.obeys;
  apart = h.apart;
  exclusive = h.exclusive;
  busy = h.busy;
  redone = λ is. tt;
}

refused_lease : (T : Type 0) (kind : LockKind) (client : List ℕ) (error : SessionErr)
    (events : List Event) → KeepsLease kind client (blocked_in {T = T} (Err error)) false events →
    KeepsLease kind client (lock_named (session_status error)) (went_well (session_status error)) events
refused_lease T kind client (Busy lock now) events h = h
refused_lease T kind client (LeaseLost seen) events h = h
refused_lease T kind client (Refused why) events h = h
refused_lease T kind client TargetFault events h = h
refused_lease T kind client NoMemory events h = h

-- what is promised by a session's answer is so by the status that it is told as
pub told_lease : (T : Type 0) (text : T → List ℕ) (kind : LockKind) (client : List ℕ)
    (result : Result T SessionErr) (status : Status) (events : List Event) →
    IsToldAs (outcome_by text result) status →
    KeepsLease kind client (blocked_in result) (is_done result) events →
    KeepsLease kind client (lock_named status) (went_well status) events
told_lease T text kind client (Ok value) status events (inl went) h =
    subst (λ (s : Status). KeepsLease kind client (lock_named s) (went_well s) events) (sym went) h
told_lease T text kind client (Ok value) status events (inr cut) h =
    subst (λ (s : Status). KeepsLease kind client (lock_named s) (went_well s) events) (sym cut) h
told_lease T text kind client (Err error) status events told h =
    subst (λ (s : Status). KeepsLease kind client (lock_named s) (went_well s) events) (sym told)
    (refused_lease T kind client error events h)

-- ---- a session that failed

or-true : (b : Bool) → (b || true) ≡ true
or-true true = refl
or-true false = refl

failed_within : (xs ys : List Event) (call : Call) →
    has_failed ((xs ++ Called call Failed ∷ []) ++ ys) ≡ true
unfolding has_failed
failed_within xs ys call =
    has_failed-append (xs ++ Called call Failed ∷ []) ys
    ∙ (ap (λ (b : Bool). b || has_failed ys)
    (has_failed-append xs (Called call Failed ∷ []) ∙ or-true (has_failed xs)))

-- a session that ends by the target's fault has a failed call
pub failed_session : (P : Event → Type 0) (client : List ℕ) (old trail : List Event)
    (adds : AddsWhole P client old trail) →
    EndsFailed client (old ++ Began ∷ adds.middle) → has_failed trail ≡ true
failed_session P client old trail adds h =
    ap has_failed (adds.trail ∙ (sym (append_assoc old (Began ∷ adds.middle) (Ended ∷ []))
    ∙ ap (λ (t : List Event). t ++ Ended ∷ []) h.ends))
    ∙ failed_within h.before (Ended ∷ []) h.call
