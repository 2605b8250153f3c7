-- What a check comes to.
use Rattle.std.proofs.Common.{◌≡◌, refl, sym, subst, inr, ℕ, List, [], ◌∷◌, ◌++◌, false, Some, Result, Ok, Err}
use Rattle.client.specs.Outside.{OutsideNow}
use Rattle.jop_base.specs.declared.lock_name.LockKind.{LockKind}
use Rattle.jop_base.specs.declared.lock_name.LockKind.TheVariants.{Sync}
use Rattle.jop_cli.proofs.Licensed.{check_licensed, licensed_fresh}
use Rattle.jop_cli.proofs.Runs.{Comes, keeps_none, uncalled_yet, unfailed_session, uses_behind}
use Rattle.jop_cli.proofs.Sessions.{any_done, failed_session, told_lease}
use Rattle.jop_cli.specs.Causes.{HasEnded, IsExplained}
use Rattle.jop_cli.specs.Commands.Check.{free_line}
use Rattle.jop_cli.specs.Commands.Sessions.{outcome_by}
use Rattle.jop_cli.specs.Run.{IsFreshOutside, UsesTarget}
use Rattle.jop_cli.specs.Worlds.{RanCheck}
use Rattle.jop_status.specs.Refusals.{session_status}
use Rattle.jop_status.specs.declared.status.Status.{Status}
use Rattle.jop_target.specs.Trail.{LineNow}
use Rattle.jop_target.specs.declared.event.Event.{Event}
use Rattle.jop_target.specs.declared.event.Event.TheVariants.{Began, Ended}
use Rattle.jop_words.specs.declared.target_name.TargetName.{TargetName}
use Rattle.jop_words.specs.declared.verb.Verb.TheVariants.{Check}
use Rattle.lease.specs.Calls.{IsLeaseEvent}
use Rattle.lease.specs.Outcomes.{HasMissed, IsBlocked}
use Rattle.lease.specs.Phase.{Asked, Phase}
use Rattle.sync_run.specs.Checks.{AddsCheck}
use Rattle.sync_run.specs.Leases.{blocked_in, is_done}
use Rattle.sync_run.specs.Sessions.{IsMarkOr}
use Rattle.sync_run.specs.declared.session_err.SessionErr.{SessionErr}
use Rattle.sync_run.specs.declared.session_err.SessionErr.TheVariants.{Busy, LeaseLost, Refused, TargetFault, NoMemory}

-- the session, whose calls came to this before it ended
ended : (target : TargetName) (client : List ℕ) (before after : OutsideNow) (middle : List Event)
    (Came : LockKind → List ℕ → List Event → Type 0) → IsFreshOutside before →
    after.line.trail ≡ before.line.trail ++ Began ∷ (middle ++ Ended ∷ []) →
    Came Sync client (before.line.trail ++ Began ∷ middle) →
    HasEnded (Some (Check target client)) after.keeper after.line.trail Came
ended target client before after middle Came fresh whole came = record {
  session = record { kind = Sync; client = Some client };
  uses = refl;
  client = client;
  of = refl;
  before = before.line.trail;
  changes = uncalled_yet before fresh;
  calls = middle;
  whole = whole;
  came = came;
}

explained_refusal : (target : TargetName) (client : List ℕ) (before after : OutsideNow)
    (error : SessionErr) → IsFreshOutside before →
    AddsCheck client before.line.trail after.line.trail (Err error) →
    UsesTarget before.line.target after.line.trail after.line.target →
    IsExplained (Some (Check target client)) before (session_status error) after
explained_refusal target client before after (Busy lock now) fresh adds uses =
    ended target client before after adds.whole.middle
    (λ kind client events. IsBlocked kind client events lock now) fresh adds.whole.trail adds.because
explained_refusal target client before after (LeaseLost seen) fresh adds uses =
    ended target client before after adds.whole.middle
    (λ kind client events. (at : Phase) × HasMissed kind client at events seen) fresh
    adds.whole.trail (Asked Sync, adds.because)
explained_refusal target client before after (Refused why) fresh adds uses = absurd adds.because
explained_refusal target client before after TargetFault fresh adds uses =
    let failed = failed_session (IsLeaseEvent client) client before.line.trail after.line.trail
    adds.whole adds.because in
    (failed, uses.fault failed)
explained_refusal target client before after NoMemory fresh adds uses =
    unfailed_session before.line.trail adds.begun.more after.line.trail adds.begun.trail
    (uncalled_yet before fresh) adds.heard

explained : (target : TargetName) (client : List ℕ) (before after : OutsideNow)
    (result : Result (Unit {0}) SessionErr) (error : Status) → IsFreshOutside before →
    AddsCheck client before.line.trail after.line.trail result →
    UsesTarget before.line.target after.line.trail after.line.target →
    outcome_by free_line result ≡ Err error →
    IsExplained (Some (Check target client)) before error after
explained target client before after (Ok done) error fresh adds uses is = absurd (cc is)
explained target client before after (Err refusal) error fresh adds uses is =
    let same : session_status refusal ≡ error = cc is in
    subst (λ (s : Status). IsExplained (Some (Check target client)) before s after) same
    (explained_refusal target client before after refusal fresh adds uses)

checked : (target : TargetName) (client : List ℕ) (before : OutsideNow) (line : LineNow)
    (result : Result (Unit {0}) SessionErr) → IsFreshOutside before →
    RanCheck client before result (record before { line = line }) →
    Comes (Check target client) before (outcome_by free_line result) (record before { line = line })
checked target client before line result fresh h =
    let uncalled = uncalled_yet before fresh in
    let uses = uses_behind (IsMarkOr (IsLeaseEvent client)) before.line line uncalled h.line in
    record {
      comes = (result, h, refl);
      quiet = refl;
      explained = λ error is.
          explained target client before (record before { line = line }) result error fresh h.session
          uses is;
      sessions = λ status told. inr (record {
        client = client;
        of = refl;
        before = before.line.trail;
        changes = uncalled;
        events = h.line.more;
        trail_is = h.line.trail;
        keeps = told_lease _ free_line Sync client result status h.line.more told
            (any_done client (blocked_in result) false (is_done result) h.line.more h.keeps);
      });
      tables = keeps_none false before.keeper before.keeper before.made fresh.unchanged refl;
      target = uses;
      alone = record {
        input = refl;
        target = tt;
        tables = (fresh.unchanged, refl);
        clock = refl;
        random = refl;
      };
      licensed = λ k told.
          licensed_fresh before line.trail k.tables fresh
          (check_licensed client before.line.trail line.trail result h.session);
    }

pub comes_checked : (target : TargetName) (client : List ℕ) (before mid : OutsideNow)
    (result : Result (Unit {0}) SessionErr) → IsFreshOutside before →
    RanCheck client before result mid →
    Comes (Check target client) before (outcome_by free_line result) mid
comes_checked target client before mid result fresh h =
    subst (λ (m : OutsideNow). Comes (Check target client) before (outcome_by free_line result) m)
    (sym h.same)
    (checked target client before mid.line result fresh
    (subst (λ (m : OutsideNow). RanCheck client before result m) h.same h))
