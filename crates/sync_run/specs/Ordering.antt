-- That an upgrade gives the refusal that its calls call for, and calls nothing behind them.
use Rattle.std.specs.Prelude.{◌≡◌, ◌⊎◌, List, ◌++◌, true, Option, Some, None, Result, Ok, Err}
use Rattle.conflicts.specs.declared.refusal.Refusal.{Refusal}
use Rattle.conflicts.specs.declared.refusal.Refusal.TheVariants.{TargetNewer, BadInfo}
use Rattle.jop_target.specs.declared.event.Event.{Event}
use Rattle.lease.specs.declared.error.LeaseErr.{LeaseErr}
use Rattle.target_upgrade.specs.Verdict.{UpgradeVerdict, AwaitsInfo, CanUpgrade, IsNewer, IsUnreadable, StopsInOrder, is_in_order, upgrade_verdict_of}
use Rattle.sync_run.specs.declared.outcome.Outcome.{Outcome}
use Rattle.sync_run.specs.declared.outcome.Outcome.TheVariants as outcomes
use Rattle.sync_run.specs.declared.session_err.SessionErr.{SessionErr}
use Rattle.sync_run.specs.declared.session_err.SessionErr.TheVariants.{Refused, NoMemory}

-- the refusal that is due, if one is
abbrev pub due_by : UpgradeVerdict → Option Refusal
due_by (IsNewer version) = Some (TargetNewer version)
due_by IsUnreadable = Some BadInfo
due_by verdict = None

-- the refusal is given, or memory ran out
abbrev pub GivesDueRefusal : {T : Type 0} → Result T SessionErr → Refusal → Type 0
GivesDueRefusal (Ok value) why = ⊥
GivesDueRefusal (Err e) why = (e ≡ Refused why) ⊎ (e ≡ NoMemory)

-- Nothing was called that wasn't to be called; and the refusal that is due is given.
pub record HeedsUpgradeVerdict (Given : Refusal → Type 0) (verdict : UpgradeVerdict) : Type 0 where
  pub ordered : is_in_order verdict ≡ true
  pub given : (why : Refusal) → due_by verdict ≡ Some why → Given why

-- the last session of a trail has called no more than was due, and gives the refusal that is
abbrev pub RunsTaskInOrder : {T : Type 0} → Result T SessionErr → List Event → Type 0
RunsTaskInOrder result trail = HeedsUpgradeVerdict (GivesDueRefusal result) (upgrade_verdict_of trail)

-- that is so of a session that had called nothing
abbrev pub GoesInOrder : {T : Type 0} → List Event → Result T SessionErr → List Event → Type 0
GoesInOrder old result new = upgrade_verdict_of old ≡ AwaitsInfo → RunsTaskInOrder result new

-- and of one that was added to a trail
abbrev pub AddsTaskInOrder : {T : Type 0} → List Event → Result T SessionErr → List Event → Type 0
AddsTaskInOrder old result new =
    (added : List Event) → new ≡ old ++ added → RunsTaskInOrder result added

-- what an upgrade came to whose lease is still held is what its calls say
abbrev pub ComesInOrder : Result Outcome LeaseErr → UpgradeVerdict → Type 0
ComesInOrder (Ok outcomes.Upgraded) verdict = verdict ≡ CanUpgrade
ComesInOrder (Ok (outcomes.Refused why)) verdict = due_by verdict ≡ Some why
ComesInOrder (Err e) verdict = StopsInOrder e verdict

-- that is so if the calls before it said this
abbrev pub ComesInOrderAfter : UpgradeVerdict → List Event → Result Outcome LeaseErr → List Event
    → Type 0
ComesInOrderAfter before old result new =
    upgrade_verdict_of old ≡ before → ComesInOrder result (upgrade_verdict_of new)

-- what is answered once the lease is left, if that is what its calls say
abbrev pub LeavesInOrder : {T : Type 0} → Outcome → List Event → Result T SessionErr → List Event
    → Type 0
LeavesInOrder outcome old result new =
    ComesInOrder (Ok outcome) (upgrade_verdict_of old) → RunsTaskInOrder result new
