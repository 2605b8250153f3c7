-- `check`: a session that takes a sync lock and releases it.
use Rattle.std.specs.Prelude.{ℕ, ◌≡◌, List, [], ◌∷◌, ◌++◌, codes, Result}
use Rattle.client.specs.Outside.{OutsideNow}
use Rattle.jop_cli.specs.Commands.Sessions.{outcome_by}
use Rattle.jop_cli.specs.Worlds.{RanCheck}
use Rattle.jop_status.specs.Outcomes.{Outcome}
use Rattle.sync_run.specs.declared.session_err.SessionErr.{SessionErr}

-- what is printed of a check that went well
abbrev pub free_line : Unit {0} → List ℕ
free_line done = codes "free" ++ 10 ∷ []

-- the session was added, and `free` is printed when that went well
abbrev pub Checks : List ℕ → OutsideNow → Outcome → OutsideNow → Type 0
Checks client before outcome after =
    (result : Result (Unit {0}) SessionErr) × RanCheck client before result after
    × (outcome ≡ outcome_by free_line result)
