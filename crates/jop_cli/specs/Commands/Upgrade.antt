-- `upgrade`: a session, of the client that the tables name, that brings a target to the supported
-- version.
use Rattle.std.specs.Prelude.{ℕ, List, [], ◌∷◌, ◌++◌, codes}
use Rattle.std.specs.Fmt.{decimal}
use Rattle.client.specs.Outside.{OutsideNow}
use Rattle.jop_cli.specs.Commands.Sessions.{OwnRuns, outcome_by}
use Rattle.jop_cli.specs.Worlds.{RanUpgrade}
use Rattle.jop_status.specs.Outcomes.{Outcome}

-- the version that a target has now
abbrev pub version_line : ℕ → List ℕ
version_line version = codes "version " ++ (decimal version ++ 10 ∷ [])

-- the client is known or named, its session was added, and the version is printed when that went
-- well
abbrev pub UpgradesAsNamed : OutsideNow → Outcome → OutsideNow → Type 0
UpgradesAsNamed before outcome after = OwnRuns RanUpgrade (outcome_by version_line) before outcome after
