-- What a run leaves, whatever it answers.
use Rattle.std.specs.Prelude.{ℕ, ◌≡◌, ◌≤◌, ◌⊎◌, List, [], length, map, Option, Some, None, Result, Ok, Err, IsOk}
use Rattle.client.specs.Outside.{OutsideNow}
use Rattle.jop_outside.specs.Outside.{HasRisen, SourceNow}
use Rattle.keeper.specs.Keepers.{Kept}
use Rattle.local_store.specs.declared.change.Change.{Change}
use Rattle.local_store.specs.declared.tables.Tables.{Tables}
use Rattle.local_commands.specs.Drawing.{DrawsIds}
use Rattle.local_commands.specs.Keeping.{AreDone}
use Rattle.local_commands.specs.Commands.{plan_of}
use Rattle.local_commands.specs.Running.{Plan, Runs}
use Rattle.local_commands.specs.Taking.{IsTextIf, ShowsTime}
use Rattle.local_commands.specs.declared.act.Act.{Act}
use Rattle.local_commands.specs.declared.act.Act.TheVariants.{MakeChange}
use Rattle.local_commands.specs.declared.command.LocalCommand.{LocalCommand}
use Rattle.local_commands.specs.declared.drawing.Ids.{Ids}
use Rattle.local_commands.specs.declared.intake.Intake.{Intake}
use Rattle.local_commands.specs.declared.local_err.LocalErr.{LocalErr}
use Rattle.local_commands.specs.declared.local_err.LocalErr.TheVariants.{KeeperFault, NoMemory}

-- some acts made what is kept of what was kept, and they are written down
pub record Follows (old new : OutsideNow) : Type 0 where
  pub acts : List Act
  pub done : AreDone acts old new

-- The same of a command that saves no bytes of a resource: its acts are these changes.
pub record FollowsChanges (old new : OutsideNow) : Type 0 where
  pub made : List Change
  pub done : AreDone (map MakeChange made) old new

-- a refusal that may come when something has been saved: the keeper's, and out of memory
abbrev pub MayBeLate : LocalErr → Type 0
MayBeLate refusal = (refusal ≡ KeeperFault) ⊎ (refusal ≡ NoMemory)

-- it was refused, by a refusal that comes before anything is saved
abbrev pub IsRefusedEarly : Result (List ℕ) LocalErr → Type 0
IsRefusedEarly (Ok text) = ⊥
IsRefusedEarly (Err refusal) = ¬ MayBeLate refusal

-- ---- without a hindrance

-- no count of faults has risen: not the keeper's, the input's, the clock's or the random source's
pub record NoneHasRisen (old new : OutsideNow) : Type 0 where
  pub keeper : ¬ HasRisen old.keeper.faults new.keeper.faults
  pub input : ¬ HasRisen old.input.faults new.input.faults
  pub clock : ¬ HasRisen old.clock.faults new.clock.faults
  pub entropy : ¬ HasRisen old.entropy.faults new.entropy.faults

-- An input that is taken tells that these bytes are left. They are within its limit, and a text
-- where it has to be one.
abbrev pub TellsFit : Option Intake → SourceNow → List ℕ → Type 0
TellsFit None source bytes = bytes ≡ []
TellsFit (Some intake) source bytes =
    (source.left ≡ Some bytes) × (length bytes ≤ intake.limit) × IsTextIf intake.text bytes

-- what is made of these, at the time that is shown and by the ids that are drawn, isn't refused
abbrev pub IsMakeable : Plan → Tables → List ℕ → OutsideNow → OutsideNow → Type 0
IsMakeable p t bytes old new =
    (now : ℕ) (ids : Ids) (refusal : LocalErr)
    → ShowsTime p.clock old.clock now new.clock → DrawsIds p.draws t old.entropy ids new.entropy
    → ¬ p.Makes t bytes now ids (Err refusal)

-- Nothing hinders a run: the keeper tells tables that allow the command, the input tells bytes that
-- fit, what is made of them isn't refused, and no count of faults rises.
pub record IsUnhindered (p : Plan) (old new : OutsideNow) : Type 0 where
  pub kept : Kept
  pub told : old.keeper.kept ≡ Some kept
  pub allowed : p.Checks kept.tables None
  pub bytes : List ℕ
  pub fit : TellsFit p.intake old.input bytes
  pub makeable : IsMakeable p kept.tables bytes old new
  pub unfailed : NoneHasRisen old new

-- it went well, or memory ran out
abbrev pub IsWellOrMemory : Result (List ℕ) LocalErr → Type 0
IsWellOrMemory answer = IsOk answer ⊎ (answer ≡ Err NoMemory)

-- this holds of each run of each command
abbrev pub OfEachRun : (LocalCommand → OutsideNow → Result (List ℕ) LocalErr → OutsideNow → Type 0)
    → Type 0
OfEachRun Holds =
    (command : LocalCommand) (old new : OutsideNow) (answer : Result (List ℕ) LocalErr)
    → Runs (plan_of command) old answer new → Holds command old answer new
