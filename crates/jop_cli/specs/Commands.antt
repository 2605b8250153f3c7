-- The commands: a row of effects and a row of what it comes to for each.
pub mod Sessions
pub mod Check
pub mod Constants
pub mod Keys
pub mod Local
pub mod Sync
pub mod Tidy
pub mod Upgrade
use Rattle.std.specs.Prelude.{ℕ, ◌≡◌, List, Bool, true, false}
use Rattle.std.specs.Prelude.{Option, Some, None, Ok, option_map}
use Rattle.jop_status.specs.Outcomes.{Outcome}
use Rattle.jop_base.specs.declared.lock_name.LockKind.{LockKind}
use Rattle.jop_base.specs.declared.lock_name.LockKind.TheVariants as kinds
use Rattle.key_commands.specs.Commands.{asks_clock, draws_bytes}
use Rattle.local_commands.specs.Commands.{plan_of}
use Rattle.local_commands.specs.Sparing.{draws_ids, intake_limit}
use Rattle.local_commands.specs.declared.command.LocalCommand.{LocalCommand}
use Rattle.jop_words.specs.Verbs.{uses_tables}
use Rattle.jop_words.specs.declared.verb.Verb.{Verb}
use Rattle.jop_words.specs.declared.verb.Verb.TheVariants as verbs
use Rattle.jop_cli.specs.Commands.Check.{Checks}
use Rattle.jop_cli.specs.Commands.Constants.{PrintsConstant, constant_of}
use Rattle.jop_cli.specs.Commands.Keys.{DoesKeys}
use Rattle.jop_cli.specs.Commands.Local.{DoesLocally}
use Rattle.jop_cli.specs.Commands.Sessions.{NamedSession}
use Rattle.jop_cli.specs.Commands.Sync.{SyncsAsNamed}
use Rattle.jop_cli.specs.Commands.Tidy.{TIDY_LIMIT, Tidies}
use Rattle.jop_cli.specs.Commands.Upgrade.{UpgradesAsNamed}
use Rattle.client.specs.Outside.{OutsideNow}

-- ---- effects

-- What a command uses: of the input so many bytes at most, the target in such a session, the tables,
-- the bytes of resources, the clock, and random bytes. It leaves alone what it doesn't use.
pub record Uses : Type 0 where
  pub input : Option ℕ
  pub session : Option NamedSession
  pub tables : Bool
  pub bytes : Bool
  pub clock : Bool
  pub random : Bool

abbrev pub nothing : Uses
nothing = record {
  input = None;
  session = None;
  tables = false;
  bytes = false;
  clock = false;
  random = false;
}

-- what a command on the tables uses, by its plan
abbrev pub uses_locally : LocalCommand → Uses
uses_locally command = record {
  input = option_map intake_limit (plan_of command).intake;
  session = None;
  tables = uses_tables (verbs.Local command);
  bytes = (plan_of command).bytes;
  clock = (plan_of command).clock;
  random = draws_ids (plan_of command).draws;
}

-- a row for each that uses something: one that prints a constant doesn't
abbrev pub uses : Verb → Uses
uses (verbs.Check target client) =
    record nothing { session = Some (record { kind = kinds.Sync; client = Some client }) }
uses verbs.Tidy = record nothing { input = Some TIDY_LIMIT }
uses (verbs.Keys command) = record nothing {
  tables = uses_tables (verbs.Keys command);
  clock = asks_clock command;
  random = draws_bytes command;
}
uses (verbs.Local command) = uses_locally command
uses (verbs.Sync target) = record nothing {
  session = Some (record { kind = kinds.Sync; client = None });
  tables = uses_tables (verbs.Sync target);
  bytes = true;
  random = true;
}
uses (verbs.Upgrade target) = record nothing {
  session = Some (record { kind = kinds.Exclusive; client = None });
  tables = uses_tables (verbs.Upgrade target);
  random = true;
}
uses verb = nothing

-- what words that mean no command use, and those of a command
abbrev pub used : Option Verb → Uses
used None = nothing
used (Some verb) = uses verb

-- ---- what it comes to

-- the outcome, before anything is printed
abbrev pub ComesTo : Verb → OutsideNow → Outcome → OutsideNow → Type 0
ComesTo (verbs.Check target client) before outcome after = Checks client before outcome after
ComesTo verbs.Tidy before outcome after = Tidies before outcome after
ComesTo (verbs.Keys command) before outcome after = DoesKeys command before outcome after
ComesTo (verbs.Local command) before outcome after = DoesLocally command before outcome after
ComesTo (verbs.Sync target) before outcome after = SyncsAsNamed before outcome after
ComesTo (verbs.Upgrade target) before outcome after = UpgradesAsNamed before outcome after
ComesTo verb before outcome after = PrintsConstant (constant_of verb) before outcome after

-- it uses nothing, and this text is what comes of it
pub record IsConstant (verb : Verb) (text : List ℕ) : Type 0 where
  pub idle : uses verb ≡ nothing
  pub comes : (o : OutsideNow) → ComesTo verb o (Ok text) o
