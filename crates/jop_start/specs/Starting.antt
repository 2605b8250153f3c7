-- What a run on the file of tables and the target that its words name comes to.
use Rattle.std.specs.Prelude.{ℕ, ◌≡◌, List, [], Option, Some, None}
use Rattle.jop_status.specs.Reports.{Reports}
use Rattle.jop_status.specs.Statuses.{row_of}
use Rattle.jop_status.specs.declared.status.Status.{Status}
use Rattle.jop_outside.specs.Clocks.{ClockNow}
use Rattle.jop_outside.specs.Outside.{SinkNow, SourceNow}
use Rattle.jop_outside.specs.Random.{EntropyNow}
use Rattle.jop_target.specs.declared.event.Event.{Event}
use Rattle.jop_words.specs.Commands.{meant, profile_words, target_words}
use Rattle.client.specs.Outside.{OutsideNow}
use Rattle.jop_cli.specs.Run.{RunsAsPromised}
use Rattle.jop_cli.specs.Worlds.{outside_of}
use Rattle.local_store.specs.declared.change.Change.{Change}
use Rattle.jop_words.specs.declared.profile.Profile.{Profile}
use Rattle.jop_words.specs.declared.verb.Verb.{Verb}
use Rattle.jop_words.specs.declared.target_name.TargetKind.{TargetKind}
use Rattle.jop_words.specs.declared.target_name.TargetKind.TheVariants.{Mem}
use Rattle.jop_words.specs.declared.target_name.TargetName.{TargetName}
use Rattle.jop_start.specs.Opening.{OpenNow, WhileOpen}
use Rattle.jop_start.specs.declared.start_err.StartErr.{StartErr}
use Rattle.jop_start.specs.declared.start_err.StartErr.TheVariants.{EntropyFault, NoMemory}

-- ---- refusals

-- the exit status of the program when nothing was run
abbrev pub exit_of : StartErr → ℕ
exit_of EntropyFault = 14
exit_of NoMemory = 22

-- ---- what is named

-- a target that isn't named is one in memory
abbrev pub kind_or_mem : Option TargetName → TargetKind
kind_or_mem None = Mem
kind_or_mem (Some target) = target.kind

-- the kind of the target that words name
abbrev pub kind_named : List (List ℕ) → TargetKind
kind_named words = kind_or_mem (target_words words)

-- ---- a run

-- what the streams, the clock and the random source tell of themselves
pub record StreamsNow : Type 0 where
  pub input : SourceNow
  pub out : SinkNow
  pub err : SinkNow
  pub clock : ClockNow
  pub entropy : EntropyNow

-- the outside of a run: these streams, what is open, and so much that was written down
abbrev pub outside_with : StreamsNow → OpenNow → List Event → List Change → OutsideNow
outside_with s held trail made =
    outside_of trail held.target held.keeper made s.input s.out s.clock s.entropy

-- With nothing written down yet, it was done what the words mean. It ended with a status: that is
-- reported, and its exit status is this one.
pub record IsRunOn (verb : Option Verb) (before after : StreamsNow) (exit : ℕ)
    (first last : OpenNow) : Type 0 where
  pub status : Status
  pub trail : List Event
  pub made : List Change
  pub does : RunsAsPromised verb (outside_with before first [] []) status
      (outside_with after last trail made)
  pub reports : Reports before.err status after.err
  pub exit_is : exit ≡ (row_of status).exit

-- The file of tables and the target that the words name were opened, once, and what was done with
-- them until they were closed is what the words mean, and nothing else.
abbrev pub IsStartedRun : (Profile → TargetKind → OpenNow → OpenNow → Type 0) → List (List ℕ) →
    StreamsNow → StreamsNow → ℕ → Type 0
IsStartedRun opens words before after exit =
    WhileOpen (opens (profile_words words) (kind_named words))
    (IsRunOn (meant words) before after exit)
