-- What is written on standard error.
use Rattle.std.specs.Prelude.{ℕ, ◌⊎◌, List}
use Rattle.jop_outside.specs.Outside.{SinkNow}
use Rattle.jop_outside.specs.Writing.{WasCut, WasWritten}
use Rattle.jop_status.specs.Statuses.{row_of}
use Rattle.jop_status.specs.declared.status.Status.{Status}

-- this text stands in a sink, or a prefix of it if the sink has failed
abbrev pub WritesLine : SinkNow → List ℕ → SinkNow → Type 0
WritesLine before line after = WasWritten before line after ⊎ WasCut before line after

-- the line of the status stands on standard error, or a prefix of it if that has failed
abbrev pub Reports : SinkNow → Status → SinkNow → Type 0
Reports before status after = WritesLine before (row_of status).line after
