-- The body of a note, taken from the input.
use Rattle.std.specs.Prelude.{ℕ, true}
use Rattle.local_commands.specs.declared.intake.Intake.{Intake}

-- the most bytes of a body that is taken: 1 MiB
abbrev pub body_limit : ℕ
body_limit = 1048576

-- a body is a text within the limit
abbrev pub body_intake : Intake
body_intake = record { limit = body_limit; text = true }
