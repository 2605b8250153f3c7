-- What a command takes from its input and from its clock.
use Rattle.std.specs.Prelude.{ℕ, ◌+◌, ◌≡◌, List, [], Bool, true, false, Option, Some, None}
use Rattle.std.specs.Str.{IsUtf8}
use Rattle.client.specs.Outside.{WasShown}
use Rattle.jop_outside.specs.Clocks.{ClockNow}
use Rattle.jop_outside.specs.Outside.{HasRisen, SourceNow}
use Rattle.jop_outside.specs.Reading.{WasRead, WasTooLarge}
use Rattle.local_commands.specs.declared.intake.Intake.{Intake}

-- ---- the input

-- bytes that have to be a text are one
abbrev pub IsTextIf : Bool → List ℕ → Type 0
IsTextIf true bytes = IsUtf8 bytes
IsTextIf false bytes = Unit {0}

-- the input was read to its end, or isn't used
abbrev pub Takes : Option Intake → SourceNow → List ℕ → SourceNow → Type 0
Takes None old bytes new = (bytes ≡ []) × (new ≡ old)
Takes (Some intake) old bytes new = WasRead intake.limit old bytes new × IsTextIf intake.text bytes

-- the input is used, and failed
abbrev pub FailsToGive : Option Intake → SourceNow → SourceNow → Type 0
FailsToGive None old new = ⊥
FailsToGive (Some intake) old new = HasRisen old.faults new.faults

-- the input is used, and is past its limit; the number is the limit and one
abbrev pub GivesTooMuch : ℕ → Option Intake → SourceNow → SourceNow → Type 0
GivesTooMuch len None old new = ⊥
GivesTooMuch len (Some intake) old new = WasTooLarge intake.limit old new × (len ≡ intake.limit + 1)

-- the input was read to its end; it has to be a text, and is none
pub record WasNoText (intake : Intake) (old new : SourceNow) : Type 0 where
  pub bytes : List ℕ
  pub read : WasRead intake.limit old bytes new
  pub asked : intake.text ≡ true
  pub refused : ¬ IsUtf8 bytes

-- the input is used, and isn't the text that it has to be
abbrev pub GivesNoText : Option Intake → SourceNow → SourceNow → Type 0
GivesNoText None old new = ⊥
GivesNoText (Some intake) old new = WasNoText intake old new

-- what was taken is a text, if it has to be one
abbrev pub IsTakenIn : Option Intake → List ℕ → Type 0
IsTakenIn None bytes = Unit {0}
IsTakenIn (Some intake) bytes = IsTextIf intake.text bytes

-- ---- the clock

-- the clock showed this time, or isn't used
abbrev pub ShowsTime : Bool → ClockNow → ℕ → ClockNow → Type 0
ShowsTime true old now new = WasShown old now new
ShowsTime false old now new = (now ≡ 0) × (new ≡ old)
