-- What a command leaves alone, whatever it answers.
use Rattle.std.specs.Prelude.{ℕ, ◌≡◌, Bool, true, false, Option, Some, None, option_map}
use Rattle.client.specs.Outside.{IsReadOf, OutsideNow}
use Rattle.jop_outside.specs.Clocks.{ClockNow}
use Rattle.jop_outside.specs.Outside.{SourceNow}
use Rattle.jop_outside.specs.Random.{EntropyNow}
use Rattle.local_commands.specs.declared.drawing.Drawing.{Drawing}
use Rattle.local_commands.specs.declared.drawing.Drawing.TheVariants.{NoId, OneId, TwoIds}
use Rattle.local_commands.specs.declared.intake.Intake.{Intake}
use Rattle.local_commands.specs.Running.{Plan}

-- an input that isn't used is as it was; of any other no more than its limit and a byte was read
abbrev pub SparesInput : Option ℕ → SourceNow → SourceNow → Type 0
SparesInput None old new = new ≡ old
SparesInput (Some limit) old new = IsReadOf limit old new

-- the clock isn't asked but by a command that uses it
abbrev pub SparesClock : Bool → ClockNow → ClockNow → Type 0
SparesClock false old new = new ≡ old
SparesClock true old new = Unit {0}

-- no bytes are drawn but by a command that uses them
abbrev pub SparesRandom : Bool → EntropyNow → EntropyNow → Type 0
SparesRandom false old new = new ≡ old
SparesRandom true old new = Unit {0}

-- ---- what a plan uses

-- the most bytes of an input that is taken so
abbrev pub intake_limit : Intake → ℕ
intake_limit intake = intake.limit

-- whether any id is drawn
abbrev pub draws_ids : Drawing → Bool
draws_ids NoId = false
draws_ids OneId = true
draws_ids TwoIds = true

-- What a command doesn't use is as it was, whatever it answers; no command uses the target and the output.
pub record Spares (p : Plan) (old new : OutsideNow) : Type 0 where
  pub input : SparesInput (option_map intake_limit p.intake) old.input new.input
  pub clock : SparesClock p.clock old.clock new.clock
  pub random : SparesRandom (draws_ids p.draws) old.entropy new.entropy
  pub target : new.line.target ≡ old.line.target
  pub out : new.out ≡ old.out
