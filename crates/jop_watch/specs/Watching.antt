-- What those who watch a run do with what they are told.
use Rattle.std.specs.Prelude.{ℕ, ◌≡◌, ◌⊎◌, Bool, true, false, List, ◌∷◌, ◌++◌, codes, length, Option, Some, None, Result, Ok, Err}
use Rattle.std.specs.Fmt.{decimal}
use Rattle.std.specs.Option.{unwrap_or}
use Rattle.jop_base.specs.declared.path.Path.TheVariants.{Lock}
use Rattle.jop_outside.specs.Clocks.{ClockNow, Shows}
use Rattle.jop_outside.specs.Outside.{SinkNow, HasCause}
use Rattle.jop_outside.specs.Writing.{WritesAll}
use Rattle.jop_outside.specs.declared.failed.Failed.{Failed}
use Rattle.jop_target.specs.Texts.{call_text, reply_text}
use Rattle.jop_target.specs.declared.call.Call.{Call}
use Rattle.jop_target.specs.declared.call.Call.TheVariants.{Delete}
use Rattle.jop_target.specs.declared.reply.Reply.{Reply}
use Rattle.jop_target.specs.declared.reply.Reply.TheVariants.{Failed as NoReply, Listed}
use Rattle.jop_watch.specs.Progress.{may_draw, progress_after, progress_text}
use Rattle.jop_watch.specs.declared.progress.Progress.{Progress}
use Rattle.jop_watch.specs.declared.waiting.Waiting.{Waiting}

-- these bytes were sent, whole or as far as the sink took them
abbrev pub SendsBytes : SinkNow → List ℕ → SinkNow → Type 0
SendsBytes old bytes new = (result : Result (Unit {0}) Failed) × WritesAll old bytes result new

-- nobody is told, or somebody, who does this
abbrev pub IfThere : {W : Type 0} → (W → W → Type 0) → Option W → Option W → Type 0
IfThere {W} Does None new = new ≡ None
IfThere {W} Does (Some old) new = (there : W) × (new ≡ Some there) × Does old there

-- ---- the line on a terminal

-- a line at a moment: how far its session has come, when that began, and when the line was drawn, if it
-- stands on the terminal
pub record GaugeNow : Type 0 where
  pub clock : ClockNow
  pub terminal : SinkNow
  pub progress : Progress
  pub began : Option ℕ
  pub drawn : Option ℕ

-- takes away what stands in the line
abbrev pub clearing : List ℕ
clearing = 13 ∷ 27 ∷ codes "[K"

-- the line is sent, or nothing is: there may be no memory for it
abbrev pub SendsLine : Progress → SinkNow → SinkNow → Type 0
SendsLine progress old new = (new ≡ old) ⊎ SendsBytes old (clearing ++ progress_text progress) new

-- it is drawn at this moment where it may be, and nothing is sent where it may not
abbrev pub DrawsWhere : Bool → ℕ → GaugeNow → GaugeNow → Type 0
DrawsWhere true now old new =
    SendsLine old.progress old.terminal new.terminal × (new.drawn ≡ Some now)
DrawsWhere false now old new = (new.terminal ≡ old.terminal) × (new.drawn ≡ old.drawn)

-- By what the clock showed, if it didn't fail. A session begins at the first moment that is shown.
abbrev pub DrawsBy : Result ℕ Failed → GaugeNow → GaugeNow → Type 0
DrawsBy (Err e) old new = (new.terminal ≡ old.terminal)
    × (new.began ≡ old.began) × (new.drawn ≡ old.drawn)
DrawsBy (Ok now) old new = (new.began ≡ Some (unwrap_or old.began now))
    × DrawsWhere (may_draw (unwrap_or old.began now) old.drawn now) now old new

-- the clock is looked at once, and the line is drawn where it may be
pub record MayDrawLine (old : GaugeNow) (new : GaugeNow) : Type 0 where
  pub shown : Result ℕ Failed
  pub shows : Shows old.clock.next shown new.clock.next
  pub cause : HasCause old.clock.faults shown new.clock.faults
  pub draws : DrawsBy shown old new
  pub same : new.progress ≡ old.progress

-- the line is taken away if it stands there
abbrev pub TakesAwayWhere : Option ℕ → SinkNow → SinkNow → Type 0
TakesAwayWhere None old new = new ≡ old
TakesAwayWhere (Some drawn) old new = SendsBytes old clearing new

pub record TakesAway (old : GaugeNow) (new : GaugeNow) : Type 0 where
  pub clears : TakesAwayWhere old.drawn old.terminal new.terminal
  pub gone : new.drawn ≡ None
  pub clock : new.clock ≡ old.clock
  pub began : new.began ≡ old.began
  pub same : new.progress ≡ old.progress

-- behind these a session tells no more: it gives up its lock, or a call of it has failed
abbrev pub is_last_of_session : Call → Reply → Bool
is_last_of_session (Delete (Lock name)) reply = true
is_last_of_session call NoReply = true
is_last_of_session call reply = false

abbrev pub DrawsOrTakesAway : Bool → GaugeNow → GaugeNow → Type 0
DrawsOrTakesAway true old new = TakesAway old new
DrawsOrTakesAway false old new = MayDrawLine old new

-- how far a session of which so much waits has come behind this call
abbrev pub progress_told : GaugeNow → Waiting → Call → Reply → GaugeNow
progress_told g waiting call reply = record g {
  progress = progress_after (record g.progress { waiting = waiting }) call reply;
}

abbrev pub Gauges : GaugeNow → Waiting → Call → Reply → GaugeNow → Type 0
Gauges old waiting call reply new =
    DrawsOrTakesAway (is_last_of_session call reply) (progress_told old waiting call reply) new

-- ---- the diary

-- the line of a call: of a listing it has the number of its files alone
abbrev pub log_line : Call → Reply → List ℕ
log_line call (Listed l) = call_text call ++ (codes ": listed "
    ++ (decimal (length l.entries) ++ (codes " files at " ++ (decimal l.now ++ codes "\n"))))
log_line call reply = call_text call ++ (codes ": " ++ (reply_text reply ++ codes "\n"))

-- the call's line is sent, or nothing is: there may be no memory for it
abbrev pub Logs : SinkNow → Call → Reply → SinkNow → Type 0
Logs old call reply new = (new ≡ old) ⊎ SendsBytes old (log_line call reply) new
