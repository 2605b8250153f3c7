-- Where a log and a trail first differ.
use Rattle.std.specs.Prelude.{ℕ, ◌≤◌, ◌≡◌, List, [], ◌∷◌, ◌++◌, length, take, slice_get, option_map, Option, Some, None}
use Rattle.jop_target.specs.declared.event.Event.{Event}
use Rattle.call_log.specs.declared.gap.Gap.{Gap}
use Rattle.call_log.specs.declared.entry.LogEntry.{LogEntry}
use Rattle.call_log.specs.declared.mismatch.Mismatch.{Mismatch}
use Rattle.call_log.specs.Agreeing.{LeadsThrough, answers_to, entry_event}

-- the events lead nowhere with this one behind them; or, where no event is left, not through all
-- answers
abbrev pub IsStuck : List LogEntry → List Event → Option Event → Type 0
IsStuck answers events (Some next) = (to : ℕ) → ¬ LeadsThrough answers 0 (events ++ next ∷ []) to
IsStuck answers events None = ¬ LeadsThrough answers 0 events (length answers)

-- The events before the gap lead to the answer at it, and none of all ways that they may have gone
-- goes on. So the two that stand there differ, and no earlier ones do.
pub record IsGap (answers : List LogEntry) (trail : List Event) (gap : Gap) : Type 0 where
  pub within : gap.event ≤ length trail
  pub leads : LeadsThrough answers 0 (take gap.event trail) gap.entry
  pub stuck : IsStuck answers (take gap.event trail) (slice_get trail gap.event)

-- the answers and the trail agree, or first differ there
abbrev pub Compares : List LogEntry → List Event → Option Gap → Type 0
Compares answers trail None = LeadsThrough answers 0 trail (length answers)
Compares answers trail (Some gap) = IsGap answers trail gap

-- the mismatch is the first of what the seat was answered and this trail
pub record Differs (log : List LogEntry) (trail : List Event) (m : Mismatch) : Type 0 where
  pub gap : Gap
  pub is_gap : IsGap (answers_to m.seat log) trail gap
  pub logged : m.logged ≡ option_map entry_event (slice_get (answers_to m.seat log) gap.entry)
  pub told : m.told ≡ slice_get trail gap.event
