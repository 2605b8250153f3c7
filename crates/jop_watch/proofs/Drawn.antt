-- What a line that is drawn, or taken away, comes to.
use Rattle.std.specs.Prelude.{ℕ, ◌≡◌, Bool, true, false, Option, Some, None, Result, Ok, refl}
use Rattle.std.proofs.Common.{◌∙◌, ap, subst, sym}
use Rattle.std.specs.Option.{is_some, unwrap_or}
use Rattle.jop_outside.specs.Clocks.{ClockNow, Shows}
use Rattle.jop_outside.specs.Outside.{HasCause, SinkNow}
use Rattle.jop_outside.specs.declared.failed.Failed.{Failed}
use Rattle.jop_watch.specs.Progress.{may_draw}
use Rattle.jop_watch.specs.Watching.{TakesAway, TakesAwayWhere, MayDrawLine, DrawsBy, DrawsWhere, GaugeNow, SendsLine, SendsBytes, clearing}

pub clears_some : (drawn : Option ℕ) (old new : SinkNow) → is_some drawn ≡ true
    → SendsBytes old clearing new → TakesAwayWhere drawn old new
clears_some None old new is sent = absurd cc
clears_some (Some at) old new is sent = sent

pub draws_due : (due : Bool) (now : ℕ) (old new : GaugeNow) → due ≡ true
    → SendsLine old.progress old.terminal new.terminal → new.drawn ≡ Some now
    → DrawsWhere due now old new
draws_due true now old new is drawn at = (drawn, at)
draws_due false now old new is drawn at = absurd cc

pub draws_by : (shown : Result ℕ Failed) (now : ℕ) (old new : GaugeNow) → shown ≡ Ok now
    → new.began ≡ Some (unwrap_or old.began now)
    → DrawsWhere (may_draw (unwrap_or old.began now) old.drawn now) now old new
    → DrawsBy shown old new
draws_by shown now old new is began draws =
    subst (λ (s : Result ℕ Failed). DrawsBy s old new) (sym is) (began, draws)

pub clears_here : (old inner new : GaugeNow) → inner ≡ old → is_some inner.drawn ≡ true
    → SendsBytes inner.terminal clearing new.terminal → new.drawn ≡ None → new.clock ≡ inner.clock
    → new.began ≡ inner.began → new.progress ≡ inner.progress → TakesAway old new
clears_here old inner new view is sent gone clock began same =
    subst (λ (g : GaugeNow). TakesAway g new) view (record {
      clears = clears_some inner.drawn inner.terminal new.terminal is sent;
      gone = gone;
      clock = clock;
      began = began;
      same = same;
    })

pub draws_here : (old inner new : GaugeNow) (clock : ClockNow) (began now : ℕ)
    (shown : Result ℕ Failed) → inner ≡ old → shown ≡ Ok now
    → Shows inner.clock.next shown clock.next → HasCause inner.clock.faults shown clock.faults
    → began ≡ unwrap_or inner.began now → may_draw began inner.drawn now ≡ true
    → SendsLine inner.progress inner.terminal new.terminal
    → new ≡ record {
      clock = clock;
      terminal = new.terminal;
      progress = inner.progress;
      began = Some began;
      drawn = Some now;
    } → MayDrawLine old new
draws_here old inner new clock began now shown view is shows cause first due drawn same =
    subst (λ (g : GaugeNow). MayDrawLine g new) view (subst (λ (n : GaugeNow). MayDrawLine inner n) (sym same)
    (record {
      shown = shown;
      shows = shows;
      cause = cause;
      draws = draws_by shown now inner _ is (ap Some first)
          (draws_due (may_draw (unwrap_or inner.began now) inner.drawn now) now inner _
          (ap (λ b. may_draw b inner.drawn now) (sym first) ∙ due) drawn refl);
      same = refl;
    }))
