use Rattle.std.specs.Prelude.{ℕ, List}
use Rattle.std.proofs.Common.{◌∙◌, inr, subst}
use Rattle.jop_outside.specs.Writing.{WritesAll}
use Rattle.jop_watch.specs.Watching.{GaugeNow, SendsLine}
use Rattle.jop_watch.proofs.gauge.Gauge.show.Goals as goal

pub returns-in-Ok-clause-drawn : goal.returns-in-Ok-clause-drawn
returns-in-Ok-clause-drawn g c =
    subst (λ (old : GaugeNow). SendsLine old.progress old.terminal (g.S.Sink.state c.write_whole.new.sink))
    c.self.view_is
    (inr (
      c.write_whole.result,
      subst (λ (bytes : List ℕ). WritesAll (g.S.Sink.state c.self.inside.terminal) bytes
          c.write_whole.result (g.S.Sink.state c.write_whole.new.sink))
          (c.as_bytes.ensures.value ∙ c.in-Ok.ensures.ok) c.write_whole.ensures,
    ))
