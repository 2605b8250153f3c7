use Rattle.std.specs.Prelude.{refl}
use Rattle.std.proofs.Common.{◌∙◌, ap, sym}
use Rattle.std.specs.Option.{is_some}
use Rattle.jop_watch.proofs.Drawn.{clears_here}
use Rattle.jop_watch.proofs.gauge.Gauge.clear.Goals as goal

pub returns-then-is_some : goal.returns-then-is_some
returns-then-is_some g c =
    clears_here c.args.self.now _ _ c.self.view_is
    (sym (c.is_some.ensures ∙ ap is_some c.take.ensures.value) ∙ c.if-is_some.true)
    (c.write_whole.result, c.write_whole.ensures) c.take.ensures.after refl refl refl
