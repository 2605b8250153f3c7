use Rattle.std.proofs.Common.{◌∙◌, sym}
use Rattle.jop_watch.proofs.Drawn.{draws_here}
use Rattle.jop_watch.proofs.gauge.Gauge.draw.Goals as goal

pub returns-then-is_due : goal.returns-then-is_due
returns-then-is_due g c =
    draws_here c.args.self.now _ c.show.new.self (g.C.Clock.state c.now.new.self)
    c.unwrap_or-began.result c.in-Ok.now c.now.result c.self.view_is c.in-Ok.is c.now.ensures.shows
    c.now.ensures.cause c.unwrap_or-began.ensures (sym c.is_due.ensures ∙ c.if-is_due.true)
    c.show.ensures.drawn c.show.ensures.same
