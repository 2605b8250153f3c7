use Rattle.std.proofs.Common.{map, take}
use Rattle.call_log.specs.Agreeing.{LeadsOn}
use Rattle.call_log.proofs.Leading.{HasLed}
use Rattle.call_log.proofs.ways.go_on.Given as goal

abbrev pub invariant-loop-way : goal.invariant-loop-way
invariant-loop-way l =
    HasLed (LeadsOn (map (λ e. e.now) l.answers) l.event) (take l.way-index l.ways) l.next.items
