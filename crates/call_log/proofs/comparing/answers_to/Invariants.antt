use Rattle.std.proofs.Common.{◌≡◌, map, take}
use Rattle.call_log.specs.Agreeing.{answers_to}
use Rattle.call_log.proofs.comparing.answers_to.Given as goal

abbrev pub invariant-loop-entry : goal.invariant-loop-entry
invariant-loop-entry l =
    map (λ e. e.now) l.answers.items ≡ answers_to l.seat (take l.entry-index l.log)
