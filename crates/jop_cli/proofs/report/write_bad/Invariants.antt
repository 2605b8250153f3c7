use Rattle.std.proofs.Common.{drop}
use Rattle.jop_outside.proofs.WritingLaws.{IsAt}
use Rattle.jop_cli.specs.Commands.Sync.{bad_text}
use Rattle.jop_cli.proofs.report.write_bad.Given as goal

abbrev pub invariant-loop-id : goal.invariant-loop-id
invariant-loop-id g l =
    IsAt (g.O.Sink.state l.fn.out) (bad_text l.fn.ids)
    (g.O.Sink.state l.out) (bad_text (drop l.id-index l.fn.ids))
