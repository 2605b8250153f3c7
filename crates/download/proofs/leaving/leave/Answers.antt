use Rattle.std.specs.Prelude.{Some, false, true}
use Rattle.download.specs.Downloading.{LeavesOne}
use Rattle.session.proofs.Ending.{ends_then}
use Rattle.session.specs.Parts.{ForEach}
use Rattle.session.specs.Work.{knowing}
use Rattle.download.specs.Taking.{is_taking}
use Rattle.download.proofs.leaving.leave.Goals as goal

pub leave_each-requires-2-clause-ready : goal.leave_each-requires-2-clause-ready
leave_each-requires-2-clause-ready g c =
    (c.in_ok-leave_each.ensures.ends c.requires.gone.0 c.requires.gone.1).ready

pub returns : goal.returns
returns g c = record {
  ends = λ known lacks.
      let gone = c.args.gone.now in
      ends_then (ForEach (LeavesOne false) gone) (ForEach (LeavesOne true) gone) is_taking _
      (knowing (Some known) (g.W.Session.now c.leave_each.new.s)) _ c.leave_each-2.result
      (c.in_ok-leave_each.ensures.ends known lacks) (c.leave_each-2.ensures.ends known lacks);
}
