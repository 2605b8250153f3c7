use Rattle.std.specs.Prelude.{false, true}
use Rattle.download.proofs.Left.{leaves_one}
use Rattle.download.specs.Taking.{is_taking}
use Rattle.download.proofs.leaving.leave_one.Goals as goal

pub returns-then-folders : goal.returns-then-folders
returns-then-folders g c = record {
  ends = λ known lacks.
      leaves_one c.args.folders true c.args.id.now is_taking _ _ c.close.result
      c.if-folders.true (c.close.ensures.ends known lacks);
}

pub returns : goal.returns
returns g c = record {
  ends = λ known lacks.
      leaves_one c.args.folders false c.args.id.now is_taking _ _ c.go.result
      c.if-folders.false (c.go.ensures.ends known lacks);
}
