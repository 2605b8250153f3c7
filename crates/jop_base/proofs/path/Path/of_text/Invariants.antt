use Rattle.std.proofs.Common.{take}
use Rattle.std.specs.Prelude.{All}
use Rattle.jop_base.specs.Paths.{HasNoFile}
use Rattle.jop_base.proofs.path.Path.of_text.Given as goal

-- no file of the folders so far has the text
abbrev pub invariant-loop-dir : goal.invariant-loop-dir
invariant-loop-dir l = All (λ dir. HasNoFile dir l.text) (take l.dir-index l.dir-items)
