use Rattle.std.proofs.Common.{refl}
use Rattle.jop_base.specs.Paths.{HasNoFile, dir_of}
use Rattle.jop_base.specs.declared.dir.Dir.TheVariants.{Root}
use Rattle.jop_base.proofs.Folders.{each_folder, one_more}
use Rattle.jop_base.proofs.path.Path.of_text.Goals as goal

pub returns-clause-none : goal.returns-clause-none
returns-clause-none c = λ path.
    (each_folder (λ dir. HasNoFile dir c.args.text.now) c.loop-dir.dir-index
    c.loop-dir-test.false c.loop-dir.invariant (dir_of path)).none path refl

pub loop-dir-preserved : goal.loop-dir-preserved
loop-dir-preserved c =
    one_more (λ dir. HasNoFile dir c.args.text.now) _ c.loop-dir.dir-index Root
    c.loop-dir-test.true c.loop-dir.invariant c.in_default.ensures.none
