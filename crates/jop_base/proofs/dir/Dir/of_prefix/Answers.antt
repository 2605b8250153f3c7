use Rattle.std.proofs.Common.{◌≡◌, rules}
use Rattle.jop_base.specs.Paths.{dir_prefix}
use Rattle.jop_base.specs.declared.dir.Dir.TheVariants.{Root}
use Rattle.jop_base.proofs.Folders.{each_folder, one_more}
use Rattle.jop_base.proofs.dir.Dir.of_prefix.Goals as goal

pub returns-clause-none : goal.returns-clause-none
returns-clause-none c =
    each_folder (λ dir. ¬ (dir_prefix dir ≡ c.args.prefix.now)) c.loop-dir.dir-index
    c.loop-dir-test.false c.loop-dir.invariant

pub loop-dir-preserved : goal.loop-dir-preserved
loop-dir-preserved c =
    one_more (λ dir. ¬ (dir_prefix dir ≡ c.args.prefix.now)) _ c.loop-dir.dir-index Root
    c.loop-dir-test.true c.loop-dir.invariant (search rules)
