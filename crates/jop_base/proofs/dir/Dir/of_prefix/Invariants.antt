use Rattle.std.proofs.Common.{◌≡◌, take}
use Rattle.std.specs.Prelude.{All}
use Rattle.jop_base.specs.Paths.{dir_prefix}
use Rattle.jop_base.proofs.dir.Dir.of_prefix.Given as goal

-- it stands before the names of none of the folders so far
abbrev pub invariant-loop-dir : goal.invariant-loop-dir
invariant-loop-dir l = All (λ dir. ¬ (dir_prefix dir ≡ l.prefix)) (take l.dir-index l.dir-items)
