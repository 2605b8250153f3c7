use Rattle.std.proofs.Common.{◌≡◌, ◌++◌, map}
use Rattle.item_text.specs.Grammar.{pair_of}
use Rattle.item_text.specs.Steps.{lines_of}
use Rattle.item_text.proofs.Left.{left}
use Rattle.item_text.proofs.block.read_pairs.Given as goal

abbrev pub invariant-loop-rest : goal.invariant-loop-rest
invariant-loop-rest l = l.props ++ map pair_of (lines_of l.rest) ≡ map pair_of (lines_of l.fn.block)

abbrev pub decreases-loop-rest : goal.decreases-loop-rest
decreases-loop-rest l = left l.rest
