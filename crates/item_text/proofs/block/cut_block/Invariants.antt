use Rattle.item_text.specs.Lines.{lines}
use Rattle.item_text.specs.Steps.{lines_of}
use Rattle.item_text.proofs.Walked.{Walked, FirstPartOf}
use Rattle.item_text.proofs.Left.{left}
use Rattle.item_text.proofs.block.cut_block.Given as goal

abbrev pub invariant-loop-rest : goal.invariant-loop-rest
invariant-loop-rest l = Walked (lines l.text) (lines_of l.rest) × FirstPartOf l.rest l.text

abbrev pub decreases-loop-rest : goal.decreases-loop-rest
decreases-loop-rest l = left l.rest
