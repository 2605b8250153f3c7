use Rattle.item_text.specs.Steps.{lines_of}
use Rattle.item_text.proofs.Left.{left}
use Rattle.item_text.proofs.Typed.{IsUntyped}
use Rattle.item_text.proofs.type_value.from_type.Given as goal

abbrev pub invariant-loop-rest : goal.invariant-loop-rest
invariant-loop-rest l = IsUntyped (lines_of l.fn.block) (lines_of l.rest)

abbrev pub decreases-loop-rest : goal.decreases-loop-rest
decreases-loop-rest l = left l.rest
