use Rattle.std.proofs.Common.{take, All}
use Rattle.item_text.specs.Valid.{IsProp}
use Rattle.item_text.proofs.valid.are_props.Given as goal

abbrev pub invariant-loop-prop : goal.invariant-loop-prop
invariant-loop-prop l = All IsProp (take l.prop-index l.props)
