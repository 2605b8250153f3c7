use Rattle.std.proofs.Common.{rules, arith, sym, ◌∙◌}
use Rattle.item_kinds.proofs.Numerals.{type_none, type_some, short_number}
use Rattle.item_kinds.proofs.kind.type_number.Goals as goal

pub returns-in_err-read_number : goal.returns-in_err-read_number
returns-in_err-read_number c = c.from_residual.ensures
    ∙ sym (type_none c.args.value.now c.read_number.result c.if-value-gt3.false
    c.read_number.ensures.none c.in_err-read_number.was)

pub overflow_cast-result : goal.overflow_cast-result
overflow_cast-result c = let small =
    short_number c.args.value.now c.read_number.result c.in_ok-read_number.field-0
    c.if-value-gt3.false c.read_number.ensures.some c.in_ok-read_number.was in
    search (rules, arith)

pub returns : goal.returns
returns c = sym
    (type_some c.args.value.now c.read_number.result c.in_ok-read_number.field-0
    c.if-value-gt3.false c.read_number.ensures.some c.in_ok-read_number.was)
