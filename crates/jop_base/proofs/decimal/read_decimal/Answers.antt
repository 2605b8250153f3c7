use Rattle.std.proofs.Common.{sym, ◌∙◌}
use Rattle.jop_base.proofs.DecimalLaws.{digits_utf8, decimal_in-parsed}
use Rattle.jop_base.proofs.decimal.read_decimal.Goals as goal

pub unreachable-requires : goal.unreachable-requires
unreachable-requires c = c.in-Err.ensures.cases.0 (digits_utf8 c.args.text.now
    (sym c.are_decimal_digits.ensures ∙ c.if-not-are_decimal_digits.false))

pub returns : goal.returns
returns c = c.ok.ensures.value ∙ decimal_in-parsed c.args.text.now c.in-Ok.digits.now c.parse.result
    c.in-Ok.ensures.cases.0 (sym c.are_decimal_digits.ensures ∙ c.if-not-are_decimal_digits.false)
    c.parse.ensures.value.0
