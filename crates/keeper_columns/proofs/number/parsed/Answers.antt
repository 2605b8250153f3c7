use Rattle.std.proofs.Common.{ap, ◌∙◌}
use Rattle.jop_base.proofs.DecimalLaws.{decimal_in-decimal}
use Rattle.jop_base.specs.Decimals.{decimal_in}
use Rattle.keeper_columns.proofs.number.parsed.Goals as goal

pub returns : goal.returns
returns c = λ n small is.
    c.read_decimal.ensures ∙ ap decimal_in is ∙ decimal_in-decimal n small
