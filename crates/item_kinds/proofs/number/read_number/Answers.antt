use Rattle.item_kinds.proofs.Numerals.{read_none, read_some}
use Rattle.item_kinds.proofs.number.read_number.Goals as goal

pub returns-clause-some : goal.returns-clause-some
returns-clause-some c = read_some c.args.text.now c.read_decimal.result c.read_decimal.ensures

pub returns-clause-none : goal.returns-clause-none
returns-clause-none c = read_none c.args.text.now c.read_decimal.result c.read_decimal.ensures
