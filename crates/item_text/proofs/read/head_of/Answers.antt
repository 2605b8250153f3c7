use Rattle.item_text.proofs.Head.{head_none}
use Rattle.item_text.proofs.read.head_of.Goals as goal

pub returns-in-None-clause-body : goal.returns-in-None-clause-body
returns-in-None-clause-body c = (head_none c.args.above c.in-None.is).1
