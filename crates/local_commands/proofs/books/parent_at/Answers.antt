use Rattle.std.proofs.Common.{arith}
use Rattle.std.proofs.lemmas.Grind.{common_steps}
use Rattle.local_commands.proofs.Places.{id_given}
use Rattle.local_commands.proofs.books.parent_at.Goals as goal

pub returns-in-Some : goal.returns-in-Some
returns-in-Some c =
    let is = id_given _ c.item.result.now.props c.parent_of.result c.parent_of.ensures in
    grind (arith, common_steps)
