use Rattle.std.proofs.Common.{arith, sym}
use Rattle.std.proofs.lemmas.Grind.{common_steps}
use Rattle.local_commands.proofs.command.add.make_note.Goals as goal

pub returns-in_err-change : goal.returns-in_err-change
returns-in_err-change c = rw (sym c.in_ok-body.ensures) (grind (arith, common_steps))

pub returns : goal.returns
returns c = rw (sym c.in_ok-body.ensures) (grind (arith, common_steps))
