use Rattle.std.proofs.Common.{arith, false, map}
use Rattle.std.proofs.lemmas.Grind.{common_steps}
use Rattle.local_commands.specs.Keeping.{AreLocal}
use Rattle.local_commands.specs.declared.act.Act.TheVariants.{MakeChange}
use Rattle.local_commands.proofs.InARow.{all_allowed}
use Rattle.local_commands.proofs.Tags.{tagged_local}
use Rattle.local_commands.proofs.command.tag.make_tag.Goals as goal

pub returns : goal.returns
returns c =
    let allowed = all_allowed c.in_ok-changes.changes c.in_ok-changes.ensures.allowed in
    let local : AreLocal false (map MakeChange c.in_ok-changes.changes) =
    tagged_local c.args.tables.now _ _ _ _ _ _ c.in_ok-changes.ensures.answer in
    grind (arith, common_steps)
