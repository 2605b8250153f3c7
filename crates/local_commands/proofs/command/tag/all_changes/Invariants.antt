use Rattle.std.proofs.Common.{◌≡◌, ◌++◌, length, map}
use Rattle.local_commands.specs.declared.act.Act.TheVariants.{MakeChange}
use Rattle.local_commands.proofs.command.tag.all_changes.Given as goal

abbrev pub invariant-loop-acts : goal.invariant-loop-acts
invariant-loop-acts l = l.acts ++ map MakeChange l.left ≡ map MakeChange l.fn.changes

abbrev pub decreases-loop-acts : goal.decreases-loop-acts
decreases-loop-acts l = length l.left
