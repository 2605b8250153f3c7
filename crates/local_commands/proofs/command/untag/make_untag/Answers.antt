use Rattle.std.proofs.Common.{◌∙◌, arith, ap, false, map, subst, sym}
use Rattle.std.specs.Prelude.{List}
use Rattle.std.proofs.lemmas.Grind.{common_steps}
use Rattle.local_changes.specs.Tagging.{unlinking}
use Rattle.local_store.specs.declared.change.Change.{Change}
use Rattle.local_store.specs.declared.row.Row.{Row}
use Rattle.local_commands.specs.Keeping.{AreLocal}
use Rattle.local_commands.specs.declared.act.Act.TheVariants.{MakeChange}
use Rattle.local_commands.proofs.InARow.{all_allowed}
use Rattle.local_commands.proofs.Tags.{unlinking_local}
use Rattle.local_commands.proofs.command.untag.make_untag.Goals as goal

pub returns : goal.returns
returns c =
    let allowed = all_allowed c.in_ok-changes.changes c.in_ok-changes.ensures.allowed in
    let is = c.in_ok-changes.ensures.changes
    ∙ ap (λ (rows : List Row). unlinking c.args.note c.args.tag rows) c.as_slice.ensures in
    let local : AreLocal false (map MakeChange c.in_ok-changes.changes) =
    subst (λ (changes : List Change). AreLocal false (map MakeChange changes)) (sym is)
    (unlinking_local c.args.note c.args.tag c.args.tables.now.rows) in
    grind (arith, common_steps)
