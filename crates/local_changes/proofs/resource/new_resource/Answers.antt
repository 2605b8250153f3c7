use Rattle.local_changes.proofs.Unsealed.{resource_may}
use Rattle.local_changes.proofs.resource.new_resource.Goals as goal

pub returns-clause-allowed : goal.returns-clause-allowed
returns-clause-allowed c =
    let made = c.in_ok-item.ensures in
    resource_may c.args.id c.args.name c.args.mime c.args.len c.args.now c.in_ok-item.item
    made.made made.valid made.id
