use Rattle.std.proofs.Common.{◌≡◌, ◌++◌, drop}
use Rattle.target_upgrade.specs.Steps.{items_in}
use Rattle.target_upgrade.proofs.items.items_in.Given as goal

-- the items that are taken, and those that are left
abbrev pub invariant-loop-entry : goal.invariant-loop-entry
invariant-loop-entry l = l.ids ++ items_in (drop l.entry-index l.entry-items) ≡ items_in
    l.entry-items
