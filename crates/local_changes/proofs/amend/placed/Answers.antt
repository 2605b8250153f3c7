use Rattle.std.proofs.Common.{◌∙◌}
use Rattle.local_changes.proofs.AmendedItems.{parent_valid}
use Rattle.local_changes.proofs.amend.placed.Goals as goal

pub set_prop-requires : goal.set_prop-requires
set_prop-requires c =
    parent_valid c.in_ok-value.value c.args.book.now (c.in_ok-value.ensures ∙ c.as_str.ensures.same)
    c.as_str.ensures.digits
