use Rattle.local_changes.proofs.AmendedItems.{placed_or}
use Rattle.local_changes.proofs.amend.amended_item.Goals as goal

pub returns-in-Book-clause-content : goal.returns-in-Book-clause-content
returns-in-Book-clause-content c = λ id of.
    placed_or id c.args.item.now c.in-Book.book c.placed.result of c.placed.ensures
