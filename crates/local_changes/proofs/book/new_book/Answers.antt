use Rattle.std.specs.Prelude.{ℕ, List, Option}
use Rattle.std.proofs.Common.{◌∙◌, ap}
use Rattle.item_kinds.specs.Made.{folder}
use Rattle.local_changes.proofs.Unsealed.{folder_may, book_due}
use Rattle.local_changes.proofs.book.new_book.Goals as goal

pub saved_within-requires : goal.saved_within-requires
saved_within-requires c =
    let made = c.in_ok-item.ensures in
    folder_may c.args.id c.args.parent c.args.title c.args.now c.in_ok-item.item
    (made.made
    ∙ ap (λ (p : Option (List ℕ)). folder c.args.id p c.args.title c.args.now) c.as_ref.ensures.value)
    made.valid made.id

pub returns-clause-answer : goal.returns-clause-answer
returns-clause-answer c =
    book_due _ _ c.args.id c.in_ok-item.item _ c.saved_within.result c.in_ok-check_parent.ensures
    (c.in_ok-item.ensures.made
    ∙ ap (λ (p : Option (List ℕ)). folder c.args.id p c.args.title c.args.now) c.as_ref.ensures.value)
    c.saved_within.ensures.answer
