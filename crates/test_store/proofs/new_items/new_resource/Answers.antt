use Rattle.std.proofs.Common.{◌≡◌, ℕ, List, refl, sym, subst}
use Rattle.item_text.specs.Lines.{trimmed}
use Rattle.test_store.proofs.new_items.new_resource.Goals as goal

pub resource_item-requires-clause-trimmed : goal.resource_item-requires-clause-trimmed
unfolding trimmed
resource_item-requires-clause-trimmed c =
    let P : List ℕ → Type 0 = λ mime. trimmed mime ≡ mime in
    subst P (sym c.in_ok-mime.ensures) refl
