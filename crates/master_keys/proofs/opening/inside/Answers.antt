use Rattle.std.proofs.Common.{ℕ, List, Err, Result, sym, ap, subst, ◌∙◌}
use Rattle.item_text.proofs.Parted.{item_in-refused}
use Rattle.item_text.specs.Answers.{ReadsOrRefuses}
use Rattle.item_text.specs.Grammar.{item_in}
use Rattle.item_text.specs.declared.bad_item.ItemErr.{ItemErr}
use Rattle.item_text.specs.declared.item.Item.{Item}
use Rattle.master_keys.specs.Opening.{inside}
use Rattle.master_keys.proofs.opening.inside.Goals as goal

pub returns-in-Err-Bad-clause-err : goal.returns-in-Err-Bad-clause-err
unfolding ReadsOrRefuses
returns-in-Err-Bad-clause-err c =
    let bytes = c.as_slice.result.now in
    let P : Result Item ItemErr → Type 0 = ReadsOrRefuses bytes in
    let exact = subst P c.in-Err-Bad.is c.read_item.ensures.exact in
    let refused = subst (λ (e : ItemErr). ReadsOrRefuses bytes (Err e)) c.in-Err-Bad.field-0-is exact in
    ap (λ (text : List ℕ). inside c.args.outer.now (item_in text)) (sym c.as_slice.ensures)
    ∙ ap (inside c.args.outer.now) (item_in-refused bytes c.in-Err-Bad.field-0-0 refused)
