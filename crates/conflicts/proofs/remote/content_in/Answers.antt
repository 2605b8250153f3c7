use Rattle.std.specs.Prelude.{Option, option_map, Err}
use Rattle.std.proofs.Common.{sym, ap, subst}
use Rattle.item_text.proofs.Parted.{item_in-refused}
use Rattle.item_text.specs.Answers.{ReadsOrRefuses}
use Rattle.item_text.specs.declared.bad_item.ItemErr.{ItemErr}
use Rattle.item_text.specs.declared.item.Item.{Item}
use Rattle.law_licences.specs.Items.{content_without_keys, if_of}
use Rattle.conflicts.proofs.remote.content_in.Goals as goal

pub returns-in-Err-Bad-clause-content : goal.returns-in-Err-Bad-clause-content
unfolding ReadsOrRefuses
returns-in-Err-Bad-clause-content c =
    let bytes = c.args.bytes.now in
    let refused =
    subst (λ (e : ItemErr). ReadsOrRefuses bytes (Err e)) c.in-Err-Bad.field-0-is
    c.in-Err-Bad.ensures.exact in
    ap (λ (o : Option Item). option_map content_without_keys (if_of c.args.id.now o))
    (sym (item_in-refused bytes c.in-Err-Bad.field-0-0 refused))
