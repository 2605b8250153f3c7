use Rattle.std.proofs.Common.{◌∙◌, subst, sym}
use Rattle.std.specs.Option.{option_copied}
use Rattle.delta.specs.Order.{IsInOrder, IsSetOf, Lists, id_cmp}
use Rattle.delta.specs.Page.{IsGoneOf}
use Rattle.delta.proofs.Pages.{gone-is}
use Rattle.delta.proofs.page.gone_of.Goals as goal

pub returns : goal.returns
returns c =
    let tombs = option_copied c.args.tombs in
    subst (Lists id_cmp (IsGoneOf c.args.synced.now c.args.marks.now tombs))
    (sym c.from_vec.ensures)
    (gone-is c.args.synced.now c.in_ok-shown.shown c.in_ok-recorded.recorded c.args.marks.now
    tombs _
    (subst (λ ids. IsSetOf id_cmp ids c.in_ok-shown.shown)
    (c.deref.ensures.value ∙ c.in_ok-ids_of.ensures) c.in_ok-shown.ensures)
    c.in_ok-recorded.ensures
    (subst (λ ids. IsInOrder id_cmp ids c.in_ok-in_order.field-0.items)
    (c.deref-2.ensures.value ∙ c.in_ok-gone.ensures) c.in_ok-in_order.ensures))
