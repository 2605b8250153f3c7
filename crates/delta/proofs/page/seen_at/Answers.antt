use Rattle.std.proofs.Common.{ap, ◌∙◌, subst, sym}
use Rattle.delta.specs.Marks.{ids_of}
use Rattle.delta.specs.Order.{IsInOrder, Lists, id_cmp}
use Rattle.delta.specs.Page.{IsSeenAt}
use Rattle.delta.proofs.Pages.{seen-is, unseen-is}
use Rattle.delta.proofs.page.seen_at.Goals as goal

pub returns-then-moment-now : goal.returns-then-moment-now
returns-then-moment-now c =
    subst (Lists id_cmp (IsSeenAt c.args.now c.args.moment c.args.marks.now)) (sym c.new.ensures)
    (unseen-is c.args.now c.args.moment c.args.marks.now c.if-moment-now.true)

pub returns : goal.returns
returns c =
    subst (Lists id_cmp (IsSeenAt c.args.now c.args.moment c.args.marks.now)) (sym c.from_vec.ensures)
    (seen-is c.args.now c.args.moment c.args.marks.now _ c.if-moment-now.false
    (subst (λ ids. IsInOrder id_cmp ids c.in_ok-in_order.field-0.items)
    (c.deref-2.ensures.value ∙ c.in_ok-ids.ensures ∙ ap ids_of (c.deref.ensures.value ∙ c.in_ok-at.ensures))
    c.in_ok-in_order.ensures))
