use Rattle.std.proofs.Common.{ap, ◌∙◌, subst}
use Rattle.delta.specs.Marks.{ids_of}
use Rattle.delta.specs.Order.{IsInOrder, IsSetOf, id_cmp, mark_cmp}
use Rattle.delta.proofs.Pages.{taken-is}
use Rattle.delta.proofs.page.taken_of.Goals as goal

pub returns : goal.returns
returns c =
    taken-is c.args.context.now c.in_ok-seen.seen c.args.marks.now c.in_ok-new.new.items c.from_vec.result
    (subst (λ ids. IsSetOf id_cmp ids c.in_ok-seen.seen) c.as_slice.ensures c.in_ok-seen.ensures)
    (subst (λ ms. IsInOrder mark_cmp ms c.in_ok-new.new.items)
    (c.deref.ensures.value ∙ c.in_ok-past.ensures) c.in_ok-new.ensures)
    (c.from_vec.ensures ∙ c.in_ok-ids_of.ensures ∙ ap ids_of c.deref-2.ensures.value)
