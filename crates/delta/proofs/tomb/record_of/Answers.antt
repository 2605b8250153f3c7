use Rattle.std.proofs.Common.{◌∙◌, ap, subst, sym, List, ℕ, Option, Some}
use Rattle.std.specs.Option.{option_copied}
use Rattle.jop_target.specs.declared.reply.Listing.{Listing}
use Rattle.delta.specs.Order.{IsSetOf, id_cmp}
use Rattle.delta.specs.Sets.{IsRecord}
use Rattle.delta.proofs.tomb.record_of.Goals as goal

pub returns-in_ok-set-in-Some : goal.returns-in_ok-set-in-Some
returns-in_ok-set-in-Some c =
    let set = c.in_ok-set-in-Some.set in
    subst (λ (tombs : Option Listing). IsRecord tombs (Some set))
    (sym (ap option_copied c.in-Some.is))
    (subst (λ (ids : List (List ℕ)). IsSetOf id_cmp ids set)
    (c.deref.ensures.value ∙ c.in_ok-ids-in-Some.ensures) c.in_ok-set-in-Some.ensures)
