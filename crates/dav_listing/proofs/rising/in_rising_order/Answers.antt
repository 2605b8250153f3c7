use Rattle.std.proofs.Common.{sym, subst, ◌∙◌, List}
use Rattle.std.specs.Prelude.{IsPermutation}
use Rattle.std.proofs.lemmas.Bool.{false≢true}
use Rattle.std.proofs.lemmas.List.Sorted.{IsPermutation-sym, IsPermutation-trans}
use Rattle.jop_target.specs.Replies.{IsRising}
use Rattle.jop_target.specs.declared.reply.Entry.{Entry}
use Rattle.dav_listing.proofs.Repeated.{rises_sorted}
use Rattle.dav_listing.proofs.rising.in_rising_order.Goals as goal

pub returns-else-is_rising-clause-none : goal.returns-else-is_rising-clause-none
returns-else-is_rising-clause-none c = λ entries same rising.
    let files = c.args.files in
    let sorted = c.sort.new.entries.items in
    let there = subst (λ (es : List Entry). IsPermutation es sorted) c.into_vec-files.ensures
    c.sort.ensures.same in
    let back = IsPermutation-trans sorted files entries (IsPermutation-sym files sorted there) same in
    let rises = rises_sorted sorted entries c.sort.ensures.sorted back rising in
    false≢true (sym c.if-is_rising.false
    ∙ c.is_rising.ensures.1 (subst IsRising (sym c.deref.ensures.value) rises))
