use Rattle.std.proofs.Common.{sym, ap, ◌∙◌, length, take, refl, List, ℕ}
use Rattle.std.proofs.lemmas.Bool.{false≢true}
use Rattle.std.proofs.lemmas.List.{take_at}
use Rattle.dav_parts.proofs.BytesLemmas.{bytes_eq_same}
use Rattle.dav_parts.proofs.target.after_prefix.Goals as goal

pub returns-else-eq-clause-none : goal.returns-else-eq-clause-none
returns-else-eq-clause-none c = λ rest e.
    let front = c.args.prefix.now in
    let same = c.split_at.ensures.front ∙ ap (λ (xs : List ℕ). take (length front) xs) e
    ∙ take_at front rest (length front) refl in
    false≢true (sym c.if-eq.false ∙ c.eq.ensures ∙ bytes_eq_same _ front same)
