use Rattle.std.proofs.Common.{ℕ, ◌+◌, drop, None, sym, ap, ◌∙◌, arith, lit<}
use Rattle.std.proofs.lemmas.List.{drop_all}
use Rattle.std.proofs.lemmas.Str.Pattern.{split_once_first}
use Rattle.item_text.specs.Lines.{trimmed}
use Rattle.item_text.specs.Grammar.{pair_of}
use Rattle.item_text.proofs.Blanks.{trimmed-nil}
use Rattle.item_text.proofs.pair.pair_in.Goals as goal

pub returns-in-None-clause-value : goal.returns-in-None-clause-value
unfolding pair_of
returns-in-None-clause-value c =
    let line = c.args.line.now in
    let at = split_once_first 58 line None c.in-None.ensures.cases (lit< tt) in
    sym (ap trimmed (ap (λ (n : ℕ). drop (n + 1) line) at ∙ drop_all _ line (omega arith))
    ∙ trimmed-nil)
