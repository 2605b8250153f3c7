use Rattle.std.proofs.Common.{sym, ◌∙◌}
use Rattle.std.proofs.lemmas.List.{append_cancel_left}
use Rattle.dav_parts.proofs.LineLemmas.{if_none}
use Rattle.dav_parts.proofs.multistatus_reader.after_both.Goals as goal

pub returns-in-Some-clause-none : goal.returns-in-Some-clause-none
returns-in-Some-clause-none c = if_none c.after_prefix-in-Some.result _ _ (λ none rest e.
    none rest (append_cancel_left c.args.first.now _ _ (sym c.in-Some.ensures.some ∙ e)))
    c.after_prefix-in-Some.ensures.none
