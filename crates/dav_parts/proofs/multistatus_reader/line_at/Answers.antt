use Rattle.std.proofs.Common.{sym, subst, ◌∙◌, List, ℕ, ◌++◌}
use Rattle.dav_parts.specs.Targets.{dir_target}
use Rattle.dav_parts.specs.Multistatus.{href_open, IsFileAt}
use Rattle.dav_parts.proofs.LineLemmas.{if_none, same_front}
use Rattle.dav_parts.proofs.multistatus_reader.line_at.Goals as goal

pub returns-in-None-clause-none : goal.returns-in-None-clause-none
returns-in-None-clause-none c = λ entry rest h. c.in-None.ensures.none h.0 (h.1
    ∙ (λ i. sym c.href_open.ensures i ++ (sym c.dir_target.ensures i ++ h.0)))

pub returns-in-Some-clause-none : goal.returns-in-Some-clause-none
returns-in-Some-clause-none c =
    if_none c.file_at.result _ _ (λ none entry rest h.
    none entry rest (subst (λ (t : List ℕ). IsFileAt c.args.dir entry t rest)
    (sym (same_front href_open (dir_target c.args.dir) _ _ c.args.text.now c.in-Some.text.now
    h.0 c.href_open.ensures c.dir_target.ensures c.in-Some.ensures.some h.1)) h.2))
    c.file_at.ensures.none
