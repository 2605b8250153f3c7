use Rattle.std.proofs.Common.{ap, ap₂, sym, subst, ◌∙◌, List}
use Rattle.std.proofs.lemmas.Result.{IfErr-weaker, IfOk-weaker}
use Rattle.clap.specs.Words.{Row, is_simple, matches_of, takes}
use Rattle.hall_words.proofs.Three.{AreFound, found_plain, hall_simple, taken_plain}
use Rattle.hall_words.proofs.words.match_words.Goals as goal

pub returns-clause-err : goal.returns-clause-err
returns-clause-err c = λ a b d words p q r.
    let whole = c.in_ok-three_words.ensures.ok in
    IfErr-weaker c.try_get_matches_from.result _ _
    (λ e h. h (ap₂ takes whole words ∙ taken_plain a b d p q r)) c.try_get_matches_from.ensures.passes

pub returns-clause-ok : goal.returns-clause-ok
returns-clause-ok c = λ a b d words p q r.
    let whole = c.in_ok-three_words.ensures.ok in
    IfOk-weaker c.try_get_matches_from.result _ _
    (λ m h. subst (λ (rows : List Row). AreFound rows a b d)
    (sym ((h (ap is_simple whole ∙ hall_simple)).0 ∙ ap₂ matches_of whole words)) (found_plain a b d p q r))
    c.try_get_matches_from.ensures.matches
