use Rattle.std.specs.Prelude.{ℕ, List, ◌≡◌, Option, Some, codes}
use Rattle.std.proofs.Common.{◌∙◌, subst}
use Rattle.keeper_sqlite.specs.Answers.{DatabaseNow, KeyShown}
use Rattle.keeper_sqlite.proofs.reading.meta.Goals as goal

-- what is shown after a call that changes nothing was shown before
shown_before : (key : List ℕ) (value : Option (List ℕ)) (before now : DatabaseNow) → now ≡ before
    → KeyShown now.shows key value → KeyShown before.shows key value
shown_before key value before now same shown =
    subst (λ (d : DatabaseNow). KeyShown d.shows key value) same shown

pub returns-clause-shown : goal.returns-clause-shown
returns-clause-shown g c =
    let first = c.value_at.ensures.same in
    let second = c.value_of.ensures.same ∙ first in
    let third = c.value_of-2.ensures.same ∙ second in
    let fourth = c.value_of-3.ensures.same ∙ third in
    record {
      client = c.in_ok-value_at.ensures.shown;
      next_conflict = shown_before (codes "next_conflict") (Some c.in_ok-value_of.field-0) _ _ first
          c.in_ok-value_of.ensures.shown;
      moment = shown_before (codes "moment") (Some c.in_ok-value_of-2.field-0) _ _ second
          c.in_ok-value_of-2.ensures.shown;
      seen = shown_before (codes "seen") (Some c.in_ok-value_of-3.field-0) _ _ third
          c.in_ok-value_of-3.ensures.shown;
      info = shown_before (codes "info") (Some c.in_ok-value_of-4.field-0) _ _ fourth
          c.in_ok-value_of-4.ensures.shown;
    }
