use Rattle.std.proofs.Common.{◌∙◌, sym, map}
use Rattle.std.proofs.lemmas.Bool.{false≢true}
use Rattle.run_premises.specs.Steps.{history_step}
use Rattle.run_premises.proofs.Standing.{here_mapped}
use Rattle.run_premises.proofs.Linked.{gap_some, no_gap, some_gap}
use Rattle.run_premises.proofs.gap.is_gap_at.Goals as goal

pub returns-in-Some : goal.returns-in-Some
returns-in-Some c =
    let here = here_mapped c.args.steps.now c.args.put c.index-steps-put.result c.requires c.index-steps-put.is in
    let puts = sym c.uploaded_item.ensures ∙ c.in-Some.is in
    let ss = map history_step c.args.steps.now in (
      λ e. some_gap ss c.args.put (history_step c.index-steps-put.result) c.in-Some.id here puts
          (c.is_crossed.ensures.0 e),
      λ g. c.is_crossed.ensures.1
          (gap_some ss c.args.put (history_step c.index-steps-put.result) c.in-Some.id here puts g),
    )

pub returns-in-None : goal.returns-in-None
returns-in-None c =
    let here = here_mapped c.args.steps.now c.args.put c.index-steps-put.result c.requires c.index-steps-put.is in
    let none = sym c.uploaded_item.ensures ∙ c.in-None.is in (
      λ e. absurd (false≢true e),
      λ g. absurd (no_gap (map history_step c.args.steps.now) c.args.put
          (history_step c.index-steps-put.result) here none g),
    )
