use Rattle.std.proofs.Common.{◌∙◌, ap, sym, refl, arith, map, take}
use Rattle.std.proofs.lemmas.Bool.{false≢true}
use Rattle.jop_target.specs.History.{part_of}
use Rattle.lease.specs.Discipline.{Session, outside, session_from}
use Rattle.run_premises.specs.Seen.{seen_phase}
use Rattle.run_premises.specs.Steps.{run_history, history_step}
use Rattle.run_premises.proofs.Standing.{all_in_time, here_mapped, in_time, not_in_time, session_next, timely_next}
use Rattle.run_premises.proofs.timely.is_timely_for.Goals as goal

pub loop-index-init : goal.loop-index-init
loop-index-init c = record {
  phase = unfold session_from in refl;
  timely = λ tree place lt kind stamp write holds. absurd (omega (arith, lt));
}

pub returns-then-is_late_by : goal.returns-then-is_late_by
returns-then-is_late_by c = λ tree.
    let here = here_mapped c.args.steps.now c.loop-index.index c.index-steps-index.result
    c.loop-index-test.true c.index-steps-index.is in (
      λ e. absurd (false≢true e),
      λ timely. absurd (not_in_time (run_history tree c.args.steps.now) c.args.client.now c.loop-index.phase
          c.loop-index.index (history_step c.index-steps-index.result) here c.loop-index.invariant.phase
          (sym c.is_late_by.ensures ∙ c.if-is_late_by.true) (timely c.loop-index.index)),
    )

pub loop-index-preserved : goal.loop-index-preserved
loop-index-preserved c =
    let client = c.args.client.now in
    let steps = map history_step c.args.steps.now in
    let here = here_mapped c.args.steps.now c.loop-index.index c.index-steps-index.result
    c.loop-index-test.true c.index-steps-index.is in
    let again = here_mapped c.args.steps.now c.loop-index.index c.index-steps-index-in-loop-index.result
    c.loop-index-test.true c.index-steps-index-in-loop-index.is in
    record {
      phase =
          c.phase_beside-phase.ensures
          (session_from client outside (part_of client (take c.loop-index.index steps)))
          c.loop-index.invariant.phase
          ∙ sym (ap (λ (t : Session). seen_phase client t.phase)
          (session_next client steps c.loop-index.index (history_step c.index-steps-index-in-loop-index.result) again));
      timely = λ tree.
          timely_next (run_history tree c.args.steps.now) client c.loop-index.index
          (c.loop-index.invariant.timely tree)
          (in_time (run_history tree c.args.steps.now) client c.loop-index.phase c.loop-index.index
          (history_step c.index-steps-index.result) here c.loop-index.invariant.phase
          (sym c.is_late_by.ensures ∙ c.if-is_late_by.false));
    }

pub returns : goal.returns
returns c = λ tree. (
  λ e. all_in_time tree c.args.client.now c.args.steps.now c.loop-index.index c.loop-index-test.false
      (c.loop-index.invariant.timely tree),
  λ t. refl,
)
