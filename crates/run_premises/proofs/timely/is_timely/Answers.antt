use Rattle.std.proofs.Common.{◌∙◌, sym, refl}
use Rattle.std.proofs.lemmas.Bool.{false≢true}
use Rattle.run_premises.specs.Steps.{run_history}
use Rattle.run_premises.proofs.Standing.{all_timely, of_client, timely_clients}
use Rattle.run_premises.proofs.timely.is_timely.Goals as goal

pub returns-then-not-is_timely_for : goal.returns-then-not-is_timely_for
returns-then-not-is_timely_for c = λ tree. (
  λ e. absurd (false≢true e),
  λ timely. absurd (false≢true (sym c.if-not-is_timely_for.true ∙ (c.is_timely_for.ensures tree).1
      (of_client (run_history tree c.args.steps.now) c.index-clients-index.result timely))),
)

pub loop-index-preserved : goal.loop-index-preserved
loop-index-preserved c = λ tree.
    timely_clients (run_history tree c.args.steps.now) c.args.clients.now c.loop-index.index
    c.index-clients-index.result c.index-clients-index.is c.loop-index-test.true
    (c.loop-index.invariant tree)
    ((c.is_timely_for.ensures tree).0 c.if-not-is_timely_for.false)

pub returns : goal.returns
returns c = λ tree. (
  λ e. all_timely tree c.args.clients.now c.args.steps.now c.loop-index.index c.requires
      c.loop-index-test.false (c.loop-index.invariant tree),
  λ t. refl,
)
