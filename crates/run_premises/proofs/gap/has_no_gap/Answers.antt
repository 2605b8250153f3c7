use Rattle.std.proofs.Common.{refl, map}
use Rattle.std.proofs.lemmas.Bool.{false≢true}
use Rattle.run_premises.specs.Steps.{history_step}
use Rattle.run_premises.proofs.Linked.{gap_from, gap_to, is_before}
use Rattle.run_premises.proofs.gap.has_no_gap.Goals as goal

pub returns-then-is_gap_at : goal.returns-then-is_gap_at
returns-then-is_gap_at c = λ tale same. (
  λ e. absurd (false≢true e),
  λ none.
      let g = c.is_gap_at.ensures.0 c.if-is_gap_at.true in
      absurd (none g.id (gap_to tale (map history_step c.args.steps.now) c.loop-put.put same g)),
)

pub returns : goal.returns
returns c = λ tale same. (
  λ e id g.
      let at = gap_from id tale (map history_step c.args.steps.now) same g in
      c.loop-put.invariant g.put
      (is_before c.args.steps.now g.put c.loop-put.put c.loop-put-test.false at) at,
  λ none. refl,
)
