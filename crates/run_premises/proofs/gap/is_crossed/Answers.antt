use Rattle.std.proofs.Common.{◌≡◌, ◌∙◌, ◌↔◌, ◌-◌, Bool, true, arith, sym, subst, map, Some, slice_get}
use Rattle.std.proofs.lemmas.Bool.{false≢true}
use Rattle.run_premises.specs.Between.{IsCrossedAt, turns_for}
use Rattle.run_premises.specs.Steps.{history_step}
use Rattle.run_premises.specs.declared.turn.Turn.{Turn}
use Rattle.run_premises.proofs.Linked.{turn_here}
use Rattle.run_premises.proofs.Walks.{IsWalked, no_check_before, stops, walked_back}
use Rattle.run_premises.proofs.gap.is_crossed.Goals as goal

pub returns-then-is_own_turn : goal.returns-then-is_own_turn
returns-then-is_own_turn c =
    let ts = turns_for c.args.id.now c.args.client.now (map history_step c.args.steps.now) in
    let here : slice_get ts (c.loop-place.place - 1) ≡ Some c.step_turn-turn.result =
    subst (λ (t : Turn). slice_get ts (c.loop-place.place - 1) ≡ Some t) (sym c.step_turn-turn.ensures)
    (turn_here c.args.id.now c.args.client.now c.args.steps.now (c.loop-place.place - 1)
    c.index-steps-place.result
    (let a = c.loop-place-test.true in let b = c.loop-place.auto.place in let d = c.requires in
    omega (arith, a, b, d))
    c.index-steps-place.is) in
    subst (λ (b : Bool). (b ≡ true) ↔ IsCrossedAt ts c.args.put) (sym c.is_crossed_check.ensures)
    (stops ts c.args.put c.loop-place.place c.loop-place.crossed c.step_turn-turn.result c.loop-place-test.true
    c.loop-place.auto.place here (sym c.is_own_turn.ensures ∙ c.if-is_own_turn.true) c.loop-place.invariant)

pub loop-place-preserved : goal.loop-place-preserved
loop-place-preserved c =
    let ts = turns_for c.args.id.now c.args.client.now (map history_step c.args.steps.now) in
    let here : slice_get ts (c.loop-place.place - 1) ≡ Some c.step_turn-turn.result =
    subst (λ (t : Turn). slice_get ts (c.loop-place.place - 1) ≡ Some t) (sym c.step_turn-turn.ensures)
    (turn_here c.args.id.now c.args.client.now c.args.steps.now (c.loop-place.place - 1)
    c.index-steps-place.result
    (let a = c.loop-place-test.true in let b = c.loop-place.auto.place in let d = c.requires in
    omega (arith, a, b, d))
    c.index-steps-place.is) in
    subst (λ (b : Bool). IsWalked ts c.args.put (c.loop-place.place - 1) b) (sym c.is_crossed_by-crossed.ensures)
    (walked_back ts c.args.put c.loop-place.place c.loop-place.crossed c.step_turn-turn.result
    c.loop-place-test.true c.loop-place.auto.place here (sym c.is_own_turn.ensures ∙ c.if-is_own_turn.false)
    c.loop-place.invariant)

pub returns : goal.returns
returns c = (
  λ e. absurd (false≢true e),
  λ g. absurd (no_check_before _ c.args.put c.loop-place.place c.loop-place.crossed c.loop-place-test.false
      c.loop-place.invariant g),
)
