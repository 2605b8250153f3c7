use Rattle.std.proofs.Common.{ℕ, List, arith, map, sym, subst, take}
use Rattle.std.proofs.lemmas.List.{take_all, take_more}
use Rattle.call_log.specs.Agreeing.{LeadsOn}
use Rattle.call_log.proofs.Leading.{HasLed, led_more}
use Rattle.call_log.proofs.ways.go_on.Goals as goal

pub loop-way-preserved : goal.loop-way-preserved
loop-way-preserved c =
    let leads = LeadsOn (map (λ e. e.now) c.args.answers.now) c.args.event.now in
    subst (λ (ws : List ℕ). HasLed leads ws c.add_next.new.next.items)
    (sym (take_more c.args.ways.now c.loop-way.way-index 0 (omega (arith, c.loop-way-test.true))))
    (led_more leads (take c.loop-way.way-index c.args.ways.now) _ _ _ c.loop-way.invariant c.in_ok-add_next.ensures)

pub returns : goal.returns
returns c =
    let leads = LeadsOn (map (λ e. e.now) c.args.answers.now) c.args.event.now in
    subst (λ (ws : List ℕ). HasLed leads ws c.loop-way.next.items)
    (take_all c.loop-way.way-index c.args.ways.now (omega (arith, c.loop-way-test.false)))
    c.loop-way.invariant
