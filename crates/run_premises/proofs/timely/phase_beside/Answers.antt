use Rattle.std.proofs.Common.{◌∙◌, ap, sym}
use Rattle.lease.specs.Discipline.{Session}
use Rattle.run_premises.specs.Seen.{seen_phase}
use Rattle.run_premises.proofs.Standing.{beside_own, beside_other}
use Rattle.run_premises.proofs.timely.phase_beside.Goals as goal

pub returns-then-eq : goal.returns-then-eq
returns-then-eq c = λ s is.
    c.phase_by.ensures s is
    ∙ sym (ap (λ (t : Session). seen_phase c.args.client.now t.phase)
    (beside_own c.args.client.now c.args.step.now.client.now c.args.step.now.event.now
    c.args.step.now.landed s (sym c.eq.ensures ∙ c.if-eq.true)))

pub returns-else-eq : goal.returns-else-eq
returns-else-eq c = λ s is.
    is
    ∙ sym (ap (λ (t : Session). seen_phase c.args.client.now t.phase)
    (beside_other c.args.client.now c.args.step.now.client.now c.args.step.now.event.now
    c.args.step.now.landed s (sym c.eq.ensures ∙ c.if-eq.false)))
