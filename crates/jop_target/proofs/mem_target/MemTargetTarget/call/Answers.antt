use Rattle.std.proofs.Common.{◌≡◌, ◌≤◌, ◌∙◌, ap, arith}
use Rattle.jop_outside.specs.Plan.{next_fate}
use Rattle.jop_target.specs.Memory.{Memory, faults_after}
use Rattle.jop_target.proofs.Calls.{has_cause}
use Rattle.jop_target.proofs.mem_target.MemTargetTarget.call.Goals as goal

pub returns-clause-cause : goal.returns-clause-cause
returns-clause-cause c =
    let old = c.args.self.now in
    let landed = c.in_ok-land.ensures.ok in
    let later : old.faults ≤ c.count_call.new.self.faults =
    omega (arith, ap (λ (m : Memory). m.faults) landed, c.count_call.ensures.later) in
    let fate = next_fate old.store.plan in
    let counted : c.count_call.new.self.faults ≡ faults_after fate old.faults =
    ap (λ (m : Memory). m.faults) c.count_call.ensures.count
    ∙ ap (λ (m : Memory). faults_after (next_fate m.store.plan) m.faults) landed in
    rw c.in_ok-reply.ensures.reply (has_cause old.store c.args.call.now _ _ later counted)
