use Rattle.std.proofs.Common.{List, ℕ, ◌≤◌, ap, ◌∙◌, arith}
use Rattle.aes_ccm.specs.Aes.{aes}
use Rattle.aes_ccm.proofs.Enciphered.{enciphered}
use Rattle.aes_ccm.proofs.aes.Aes.encrypt_both.Goals as goal

pub returns-clause-one : goal.returns-clause-one
returns-clause-one c =
    let some : 1 ≤ c.self.inside.rounds = omega (arith, c.self.invariant.rounds) in
    c.both_after_rounds.ensures.one
    ∙ enciphered c.self.inside c.args.one.now c.self.invariant some
    ∙ ap (λ (key : List ℕ). aes key c.args.one.now) c.self.view_is

pub returns-clause-other : goal.returns-clause-other
returns-clause-other c =
    let some : 1 ≤ c.self.inside.rounds = omega (arith, c.self.invariant.rounds) in
    c.both_after_rounds.ensures.other
    ∙ enciphered c.self.inside c.args.other.now c.self.invariant some
    ∙ ap (λ (key : List ℕ). aes key c.args.other.now) c.self.view_is
