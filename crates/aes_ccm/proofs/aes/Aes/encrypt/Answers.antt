use Rattle.std.proofs.Common.{List, ℕ, ◌≤◌, ap, ◌∙◌, arith}
use Rattle.aes_ccm.specs.Aes.{aes}
use Rattle.aes_ccm.proofs.Enciphered.{enciphered}
use Rattle.aes_ccm.proofs.aes.Aes.encrypt.Goals as goal

pub returns : goal.returns
returns c =
    let some : 1 ≤ c.self.inside.rounds = omega (arith, c.self.invariant.rounds) in
    c.after_rounds.ensures
    ∙ enciphered c.self.inside c.args.block.now c.self.invariant some
    ∙ ap (λ (key : List ℕ). aes key c.args.block.now) c.self.view_is
