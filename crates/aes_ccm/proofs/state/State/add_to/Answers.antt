use Rattle.std.proofs.Common.{◌≡◌, List, ℕ, length, ap, sym, ◌∙◌, rules}
use Rattle.aes_ccm.specs.Lists.{xored}
use Rattle.aes_ccm.proofs.States.{block_added}
use Rattle.aes_ccm.proofs.state.State.add_to.Goals as goal

pub returns : goal.returns
returns c =
    let long : length c.bytes-block.result ≡ 16 = search rules in
    let all : length c.args.self.now ≡ 16 = sym (ap length c.bytes-block.ensures) ∙ long in
    let sum = c.copy_from_slice.ensures.after ∙ c.bytes-sum.ensures ∙ c.plus.ensures
    ∙ ap (λ (part : List ℕ). xored part c.args.self.now) c.at.ensures in
    block_added c.args.text.now c.copy_from_slice.new.self c.args.self.now c.args.place all sum
