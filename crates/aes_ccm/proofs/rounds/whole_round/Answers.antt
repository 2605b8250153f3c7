use Rattle.std.proofs.Common.{List, ℕ, ap, ◌∙◌}
use Rattle.aes_ccm.specs.Lists.{xored}
use Rattle.aes_ccm.proofs.rounds.whole_round.Goals as goal

pub returns : goal.returns
returns c = c.plus.ensures ∙ ap (λ (s : List ℕ). xored s c.args.key.now) c.mixed.ensures
