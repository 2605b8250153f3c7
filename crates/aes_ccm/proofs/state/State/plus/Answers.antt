use Rattle.aes_ccm.proofs.States.{state_sum}
use Rattle.aes_ccm.proofs.state.State.plus.Goals as goal

pub returns : goal.returns
returns c = rw (← c.self.view_is, ← c.other.view_is) (state_sum c.self.inside c.other.inside)
