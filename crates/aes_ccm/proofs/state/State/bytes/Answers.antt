use Rattle.std.proofs.Common.{◌∙◌}
use Rattle.aes_ccm.proofs.States.{state_bytes}
use Rattle.aes_ccm.proofs.state.State.bytes.Goals as goal

pub returns : goal.returns
returns c =
    state_bytes c.self.inside _ _ _ _ c.to_be_bytes.ensures c.to_be_bytes-2.ensures c.to_be_bytes-3.ensures c.to_be_bytes-4.ensures
    ∙ c.self.view_is
