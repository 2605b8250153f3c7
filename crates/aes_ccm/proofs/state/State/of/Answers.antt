use Rattle.std.proofs.Common.{rules}
use Rattle.aes_ccm.proofs.States.{state_read}
use Rattle.aes_ccm.proofs.state.State.of.Goals as goal

pub returns : goal.returns
returns c =
    state_read c.args.block _ _ _ _ (search rules) (search rules)
    c.from_be_bytes.ensures c.from_be_bytes-2.ensures c.from_be_bytes-3.ensures c.from_be_bytes-4.ensures
