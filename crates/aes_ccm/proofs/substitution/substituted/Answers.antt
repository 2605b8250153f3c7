use Rattle.std.proofs.Common.{arith}
use Rattle.aes_ccm.proofs.Bytes.{substitutes}
use Rattle.aes_ccm.proofs.substitution.substituted.Goals as goal

pub returns : goal.returns
returns c = substitutes c.args.byte (omega arith)
