use Rattle.std.proofs.Common.{◌^◌, ◌*◌}
use Rattle.std.proofs.lemmas.Nat.{pow_pos}
use Rattle.aes_ccm.proofs.Params.{rest_is_none}
use Rattle.aes_ccm.proofs.ccm.fits.Goals as goal

pub returns-else-bytes-eq8 : goal.returns-else-bytes-eq8
returns-else-bytes-eq8 c = rest_is_none c.args.len (2 ^ (8 * c.args.bytes)) (pow_pos (8 * c.args.bytes))
