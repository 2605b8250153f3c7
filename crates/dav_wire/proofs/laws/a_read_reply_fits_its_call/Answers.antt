use Rattle.dav_wire.proofs.FitLemmas.{reply_fits}
use Rattle.dav_wire.proofs.laws.a_read_reply_fits_its_call.Goals as goal

pub returns : goal.returns
returns c = reply_fits
