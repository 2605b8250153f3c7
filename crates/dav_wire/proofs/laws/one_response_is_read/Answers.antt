use Rattle.dav_wire.proofs.ResponseStream.{one_read}
use Rattle.dav_wire.proofs.laws.one_response_is_read.Goals as goal

pub returns : goal.returns
returns c = one_read
