use Rattle.dav_wire.proofs.RequestUnique.{one_read}
use Rattle.dav_wire.proofs.laws.one_request_is_read.Goals as goal

pub returns : goal.returns
returns c = one_read
