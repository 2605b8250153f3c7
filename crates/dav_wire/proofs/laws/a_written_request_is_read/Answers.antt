use Rattle.dav_wire.proofs.RequestReadBack.{sent_is_read}
use Rattle.dav_wire.proofs.laws.a_written_request_is_read.Goals as goal

pub returns : goal.returns
returns c = sent_is_read
