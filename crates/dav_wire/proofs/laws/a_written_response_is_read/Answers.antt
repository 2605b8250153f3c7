use Rattle.dav_wire.proofs.ResponseReadBack.{written_is_read}
use Rattle.dav_wire.proofs.laws.a_written_response_is_read.Goals as goal

pub returns : goal.returns
returns c = written_is_read
