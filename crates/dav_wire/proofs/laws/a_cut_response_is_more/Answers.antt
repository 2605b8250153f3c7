use Rattle.dav_wire.proofs.ResponseStream.{cut_is_more}
use Rattle.dav_wire.proofs.laws.a_cut_response_is_more.Goals as goal

pub returns : goal.returns
returns c = cut_is_more
