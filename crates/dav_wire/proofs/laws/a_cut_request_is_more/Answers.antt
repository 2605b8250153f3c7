use Rattle.dav_wire.proofs.RequestStream.{cut_is_more}
use Rattle.dav_wire.proofs.laws.a_cut_request_is_more.Goals as goal

pub returns : goal.returns
returns c = cut_is_more
