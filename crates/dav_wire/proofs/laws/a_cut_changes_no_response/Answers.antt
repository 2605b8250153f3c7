use Rattle.dav_wire.proofs.ResponseStream.{cut_reads}
use Rattle.dav_wire.proofs.laws.a_cut_changes_no_response.Goals as goal

pub returns : goal.returns
returns c = cut_reads
