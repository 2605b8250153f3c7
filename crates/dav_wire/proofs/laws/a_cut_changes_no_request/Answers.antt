use Rattle.dav_wire.proofs.RequestUnique.{cut_reads}
use Rattle.dav_wire.proofs.laws.a_cut_changes_no_request.Goals as goal

pub returns : goal.returns
returns c = cut_reads
