use Rattle.dav_wire.proofs.ToldLemmas.{no_failure, blob_length}
use Rattle.dav_wire.proofs.laws.a_read_reply_is_told_whole.Goals as goal

pub returns-clause-failed : goal.returns-clause-failed
returns-clause-failed c = no_failure

pub returns-clause-blob : goal.returns-clause-blob
returns-clause-blob c = blob_length
