use Rattle.dav_listing.proofs.Responses.{written_is_read}
use Rattle.dav_listing.proofs.laws.a_written_multistatus_is_read.Goals as goal

pub returns : goal.returns
returns c = written_is_read
