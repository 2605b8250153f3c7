use Rattle.dav_wire.proofs.ResponseStream.{whole_stays, bad_stays}
use Rattle.dav_wire.proofs.laws.later_bytes_change_no_response.Goals as goal

pub returns-clause-whole : goal.returns-clause-whole
returns-clause-whole c = whole_stays

pub returns-clause-bad : goal.returns-clause-bad
returns-clause-bad c = bad_stays
