use Rattle.dav_wire.proofs.RequestMissing.{more_while_missing, none_missing, missing_falls}
use Rattle.dav_wire.proofs.laws.missing_bytes_make_a_request.Goals as goal

pub returns-clause-more : goal.returns-clause-more
returns-clause-more c = more_while_missing

pub returns-clause-none : goal.returns-clause-none
returns-clause-none c = none_missing

pub returns-clause-falls : goal.returns-clause-falls
returns-clause-falls c = missing_falls
