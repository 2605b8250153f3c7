use Rattle.lease.proofs.Joins.{keeps_apart}
use Rattle.lease.proofs.Law.{apart_in}
use Rattle.lease.proofs.laws.held_apart.Goals as goal

pub returns : goal.returns
returns c = record { apart = apart_in; joined = keeps_apart }
