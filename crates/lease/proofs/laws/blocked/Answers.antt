use Rattle.lease.proofs.Named.{named}
use Rattle.lease.proofs.Shown.{stood}
use Rattle.lease.proofs.laws.blocked.Goals as goal

pub returns : goal.returns
returns c = record { stood = stood; named = named }
