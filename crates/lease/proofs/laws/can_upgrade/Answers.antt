use Rattle.lease.proofs.Example.{honest, timely, keep, upgrade}
use Rattle.lease.proofs.laws.can_upgrade.Goals as goal

pub returns : goal.returns
returns c = record { honest = honest; timely = timely; keep = keep; upgrade = upgrade }
