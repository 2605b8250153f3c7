use Rattle.law_exclusion.proofs.Example.{honest, locks, sync, timely, upgrade, versions}
use Rattle.law_exclusion.proofs.laws.can_upgrade_between_syncs.Goals as goal

pub returns : goal.returns
returns c = record {
  honest = honest;
  timely = timely;
  locks = locks;
  versions = versions;
  upgrade = upgrade;
  sync = sync;
}
