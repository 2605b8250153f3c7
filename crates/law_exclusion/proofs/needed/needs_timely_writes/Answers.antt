use Rattle.law_exclusion.proofs.Histories.{honest_late, locks_late, versions_late, broken_late}
use Rattle.law_exclusion.proofs.needed.needs_timely_writes.Goals as goal

pub returns : goal.returns
returns c = record {
  honest = honest_late;
  locks = locks_late;
  versions = versions_late;
  broken = broken_late;
}
