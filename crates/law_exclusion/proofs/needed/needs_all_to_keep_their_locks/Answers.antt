use Rattle.law_exclusion.proofs.Histories.{honest_past, timely_past, versions_past, broken_past}
use Rattle.law_exclusion.proofs.needed.needs_all_to_keep_their_locks.Goals as goal

pub returns : goal.returns
returns c = record {
  honest = honest_past;
  timely = timely_past;
  versions = versions_past;
  broken = broken_past;
}
