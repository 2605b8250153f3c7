use Rattle.law_exclusion.proofs.Histories.{honest_put, honest_deleted, timely_put, timely_deleted, locks_put, locks_deleted, broken_put, broken_deleted}
use Rattle.law_exclusion.proofs.needed.needs_the_version_to_be_kept.Goals as goal

pub returns : goal.returns
returns c = record {
  honest = (honest_put, honest_deleted);
  timely = (timely_put, timely_deleted);
  locks = (locks_put, locks_deleted);
  broken = (broken_put, broken_deleted);
}
