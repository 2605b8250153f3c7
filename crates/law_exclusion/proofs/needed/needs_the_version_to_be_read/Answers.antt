use Rattle.law_exclusion.proofs.Histories.{honest_unread, timely_unread, locks_unread, broken_unread}
use Rattle.law_exclusion.proofs.needed.needs_the_version_to_be_read.Goals as goal

pub returns : goal.returns
returns c = record {
  honest = honest_unread;
  timely = timely_unread;
  locks = locks_unread;
  broken = broken_unread;
}
