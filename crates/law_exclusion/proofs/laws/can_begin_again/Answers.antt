use Rattle.law_exclusion.proofs.Example.{again, honest_again, locks_again, stopped, timely_again, versions_again}
use Rattle.law_exclusion.proofs.laws.can_begin_again.Goals as goal

pub returns : goal.returns
returns c = record {
  honest = honest_again;
  timely = timely_again;
  locks = locks_again;
  versions = versions_again;
  stopped = stopped;
  again = again;
}
