use Rattle.law_exclusion.proofs.Histories.{timely_shown, locks_shown, versions_shown, broken_shown}
use Rattle.law_exclusion.proofs.needed.needs_an_honest_store.Goals as goal

pub returns : goal.returns
returns c = record {
  timely = timely_shown;
  locks = locks_shown;
  versions = versions_shown;
  broken = broken_shown;
}
