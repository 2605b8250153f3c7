use Rattle.law_licences.proofs.Breaking.{copy, needless, base, unchanged-conflict, as-gone, never-there}
use Rattle.law_licences.proofs.stories.refuses_conflicts.Goals as goal

pub returns : goal.returns
returns c = record {
  copy = copy;
  needless = needless;
  base = base;
  unchanged = unchanged-conflict;
  gone = as-gone;
  new = never-there;
}
