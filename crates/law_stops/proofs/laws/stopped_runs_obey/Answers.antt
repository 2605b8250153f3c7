use Rattle.law_stops.proofs.Ends.{data-cut, locks-cut, merging-cut, some-cut, versions-cut}
use Rattle.law_stops.proofs.laws.stopped_runs_obey.Goals as goal

pub returns : goal.returns
returns c = record {
  locks = locks-cut;
  versions = versions-cut;
  licensed = data-cut;
  by_some = some-cut;
  merging = merging-cut;
}
