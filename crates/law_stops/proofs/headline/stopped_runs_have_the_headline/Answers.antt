use Rattle.law_stops.proofs.Stopped.{stopped}
use Rattle.law_stops.proofs.headline.stopped_runs_have_the_headline.Goals as goal

pub returns : goal.returns
returns c =
    stopped (record {
      exclusive = c.stopped_runs_keep_the_promises.ensures.exclusive;
      kept = c.stopped_runs_keep_the_promises.ensures.kept;
    })
