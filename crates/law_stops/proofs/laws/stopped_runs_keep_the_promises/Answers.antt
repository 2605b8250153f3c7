use Rattle.law_stops.proofs.laws.stopped_runs_keep_the_promises.Goals as goal

pub returns : goal.returns
returns c = record {
  apart = λ client trail cut left keeps.
      c.held_apart.ensures.joined client cut
      (c.stopped_runs_obey.ensures.locks client trail cut left keeps);
  exclusive = λ client trail cut left keeps versions.
      c.exclusive.ensures.joined client cut
      (c.stopped_runs_obey.ensures.locks client trail cut left keeps)
      (c.stopped_runs_obey.ensures.versions client trail cut left versions);
  kept = λ client s t trail cut made kept left obeys.
      c.notes_are_kept_by_tables.ensures.joined client s t cut kept
      (c.stopped_runs_obey.ensures.licensed _ trail cut made kept left obeys);
}
