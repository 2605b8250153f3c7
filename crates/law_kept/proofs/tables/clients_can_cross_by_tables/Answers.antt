use Rattle.law_kept.proofs.Story.{served, all_obey_told, keyless, told_well, run_obeys, run_ends, others_obey}
use Rattle.law_kept.proofs.tables.clients_can_cross_by_tables.Goals as goal

pub returns : goal.returns
returns c = record {
  served = served;
  obey = all_obey_told;
  keyless = keyless;
  told = told_well;
  run = run_obeys;
  ends = run_ends;
  others = others_obey;
}
