use Rattle.law_licences.proofs.Told.{calls-view_from, deeds_of-events_of, tables-view_from}
use Rattle.law_licences.proofs.laws.work_is_told.Goals as goal

pub returns : goal.returns
returns c = record {
  deeds = deeds_of-events_of;
  calls = calls-view_from;
  tables = tables-view_from;
}
