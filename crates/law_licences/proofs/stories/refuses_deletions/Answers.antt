use Rattle.law_licences.proofs.Breaking.{delete-nothing, delete-blob, undone, failed-delete, half}
use Rattle.law_licences.proofs.stories.refuses_deletions.Goals as goal

pub returns : goal.returns
returns c = record {
  nothing = delete-nothing;
  blob = delete-blob;
  undone = undone;
  failed = failed-delete;
  half = half;
}
