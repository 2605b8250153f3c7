use Rattle.law_licences.proofs.Obeying.{upload, deletion, conflict, loss, reading, sealed-upload, sealed-conflict, opened}
use Rattle.law_licences.proofs.stories.can_obey.Goals as goal

pub returns : goal.returns
returns c = record {
  upload = upload;
  deletion = deletion;
  conflict = conflict;
  loss = loss;
  page = reading;
  sealed_upload = sealed-upload;
  sealed_conflict = sealed-conflict;
  opening = opened;
}
