use Rattle.law_kept.proofs.Told.{unheard_upload}
use Rattle.law_kept.proofs.needed.needs_uploads_to_be_heard.Goals as goal

pub returns : goal.returns
returns c = unheard_upload
