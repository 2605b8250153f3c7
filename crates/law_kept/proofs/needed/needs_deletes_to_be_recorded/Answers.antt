use Rattle.law_kept.proofs.Told.{unasked_delete}
use Rattle.law_kept.proofs.needed.needs_deletes_to_be_recorded.Goals as goal

pub returns : goal.returns
returns c = unasked_delete
