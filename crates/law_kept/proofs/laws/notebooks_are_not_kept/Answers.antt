use Rattle.law_kept.proofs.Told.{notebook_fair, notebook_lost}
use Rattle.law_kept.proofs.laws.notebooks_are_not_kept.Goals as goal

pub returns : goal.returns
returns c = record { fair = notebook_fair; lost = notebook_lost }
