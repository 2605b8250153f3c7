use Rattle.law_kept.proofs.Accounts.{is_kept}
use Rattle.law_kept.proofs.laws.notes_are_kept.Goals as goal

pub returns : goal.returns
returns c = is_kept
