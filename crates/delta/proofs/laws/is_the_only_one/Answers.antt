use Rattle.delta.proofs.Pages.{one-page}
use Rattle.delta.proofs.laws.is_the_only_one.Goals as goal

pub returns : goal.returns
returns c = one-page
