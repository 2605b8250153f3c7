use Rattle.delta.proofs.Pages.{fetches}
use Rattle.delta.proofs.laws.fetches_once.Goals as goal

pub returns : goal.returns
returns c = fetches
