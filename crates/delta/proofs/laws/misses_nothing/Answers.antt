use Rattle.delta.proofs.Pages.{misses}
use Rattle.delta.proofs.laws.misses_nothing.Goals as goal

pub returns : goal.returns
returns c = misses
