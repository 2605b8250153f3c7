use Rattle.delta.proofs.Pages.{gone-recorded, gone-unshown}
use Rattle.delta.proofs.laws.absence_alone_deletes_nothing.Goals as goal

pub returns : goal.returns
returns c = record { recorded = gone-recorded; stays = gone-unshown }
