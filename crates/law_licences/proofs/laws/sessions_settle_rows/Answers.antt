use Rattle.law_licences.proofs.Settled.{pending-view_from}
use Rattle.law_licences.proofs.Settling.{settling-view_from}
use Rattle.law_licences.proofs.laws.sessions_settle_rows.Goals as goal

pub returns : goal.returns
returns c = record { calm = pending-view_from; settled = settling-view_from }
