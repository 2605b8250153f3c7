use Rattle.law_kept.proofs.Told.{conflict_fair, conflict_copied, lost_answer_fair}
use Rattle.law_kept.proofs.laws.clients_can_cross.Goals as goal

pub returns : goal.returns
returns c =
    record { conflict = conflict_fair; copied = conflict_copied; lost_answer = lost_answer_fair }
