use Rattle.std.proofs.Common.{sym, refl}
use Rattle.call_log.proofs.Leading.{contains_at}
use Rattle.call_log.proofs.comparing.gap_at.Goals as goal

pub returns-in-Some-clause-some : goal.returns-in-Some-clause-some
returns-in-Some-clause-some c = (contains_at _ _ _ (sym c.in-Some.ensures.value), refl)
