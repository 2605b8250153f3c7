use Rattle.law_licences.proofs.Joins.{Each-append}
use Rattle.law_licences.proofs.Keyed.{by_some, by_some_keyed}
use Rattle.law_licences.specs.Licences.{MayDoBySome}
use Rattle.law_licences.proofs.laws.keys_are_a_sessions_own.Goals as goal

pub returns : goal.returns
returns c = record { some = by_some; joined = Each-append MayDoBySome; any = by_some_keyed }
