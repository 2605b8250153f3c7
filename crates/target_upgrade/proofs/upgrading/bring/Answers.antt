use Rattle.target_upgrade.proofs.Made.{goes_nowhere}
use Rattle.target_upgrade.proofs.upgrading.bring.Goals as goal

pub returns-in_default-clause-goes : goal.returns-in_default-clause-goes
returns-in_default-clause-goes g c = goes_nowhere _ _ _ c.requires.stands
