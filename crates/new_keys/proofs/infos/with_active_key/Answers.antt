use Rattle.std.proofs.Common.{sym, subst}
use Rattle.new_keys.proofs.Active.{active_valid}
use Rattle.sync_info.specs.Info.{IsInfo}
use Rattle.new_keys.proofs.infos.with_active_key.Goals as goal

pub returns-clause-valid : goal.returns-clause-valid
returns-clause-valid c =
    subst IsInfo (sym c.in_ok-made.ensures)
    (rw c.in_ok-keys.ensures
    (active_valid c.args.info.now c.args.id.now c.args.now c.requires.info c.prove_valid.ensures c.requires.time))
