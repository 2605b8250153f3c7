use Rattle.std.proofs.Common.{sym, subst}
use Rattle.new_keys.proofs.Active.{new_valid}
use Rattle.sync_info.specs.Info.{IsInfo}
use Rattle.new_keys.proofs.infos.with_new_key.Goals as goal

pub returns-clause-valid : goal.returns-clause-valid
returns-clause-valid c =
    subst IsInfo (sym c.in_ok-made.ensures)
    (rw (c.in_ok-push.ensures.ok, c.in_ok-keys.ensures, c.as_slice.ensures)
    (new_valid c.args.info.now c.args.key c.args.now c.requires.info c.requires.key c.requires.time))
