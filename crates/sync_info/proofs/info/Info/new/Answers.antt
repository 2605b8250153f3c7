use Rattle.sync_info.proofs.KeptLemmas.{IsInfo-new_info}
use Rattle.sync_info.proofs.info.Info.new.Goals as goal

pub returns-clause-valid : goal.returns-clause-valid
returns-clause-valid c =
    rw (c.new.ensures, c.new-2.ensures, c.new-3.ensures)
    (IsInfo-new_info c.args.version c.ranges.version.fits)
