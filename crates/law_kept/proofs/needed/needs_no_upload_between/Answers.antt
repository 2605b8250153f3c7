use Rattle.law_kept.proofs.Told.{crossed}
use Rattle.law_kept.proofs.needed.needs_no_upload_between.Goals as goal

pub returns : goal.returns
returns c = crossed
