use Rattle.sync_info.proofs.Valid.{info_in-info_text}
use Rattle.sync_info.proofs.laws.reads_what_is_written.Goals as goal

pub returns : goal.returns
returns c = info_in-info_text
