use Rattle.jed_format.proofs.Ids.{passing-is_id}
use Rattle.jed_format.proofs.header.read_id.Goals as goal

pub returns : goal.returns
returns c = passing-is_id _ c.read.result c.read.ensures.some c.read.ensures.none
