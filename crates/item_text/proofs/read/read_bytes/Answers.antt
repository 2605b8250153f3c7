use Rattle.item_text.specs.Answers.{ReadsOrRefuses}
use Rattle.item_text.proofs.Answered.{fault_bytes}
use Rattle.item_text.proofs.read.read_bytes.Goals as goal

pub returns-in-Err : goal.returns-in-Err
unfolding ReadsOrRefuses
returns-in-Err c = rw c.not_text.ensures (fault_bytes c.args.bytes.now c.in-Err.ensures.cases.0)
