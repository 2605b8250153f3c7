use Rattle.item_text.proofs.Answered.{fault_bytes}
use Rattle.item_text.proofs.canonical.canonical_parts.Goals as goal

pub returns-in-Err : goal.returns-in-Err
returns-in-Err c = rw c.not_text.ensures (fault_bytes c.args.bytes.now c.in-Err.ensures.cases.0)
