use Rattle.lease.specs.Phase.{Leaving}
use Rattle.lease.proofs.Calls.{asks_delete, same_kind-itself}
use Rattle.lease.proofs.Outcomes.{leave_starved}
use Rattle.lease.proofs.leaving.leave.Goals as goal

pub ask-requires : goal.ask-requires
ask-requires g c =
    asks_delete _ _ (Leaving c.args.kind) _ _ c.requires (same_kind-itself c.args.kind)
    c.own_path.ensures

pub returns-in-Err-NoMemory-clause-left : goal.returns-in-Err-NoMemory-clause-left
returns-in-Err-NoMemory-clause-left g c =
    leave_starved _ _ (g.L.Line.state c.args.line.now) (g.L.Line.state c.ask.new.line)
    _ c.own_path.ensures (rw (c.in-Err-NoMemory.field-0-is) at c.in-Err-NoMemory.ensures.err)
