use Rattle.std.proofs.Common.{◌≡◌, drop}
use Rattle.jop_outside.specs.Plan.{fate_of}
use Rattle.jop_outside.proofs.plan.fate_of.Given as goal

abbrev pub invariant-loop-nth : goal.invariant-loop-nth
invariant-loop-nth l =
    fate_of l.fn.failing l.fn.number ≡ fate_of (drop l.nth-index l.fn.failing) l.fn.number
