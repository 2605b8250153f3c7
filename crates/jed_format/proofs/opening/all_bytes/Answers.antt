use Rattle.std.proofs.Common.{◌++◌, List, ℕ, ap, ◌∙◌, rules, arith}
use Rattle.jed_format.proofs.Joined.{joins_next, joins_refused, joins_all}
use Rattle.jed_format.proofs.opening.all_bytes.Goals as goal

pub returns-in_err-bytes-clause-err : goal.returns-in_err-bytes-clause-err
returns-in_err-bytes-clause-err c =
    let refused = joins_refused c.index-chunks-n.result c.in_err-bytes.field-0.0 c.loop-n.invariant c.loop-n-test.true
    c.index-chunks-n.is c.in_err-bytes.ensures.err in
    search rules

pub loop-n-preserved : goal.loop-n-preserved
loop-n-preserved c =
    joins_next c.index-chunks-n.result c.in_ok-bytes.bytes c.append.new.self c.loop-n.invariant c.loop-n-test.true
    c.index-chunks-n.is c.in_ok-bytes.ensures.ok
    (c.in_ok-append.ensures.ok ∙ ap (λ (xs : List ℕ). c.loop-n.all ++ xs) c.as_slice.ensures)

pub returns-clause-ok : goal.returns-clause-ok
returns-clause-ok c = joins_all c.loop-n.invariant (omega arith)
