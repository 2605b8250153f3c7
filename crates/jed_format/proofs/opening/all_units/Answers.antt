use Rattle.std.proofs.Common.{◌++◌, List, ℕ, ap, ◌∙◌, rules, arith}
use Rattle.jed_format.proofs.Joined.{joins_next, joins_refused, joins_all}
use Rattle.jed_format.proofs.opening.all_units.Goals as goal

pub returns-in_err-units-clause-err : goal.returns-in_err-units-clause-err
returns-in_err-units-clause-err c =
    let refused = joins_refused c.index-chunks-n.result c.in_err-units.field-0.0 c.loop-n.invariant c.loop-n-test.true
    c.index-chunks-n.is c.in_err-units.ensures.err in
    search rules

pub loop-n-preserved : goal.loop-n-preserved
loop-n-preserved c =
    joins_next c.index-chunks-n.result c.in_ok-units.units.items c.extend_from_slice.new.self.items
    c.loop-n.invariant c.loop-n-test.true c.index-chunks-n.is c.in_ok-units.ensures.ok
    (c.in_ok-extend_from_slice.ensures.items
    ∙ ap (λ (xs : List ℕ). c.loop-n.all.items ++ xs) c.deref.ensures.value)

pub returns-clause-ok : goal.returns-clause-ok
returns-clause-ok c = joins_all c.loop-n.invariant (omega arith)
