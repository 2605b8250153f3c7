use Rattle.std.proofs.Common.{List, ℕ, ◌++◌, ap, arith}
use Rattle.jed_text.proofs.UnescapeSteps.{unit_skipped, unit_taken}
use Rattle.jed_text.proofs.unescaping.unescape_one.Goals as goal

pub returns-then-skipped-gt0 : goal.returns-then-skipped-gt0
returns-then-skipped-gt0 c =
    ap (λ (us : List ℕ). c.args.out.now.items ++ us) (unit_skipped c.args.unit c.args.skipped c.args.units.now (omega arith))

pub returns : goal.returns
returns c =
    unit_taken c.args.out.now.items _ c.args.units.now c.args.unit c.args.skipped _ _ (omega arith)
    (ap (λ p. p.0) c.taken-unit.ensures) (ap (λ p. p.1) c.taken-unit.ensures) c.in_ok-push.ensures.items
