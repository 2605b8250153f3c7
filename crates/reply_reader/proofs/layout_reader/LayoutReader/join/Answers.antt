use Rattle.std.proofs.Common.{arith}
use Rattle.reply_reader.proofs.Steps.{part_joins, part_lost}
use Rattle.reply_reader.proofs.layout_reader.LayoutReader.join.Goals as goal

pub returns-then-part-saturating_sub-clause-goes : goal.returns-then-part-saturating_sub-clause-goes
returns-then-part-saturating_sub-clause-goes c = λ takes feeds half.
    part_lost c.args.self.now c.args.part.now c.new.result takes c.new.ensures feeds
    (omega (arith, c.if-part-saturating_sub.true, c.saturating_sub.ensures, c.len.ensures)) half

pub returns-clause-goes : goal.returns-clause-goes
returns-clause-goes c = λ takes feeds half.
    part_joins c.args.self.now c.args.part.now c.append.new.self takes c.in_ok-append.ensures.ok feeds
    (omega (arith, c.if-part-saturating_sub.false, c.saturating_sub.ensures, c.len.ensures)) half
