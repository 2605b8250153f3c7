use Rattle.std.proofs.Common.{◌≡◌, ◌<◌, length, arith}
use Rattle.std.proofs.lemmas.Bool.Decides.{nat_tests}
use Rattle.std.proofs.lemmas.List.{nil_from_length}
use Rattle.reply_reader.proofs.Steps.{ended_step, lost_step, same_step}
use Rattle.reply_reader.proofs.layout_reader.LayoutReader.take_part.Goals as goal

pub returns-then-is_empty-clause-goes : goal.returns-then-is_empty-clause-goes
returns-then-is_empty-clause-goes c = λ feeds half.
    let part = c.args.part.now in
    let none : length part ≡ 0 = grind (arith, nat_tests, c.is_empty.ensures, c.if-is_empty.true) in
    same_step c.args.self.now part (nil_from_length part none) half

pub returns-in-Ended-clause-goes : goal.returns-in-Ended-clause-goes
returns-in-Ended-clause-goes c = λ feeds half.
    let part = c.args.part.now in
    let some : 0 < length part = grind (arith, nat_tests, c.is_empty.ensures, c.if-is_empty.false) in
    ended_step c.args.self.now part c.in-Ended.is some half

pub returns-in-Lost-clause-goes : goal.returns-in-Lost-clause-goes
returns-in-Lost-clause-goes c = λ feeds half.
    lost_step c.args.self.now c.args.part.now c.in-Lost.is half
