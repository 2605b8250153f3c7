use Rattle.reply_reader.proofs.Steps.{ended_step, line_some, lost_step}
use Rattle.reply_reader.proofs.layout_reader.LayoutReader.take_line.Goals as goal

pub returns-in-Ended-clause-goes : goal.returns-in-Ended-clause-goes
returns-in-Ended-clause-goes c = λ one half.
    ended_step c.args.self.now c.args.end.now c.in-Ended.is
    (line_some c.args.end.now one.0 one.1) half

pub returns-in-Lost-clause-goes : goal.returns-in-Lost-clause-goes
returns-in-Lost-clause-goes c = λ one half.
    lost_step c.args.self.now c.args.end.now c.in-Lost.is half
