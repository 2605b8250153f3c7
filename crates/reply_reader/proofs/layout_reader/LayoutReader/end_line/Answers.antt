use Rattle.std.proofs.Common.{refl}
use Rattle.reply_reader.proofs.Steps.{line_filed, line_last, line_lost}
use Rattle.reply_reader.proofs.layout_reader.LayoutReader.end_line.Goals as goal

pub returns-in_ok-keep-in-File-clause-goes : goal.returns-in_ok-keep-in-File-clause-goes
returns-in_ok-keep-in-File-clause-goes c = λ one empty.
    line_filed c.args.self.now c.args.line.now one.0 c.requires.place empty one.1 one.2
    c.keep.new.self c.read_line.result c.read_line.ensures c.in-File.entry c.in-File.is
    c.in_ok-keep-in-File.ensures.keeps

pub returns-in-Last-clause-goes : goal.returns-in-Last-clause-goes
returns-in-Last-clause-goes c = λ one empty.
    line_last c.args.self.now c.args.line.now one.0 c.requires.place empty one.1 one.2 _
    c.read_line.result c.read_line.ensures c.in-Last.is refl

pub returns-in-Other-clause-goes : goal.returns-in-Other-clause-goes
returns-in-Other-clause-goes c = λ one empty.
    line_lost c.args.self.now c.args.line.now one.0 c.requires.place empty one.1 one.2 _
    c.read_line.result c.read_line.ensures c.in-Other.is refl
