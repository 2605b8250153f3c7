use Rattle.std.proofs.Common.{refl}
use Rattle.reply_reader.proofs.Steps.{front_joins, front_goes}
use Rattle.reply_reader.proofs.layout_reader.LayoutReader.take_front.Goals as goal

pub returns-in-Front-clause-goes : goal.returns-in-Front-clause-goes
returns-in-Front-clause-goes c = λ one half.
    front_joins c.args.self.now c.args.end.now one.0 c.requires.place one.1 one.2 half
    c.append.new.self c.as_slice.result.now c.in_ok-append.ensures.ok c.as_slice.ensures
    c.in-Front.ensures

pub returns-in_default : goal.returns-in_default
returns-in_default c = record {
  goes = λ one half.
      front_goes c.args.self.now c.args.end.now one.0 c.requires.place one.1 one.2 half
      c.append.new.self c.as_slice.result.now c.new.result c.front_of.result
      c.in_ok-append.ensures.ok c.as_slice.ensures c.new.ensures c.front_of.ensures
      c.in_default.not-Front;
  dir = refl;
}
