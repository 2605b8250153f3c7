use Rattle.reply_reader.proofs.Steps.{finished, unfinished}
use Rattle.reply_reader.proofs.layout_reader.LayoutReader.finish.Goals as goal

pub returns-in-Ended : goal.returns-in-Ended
returns-in-Ended c = λ done at. finished c.args.self done at c.in-Ended.is

pub returns-in_default : goal.returns-in_default
returns-in_default c = λ done at entries h.
    unfinished c.args.self done at c.in_default.not-Ended entries h
