use Rattle.reply_reader.specs.Pieces.{TakesMore}
use Rattle.test_dav.proofs.pieces.most_held.Given as goal

-- more may be taken
abbrev pub invariant-loop-byte : goal.invariant-loop-byte
invariant-loop-byte l = TakesMore l.reader.state
