use Rattle.std.proofs.Common.{arith}
use Rattle.jed_format.proofs.Chunks.{piece_found}
use Rattle.jed_format.proofs.jed_reader.piece_in.Goals as goal

pub returns-in-Some-clause-piece : goal.returns-in-Some-clause-piece
returns-in-Some-clause-piece c = piece_found c.args.body.now c.in-Some.len c.in-Some.ensures.number (omega arith)
