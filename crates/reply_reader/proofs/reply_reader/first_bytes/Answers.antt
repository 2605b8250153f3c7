use Rattle.std.proofs.Common.{sym, arith}
use Rattle.std.proofs.lemmas.List.{take_all}
use Rattle.reply_reader.proofs.reply_reader.first_bytes.Goals as goal

pub returns-then-piece-room : goal.returns-then-piece-room
returns-then-piece-room c = sym (take_all c.args.room c.args.piece.now (omega arith))
