use Rattle.reply_reader.proofs.Saying.{says_of_all}
use Rattle.reply_reader.proofs.laws.fed_pieces_are_read_as_their_bytes.Goals as goal

pub returns : goal.returns
returns c = says_of_all
