use Rattle.std.proofs.Common.{List, ℕ, sym, subst}
use Rattle.dav_wire.specs.ResponseReading.{IsUnfinished}
use Rattle.reply_reader.proofs.Counting.{nothing_unfinished}
use Rattle.reply_reader.proofs.reply_reader.ReplyReader.new.Goals as goal

pub returns : goal.returns
returns c = record {
  told = record { asks = c.bare.ensures; stands = (sym c.new.ensures, nothing_unfinished) };
  takes = subst (λ (t : List ℕ). IsUnfinished t) (sym c.new.ensures) nothing_unfinished;
}
