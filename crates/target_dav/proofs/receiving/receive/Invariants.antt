use Rattle.reply_reader.specs.Pieces.{TakesMore, room_of}
use Rattle.target_dav.specs.Responses.{IsReading}
use Rattle.target_dav.proofs.receiving.receive.Given as goal

abbrev pub invariant-loop-reader : goal.invariant-loop-reader
invariant-loop-reader g l =
    IsReading l.call (g.L.Link.state l.fn.link) (g.L.Link.state l.link) l.reader
    × TakesMore l.reader.state

abbrev pub decreases-loop-reader : goal.decreases-loop-reader
decreases-loop-reader g l = room_of l.reader.state
