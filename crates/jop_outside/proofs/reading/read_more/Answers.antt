use Rattle.std.proofs.Common.{◌+◌, ◌≤◌, ◌++◌, arith, length, length-append, length-take, min, take}
use Rattle.jop_outside.proofs.ReadingLaws.{SoFar-more, SoFar-rest}
use Rattle.jop_outside.proofs.reading.read_more.Goals as goal

pub returns-in_err-append-clause-rest : goal.returns-in_err-append-clause-rest
returns-in_err-append-clause-rest g c = λ start at.
    let bytes = c.args.bytes.now in
    let into = c.read.new.into in
    let count = c.in_ok-count.count in
    let fits : count ≤ min (c.min-room.result + 1) (length c.args.piece.now) =
    simp length-take at c.in_ok-count.ensures.within in
    let within : length (bytes ++ take count into) ≤ c.args.limit + 1 =
    simp (length-append, length-take) (omega arith) in
    SoFar-rest _ _ _ (bytes ++ take count into) within
    (SoFar-more _ _ _ bytes into count at.so_far c.in_ok-count.ensures.read)

pub returns-clause-rest : goal.returns-clause-rest
returns-clause-rest g c = λ start at.
    let bytes = c.args.bytes.now in
    let into = c.read.new.into in
    let count = c.in_ok-count.count in
    let fits : count ≤ min (c.min-room.result + 1) (length c.args.piece.now) =
    simp length-take at c.in_ok-count.ensures.within in
    let within : length (bytes ++ take count into) ≤ c.args.limit + 1 =
    simp (length-append, length-take) (omega arith) in
    SoFar-rest _ _ _ (bytes ++ take count into) within
    (SoFar-more _ _ _ bytes into count at.so_far c.in_ok-count.ensures.read)
