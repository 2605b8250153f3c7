use Rattle.std.proofs.Common.{inr}
use Rattle.std.proofs.lemmas.Result.{err_from_is_err_and}
use Rattle.target_dav.proofs.Came.{came_bad, came_too_long, came_whole, reading_nothing, reading_on, receives_none}
use Rattle.target_dav.proofs.receiving.receive.Goals as goal

pub loop-reader-init : goal.loop-reader-init
loop-reader-init g c = (
  reading_nothing c.args.call.now (g.L.Link.state c.args.link.now) c.new-reader.result
      c.new-reader.ensures.told,
  c.new-reader.ensures.takes,
)

pub returns-in_err-read_piece : goal.returns-in_err-read_piece
returns-in_err-read_piece g c =
    let call = c.args.call.now in
    let old = g.L.Link.state c.args.link.now in
    let new = g.L.Link.state c.read_piece.new.link in
    let p = err_from_is_err_and c.from_residual.result c.from_residual.ensures.1 in
    rw (p.1, p.2) (receives_none call old new c.read_piece.new.reader c.read_piece.result _
    (c.read_piece.ensures.reads call old c.loop-reader.invariant.0) c.in_err-read_piece.was)

pub returns-in-More : goal.returns-in-More
returns-in-More g c =
    let call = c.args.call.now in
    let old = g.L.Link.state c.args.link.now in
    let new = g.L.Link.state c.read_piece.new.link in
    let reader = c.read_piece.new.reader in
    came_too_long call old new reader
    (reading_on call old new reader c.in_ok-read_piece.field-0
    (c.in_ok-read_piece.ensures.reads call old c.loop-reader.invariant.0) c.in-More.is)
    (c.is_too_long.ensures.0 c.if-is_too_long.true)

pub returns-in-Whole : goal.returns-in-Whole
returns-in-Whole g c =
    let call = c.args.call.now in
    let old = g.L.Link.state c.args.link.now in
    let new = g.L.Link.state c.read_piece.new.link in
    came_whole call old new c.read_piece.new.reader c.in_ok-read_piece.field-0 c.in-Whole.rest
    c.taken.result (c.in_ok-read_piece.ensures.reads call old c.loop-reader.invariant.0)
    c.in-Whole.is c.taken.ensures.told c.taken.ensures.alone c.taken.ensures.lasts

pub returns-in-Bad : goal.returns-in-Bad
returns-in-Bad g c =
    let call = c.args.call.now in
    let old = g.L.Link.state c.args.link.now in
    let new = g.L.Link.state c.read_piece.new.link in
    inr (came_bad call old new c.read_piece.new.reader c.in_ok-read_piece.field-0
    (c.in_ok-read_piece.ensures.reads call old c.loop-reader.invariant.0) c.in-Bad.is)
