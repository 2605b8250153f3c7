use Rattle.std.proofs.Common.{arith}
use Rattle.http_exchange.proofs.Looking.{takes_piece, wants_more}
use Rattle.http_exchange.proofs.body.take_piece.Goals as goal

pub returns-in_ok-unread-in-NeedMore : goal.returns-in_ok-unread-in-NeedMore
returns-in_ok-unread-in-NeedMore c = λ d e.
    wants_more c.args.client.now c.read.new.self d c.args.unread.now c.as_slice.result.now
    c.read.new.headers c.in-Ok.progress c.args.body.now _ e c.as_slice.ensures c.in-Ok.ensures.ok
    c.in-NeedMore.is c.in_ok-unread-in-NeedMore.ensures.ok

pub returns-in_ok-unread-in-Data : goal.returns-in_ok-unread-in-Data
returns-in_ok-unread-in-Data c = λ d e.
    let no = c.if-piece-saturating_sub.false in
    let count = c.len.ensures in
    let room = c.saturating_sub.ensures in
    takes_piece c.args.client.now c.read.new.self d c.args.unread.now c.as_slice.result.now
    c.as_slice-in-Data.result.now c.read.new.headers c.in-Ok.progress c.in-Data.span
    c.of-piece.result.now c.args.body.now _ _ c.args.limit e c.as_slice.ensures
    c.as_slice-in-Data.ensures c.in-Ok.ensures.ok c.in-Data.is c.of-piece.ensures
    c.in_ok-append-in-Data.ensures.ok c.in_ok-unread-in-Data.ensures.ok
    (omega (arith, no, count, room))
