use Rattle.std.proofs.Common.{◌+◌, sym, ap, subst, arith, List, ℕ}
use Rattle.http_exchange.specs.Steps.{AwaitsCarried}
use Rattle.dav_link.specs.Links.{LinkNow}
use Rattle.dav_link.proofs.LinkLaws.{kept_nothing}
use Rattle.http_exchange.proofs.Bodies.{IsWithin, cut_of, end_of, eof_of, flood_of, more_of, passed_on, piece_of, refused_of, unread_of, within_start}
use Rattle.http_exchange.proofs.body.await_body.Goals.{in-Piece, in-More+in_ok-read_on-in-More+else-not-branch+else-came-room}
use Rattle.http_exchange.proofs.body.await_body.Goals as goal

pub loop-round-init : goal.loop-round-init
loop-round-init g c = λ framing e.
    let old = g.L.Link.state c.args.link.now in
    let unread = c.args.unread.now in
    subst (λ (t : List ℕ). IsWithin c.args.client.now.limits framing old unread c.args.limit c.args.most
    0 c.args.most c.args.client.now old unread t)
    (sym c.new-body.ensures)
    (within_start c.args.client.now.limits framing old unread c.args.limit c.args.most c.args.client.now e
    (kept_nothing old unread).read)

pub returns-in_err-take_piece : goal.returns-in_err-take_piece
returns-in_err-take_piece g c = λ framing e.
    let w = c.loop-round.invariant framing e in
    passed_on
    (λ r. AwaitsCarried c.args.client.now.limits framing (g.L.Link.state c.args.link.now) c.args.unread.now
    c.args.limit c.args.most r (g.L.Link.state c.loop-round.link) c.take_piece.new.unread)
    c.from_residual.result c.in_err-take_piece.field-0.0 c.from_residual.ensures.0 c.from_residual.ensures.1
    (refused_of c.args.client.now.limits framing (g.L.Link.state c.args.link.now) c.args.unread.now
    c.args.limit c.args.most c.loop-round.round c.loop-round.room
    c.loop-round.client c.take_piece.new.client (g.L.Link.state c.loop-round.link)
    c.loop-round.unread c.take_piece.new.unread c.loop-round.body c.take_piece.new.body
    w c.in_err-take_piece.field-0.0 (c.in_err-take_piece.ensures w.d w.reading))

pub returns-in_err-read_on-in-More : goal.returns-in_err-read_on-in-More
returns-in_err-read_on-in-More g c = λ framing e.
    let w = c.loop-round.invariant framing e in
    passed_on
    (λ r. AwaitsCarried c.args.client.now.limits framing (g.L.Link.state c.args.link.now) c.args.unread.now
    c.args.limit c.args.most r (g.L.Link.state c.read_on.new.link) c.read_on.new.kept)
    c.from_residual-in_err-read_on-in-More.result c.in_err-read_on-in-More.field-0.0
    c.from_residual-in_err-read_on-in-More.ensures.0 c.from_residual-in_err-read_on-in-More.ensures.1
    (unread_of c.args.client.now.limits framing (g.L.Link.state c.args.link.now) c.args.unread.now
    c.args.limit c.args.most c.loop-round.round c.loop-round.room
    c.loop-round.client c.take_piece.new.client (g.L.Link.state c.loop-round.link)
    c.loop-round.unread c.take_piece.new.unread c.loop-round.body c.take_piece.new.body
    w c.in_ok-take_piece.field-0 (c.in_ok-take_piece.ensures w.d w.reading) c.in-More.is
    c.in_err-read_on-in-More.field-0.0 (g.L.Link.state c.read_on.new.link) c.read_on.new.kept
    c.in_err-read_on-in-More.ensures)

pub returns-in-End : goal.returns-in-End
returns-in-End g c = λ framing e.
    let w = c.loop-round.invariant framing e in
    end_of c.args.client.now.limits framing (g.L.Link.state c.args.link.now) c.args.unread.now
    c.args.limit c.args.most c.loop-round.round c.loop-round.room
    c.loop-round.client c.take_piece.new.client (g.L.Link.state c.loop-round.link)
    c.loop-round.unread c.take_piece.new.unread c.loop-round.body c.take_piece.new.body
    c.in_ok-take_piece.field-0 w (c.in_ok-take_piece.ensures w.d w.reading) c.in-End.is

pub returns-then-came-room : goal.returns-then-came-room
returns-then-came-room g c = λ framing e.
    let w = c.loop-round.invariant framing e in
    let before = c.len-before.ensures in
    let after = c.len.ensures in
    let came = c.saturating_sub-came.ensures in
    let over = c.if-came-room.true in
    flood_of c.args.client.now.limits framing (g.L.Link.state c.args.link.now) c.args.unread.now
    c.args.limit c.args.most c.loop-round.round c.loop-round.room
    c.loop-round.client c.take_piece.new.client (g.L.Link.state c.loop-round.link)
    c.loop-round.unread c.take_piece.new.unread c.loop-round.body c.take_piece.new.body
    c.in_ok-take_piece.field-0 w (c.in_ok-take_piece.ensures w.d w.reading) c.in-More.is
    c.in_ok-read_on-in-More.field-0 (g.L.Link.state c.read_on.new.link) c.read_on.new.kept
    c.saturating_sub-came.result
    c.if-not-branch.false c.in_ok-read_on-in-More.ensures (omega (arith, before, after, came)) (omega (arith, over))

pub loop-round-preserved : goal.loop-round-preserved
loop-round-preserved g c = λ framing e.
    let w = c.loop-round.invariant framing e in
    let limits = c.args.client.now.limits in
    let old = g.L.Link.state c.args.link.now in
    let start = c.args.unread.now in
    let new = c.take_piece.new.client in
    let got = c.take_piece.new.body in
    let limit = c.args.limit in
    let most = c.args.most in
    let next = c.loop-round.round + 1 in
    let here = c.in_ok-take_piece.ensures w.d w.reading in
    elim c.match-branch-2.branch [
      | in-Piece v ↦
          subst (λ (n : LinkNow). IsWithin limits framing old start limit most next c.match-branch-2.room new n c.match-branch-2.unread got)
          (ap g.L.Link.state (sym v.link-is))
          (subst (λ (t : List ℕ).
          IsWithin limits framing old start limit most next c.match-branch-2.room new (g.L.Link.state c.loop-round.link) t got)
          (sym v.unread-is)
          (subst (λ (r : ℕ).
          IsWithin limits framing old start limit most next r new (g.L.Link.state c.loop-round.link) c.take_piece.new.unread got)
          (sym v.room-is)
          (piece_of limits framing old start limit most c.loop-round.round c.loop-round.room c.loop-round.client new
          (g.L.Link.state c.loop-round.link) c.loop-round.unread c.take_piece.new.unread
          c.loop-round.body got c.in_ok-take_piece.field-0 w here v.in-Piece.is next (omega arith))))
      | in-More+in_ok-read_on-in-More+else-not-branch+else-came-room v ↦
          let before = v.len-before.ensures in
          let after = v.len.ensures in
          let came = v.saturating_sub-came.ensures in
          let over = v.if-came-room.false in
          let room = v.room-is in
          subst (λ (n : LinkNow). IsWithin limits framing old start limit most next c.match-branch-2.room new n c.match-branch-2.unread got)
          (ap g.L.Link.state (sym v.link-is))
          (subst (λ (t : List ℕ).
          IsWithin limits framing old start limit most next c.match-branch-2.room new (g.L.Link.state v.read_on.new.link) t got)
          (sym v.unread-is)
          (more_of limits framing old start limit most c.loop-round.round c.loop-round.room c.loop-round.client new
          (g.L.Link.state c.loop-round.link) c.loop-round.unread c.take_piece.new.unread
          c.loop-round.body got c.in_ok-take_piece.field-0 w here v.in-More.is
          v.in_ok-read_on-in-More.field-0 (g.L.Link.state v.read_on.new.link) v.read_on.new.kept
          v.saturating_sub-came.result c.match-branch-2.room next
          v.if-not-branch.false v.in_ok-read_on-in-More.ensures (omega (arith, before, after, came))
          (omega (arith, room, over)) (omega (arith, over)) (omega arith)))
    ]

pub returns-then-ends_here : goal.returns-then-ends_here
returns-then-ends_here g c = λ framing e.
    let w = c.loop-round.invariant framing e in
    eof_of c.args.client.now.limits framing (g.L.Link.state c.args.link.now) c.args.unread.now
    c.args.limit c.args.most c.loop-round.round c.loop-round.room
    c.loop-round.client c.take_piece.new.client (g.L.Link.state c.loop-round.link)
    c.loop-round.unread c.take_piece.new.unread c.loop-round.body c.take_piece.new.body
    c.in_ok-take_piece.field-0 w (c.in_ok-take_piece.ensures w.d w.reading) c.in-More.is
    c.in_ok-read_on-in-More.field-0 (g.L.Link.state c.read_on.new.link) c.read_on.new.kept
    c.if-ends_here.ensures.ends.0 c.if-not-branch.true c.in_ok-read_on-in-More.ensures
    c.if-ends_here.ensures.ends.1

pub returns-then-not-branch : goal.returns-then-not-branch
returns-then-not-branch g c = λ framing e.
    let w = c.loop-round.invariant framing e in
    cut_of c.args.client.now.limits framing (g.L.Link.state c.args.link.now) c.args.unread.now
    c.args.limit c.args.most c.loop-round.round c.loop-round.room
    c.loop-round.client c.take_piece.new.client (g.L.Link.state c.loop-round.link)
    c.loop-round.unread c.take_piece.new.unread c.loop-round.body c.take_piece.new.body
    c.in_ok-take_piece.field-0 w (c.in_ok-take_piece.ensures w.d w.reading) c.in-More.is
    c.in_ok-read_on-in-More.field-0 (g.L.Link.state c.read_on.new.link) c.read_on.new.kept
    c.if-not-branch.true c.in_ok-read_on-in-More.ensures c.if-ends_here.ensures.cut
