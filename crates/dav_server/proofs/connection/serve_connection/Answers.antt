use Rattle.std.proofs.Common.{subst, arith, Ok}
use Rattle.std.proofs.lemmas.Result.{err_from_is_err_and}
use Rattle.dav_server.specs.Serving.{TurnsAs}
use Rattle.dav_server.specs.declared.turn.Next.{Next}
use Rattle.dav_server.proofs.Served.{serving_begun, serving_on, served_all, served_over, turn_failed}
use Rattle.dav_server.proofs.connection.serve_connection.Goals as goal

pub loop-count-init : goal.loop-count-init
loop-count-init g c = (
  serving_begun (g.L.Link.state c.args.link.now) (g.N.Line.state c.args.line.now)
      c.new-kept.result c.new-kept.ensures,
  omega arith,
  g.met.N.Line.keeps_same _,
)

pub returns-in_err-serve_next-clause-serves : goal.returns-in_err-serve_next-clause-serves
returns-in_err-serve_next-clause-serves g c =
    let p = err_from_is_err_and c.from_residual.result c.from_residual.ensures.1 in
    rw (p.1, p.2) (turn_failed (g.L.Link.state c.args.link.now) (g.L.Link.state c.loop-count.link)
    (g.L.Link.state c.serve_next.new.link) (g.N.Line.state c.args.line.now)
    (g.N.Line.state c.loop-count.line) c.loop-count.kept c.loop-count.date c.loop-count.count
    c.serve_next.new.kept (g.N.Line.state c.serve_next.new.line) c.serve_next.new.date
    c.serve_next.result _ c.loop-count.invariant.0 c.serve_next.ensures.turns
    c.in_err-serve_next.was)

pub returns-in-Over-clause-serves : goal.returns-in-Over-clause-serves
returns-in-Over-clause-serves g c =
    let mid = g.L.Link.state c.loop-count.link in
    let new = g.L.Link.state c.serve_next.new.link in
    let at = g.N.Line.state c.loop-count.line in
    let end = g.N.Line.state c.serve_next.new.line in
    let turn = subst (λ (x : Next). TurnsAs mid new c.loop-count.kept at c.loop-count.date (Ok x)
    c.serve_next.new.kept end c.serve_next.new.date) c.in-Over.is
    c.in_ok-serve_next.ensures.turns in
    served_over (g.L.Link.state c.args.link.now) mid new (g.N.Line.state c.args.line.now) at
    c.loop-count.kept c.loop-count.date c.loop-count.count c.serve_next.new.kept end
    c.serve_next.new.date c.loop-count.invariant.0 turn

pub returns-in-Ended-clause-serves : goal.returns-in-Ended-clause-serves
returns-in-Ended-clause-serves g c =
    let mid = g.L.Link.state c.loop-count.link in
    let new = g.L.Link.state c.serve_next.new.link in
    let at = g.N.Line.state c.loop-count.line in
    let end = g.N.Line.state c.serve_next.new.line in
    let turn = subst (λ (x : Next). TurnsAs mid new c.loop-count.kept at c.loop-count.date (Ok x)
    c.serve_next.new.kept end c.serve_next.new.date) c.in-Ended.is
    c.in_ok-serve_next.ensures.turns in
    served_all (g.L.Link.state c.args.link.now) mid new (g.N.Line.state c.args.line.now) at
    c.loop-count.kept c.loop-count.date c.loop-count.count c.serve_next.new.kept end
    c.serve_next.new.date c.loop-count.invariant.0 turn

pub loop-count-preserved : goal.loop-count-preserved
loop-count-preserved g c =
    let mid = g.L.Link.state c.loop-count.link in
    let new = g.L.Link.state c.serve_next.new.link in
    let at = g.N.Line.state c.loop-count.line in
    let end = g.N.Line.state c.serve_next.new.line in
    let turn = subst (λ (x : Next). TurnsAs mid new c.loop-count.kept at c.loop-count.date (Ok x)
    c.serve_next.new.kept end c.serve_next.new.date) c.in-Another.is
    c.in_ok-serve_next.ensures.turns in (
      serving_on (g.L.Link.state c.args.link.now) mid new (g.N.Line.state c.args.line.now) at
          c.loop-count.kept c.loop-count.date c.loop-count.count c.serve_next.new.kept end
          c.serve_next.new.date c.loop-count.invariant.0 turn,
      c.in_ok-serve_next.ensures.date,
      g.met.N.Line.keeps_on _ _ _ c.loop-count.invariant.2 c.in_ok-serve_next.ensures.keeps,
    )
