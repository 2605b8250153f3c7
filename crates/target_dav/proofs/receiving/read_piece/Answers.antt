use Rattle.std.proofs.Common.{◌≡◌, ◌∙◌, ◌++◌, refl, sym, ap, subst, inl, inr, arith, ℕ, List, take, Ok}
use Rattle.jop_outside.specs.Outside.{Reads}
use Rattle.std.proofs.lemmas.Result.{err_from_is_err_and}
use Rattle.target_dav.proofs.Came.{broke_off, came_answered, came_unread, ended_early}
use Rattle.target_dav.proofs.receiving.read_piece.Goals as goal

pub returns-clause-reads : goal.returns-clause-reads
returns-clause-reads g c = λ call first at.
    let mid = g.L.Link.state c.args.link.now in
    let new = g.L.Link.state c.read.new.self in
    let clauses = c.in_ok-count.ensures in
    came_answered call first mid new c.args.reader.now c.read.new.into c.in_ok-count.count at
    clauses.read clauses.alone (clauses.cause.stays c.in_ok-count.count refl) c.in_ok-fed.fed
    c.feed.new.self (c.in_ok-fed.ensures.feeds call at.bytes at.told)

pub returns-then-count-eq0-clause-reads : goal.returns-then-count-eq0-clause-reads
returns-then-count-eq0-clause-reads g c = λ call first at.
    let mid = g.L.Link.state c.args.link.now in
    let new = g.L.Link.state c.read.new.self in
    let clauses = c.in_ok-count.ensures in
    inr (ended_early call first mid new c.args.reader.now c.read.new.into at
    (omega (arith, clauses.length))
    (subst (λ (n : ℕ). Reads mid.left (Ok n) c.read.new.into new.left) c.if-count-eq0.true
    clauses.read) clauses.alone (clauses.cause.stays c.in_ok-count.count refl))

pub returns-in_err-fed-clause-reads : goal.returns-in_err-fed-clause-reads
returns-in_err-fed-clause-reads g c = λ call first at.
    let mid = g.L.Link.state c.args.link.now in
    let new = g.L.Link.state c.read.new.self in
    let clauses = c.in_ok-count.ensures in
    let p = err_from_is_err_and c.from_residual-in_err-fed.result
    c.from_residual-in_err-fed.ensures.1 in
    rw (p.1, p.2) (came_unread call first mid new c.args.reader.now c.read.new.into
    c.in_ok-count.count at clauses.read clauses.alone
    (clauses.cause.stays c.in_ok-count.count refl))
