use Rattle.std.proofs.Common.{◌≡◌, ◌≤◌, ◌-◌, ◌++◌, subst, refl, ℕ, length, take, arith}
use Rattle.std.proofs.lemmas.Result.{err_from_is_err_and}
use Rattle.dav_link.proofs.LinkLaws.{IsAt, at_piece, at_full}
use Rattle.dav_link.proofs.receiving.read_on.Goals as goal

pub returns-in_err-append : goal.returns-in_err-append
returns-in_err-append g c =
    let old = g.L.Link.state c.args.link.now in
    let mid = g.L.Link.state c.loop-missing.link in
    let new = g.L.Link.state c.read.new.self in
    let clauses = c.in_ok-taken.ensures in
    let p = err_from_is_err_and c.from_residual-in_err-append.result
    c.from_residual-in_err-append.ensures.1 in
    rw (p.1, p.2) (at_full old mid new c.args.kept.now c.loop-missing.kept c.read.new.into
    c.args.count c.loop-missing.missing c.in_ok-taken.taken c.loop-missing.invariant clauses.read
    clauses.alone (clauses.cause.stays c.in_ok-taken.taken refl))

pub loop-missing-preserved : goal.loop-missing-preserved
loop-missing-preserved g c =
    let old = g.L.Link.state c.args.link.now in
    let mid = g.L.Link.state c.loop-missing.link in
    let new = g.L.Link.state c.read.new.self in
    let clauses = c.in_ok-taken.ensures in
    let taken = c.in_ok-taken.taken in
    let into = c.read.new.into in
    let joined : c.append.new.self ≡ c.loop-missing.kept ++ take taken into =
    grind (arith, c.in_ok-append.ensures.ok) in
    let fits : taken ≤ length into = omega (arith, clauses.within, clauses.length) in
    let done = at_piece old mid new c.args.kept.now c.loop-missing.kept c.append.new.self into
    c.args.count c.loop-missing.missing taken c.loop-missing.invariant clauses.read
    clauses.alone (clauses.cause.stays taken refl) joined fits in
    let fewer : c.loop-missing.missing - taken ≡ c.saturating_sub-missing.result = omega arith in
    subst (λ (m : ℕ). IsAt old c.args.kept.now c.args.count new c.append.new.self m) fewer done
