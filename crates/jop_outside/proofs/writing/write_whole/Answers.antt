use Rattle.std.proofs.Common.{sym, subst, refl, ℕ, List}
use Rattle.jop_outside.proofs.WritingLaws.{IsAt, at_taken}
use Rattle.jop_outside.proofs.writing.write_whole.Goals as goal

pub loop-rest-preserved : goal.loop-rest-preserved
loop-rest-preserved g c =
    let old = g.S.Sink.state c.args.sink.now in
    let mid = g.S.Sink.state c.loop-rest.sink in
    let new = g.S.Sink.state c.write.new.self in
    let count = c.in_ok-count.count in
    let clauses = c.in_ok-count.ensures in
    let taken = at_taken old mid new c.args.bytes.now c.loop-rest.rest.now count
    c.loop-rest.invariant clauses.written (clauses.cause.stays count refl) in
    subst (λ (rest : List ℕ). IsAt old c.args.bytes.now new rest) (sym c.split_at.ensures.back)
    taken
