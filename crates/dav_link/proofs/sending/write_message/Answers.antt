use Rattle.std.proofs.Common.{sym, subst, refl, ◌∙◌, ℕ, List}
use Rattle.jop_outside.proofs.WritingLaws.{IsAt, at_taken}
use Rattle.dav_link.specs.Links.{sink_of}
use Rattle.dav_link.proofs.sending.write_message.Goals as goal

pub loop-rest-preserved : goal.loop-rest-preserved
loop-rest-preserved g c =
    let old = sink_of (g.L.Link.state c.args.link.now) in
    let mid = sink_of (g.L.Link.state c.loop-rest.link) in
    let new = sink_of (g.L.Link.state c.write.new.self) in
    let count = c.in_ok-count.count in
    let clauses = c.in_ok-count.ensures in
    let at = c.loop-rest.invariant in
    let taken = at_taken old mid new c.args.bytes.now c.loop-rest.rest.now count
    at.0 clauses.written (clauses.cause.stays count refl) in (
      subst (λ (rest : List ℕ). IsAt old c.args.bytes.now new rest) (sym c.split_at.ensures.back)
          taken,
      record {
        left = clauses.alone.left ∙ at.1.left;
        opened = clauses.alone.opened ∙ at.1.opened;
      },
    )
