use Rattle.std.proofs.Common.{◌∙◌, ◌++◌, [], List, ℕ, sym, subst, append-nil}
use Rattle.std.proofs.lemmas.Result.{err_from_is_err_and}
use Rattle.jop_outside.proofs.WritingLaws.{IsAt, at_cut, at_end, at_next, at_start}
use Rattle.dav_link.specs.Links.{sink_of}
use Rattle.target_dav.proofs.sending.write_both.Goals as goal

pub returns : goal.returns
returns g c =
    let old = sink_of (g.L.Link.state c.args.link.now) in
    let mid = sink_of (g.L.Link.state c.write_message.new.link) in
    let new = sink_of (g.L.Link.state c.write_message-2.new.link) in
    let first = c.args.first.now in
    let rest = c.args.rest.now in
    let at = at_next old old mid (first ++ rest) first rest (at_start old (first ++ rest))
    c.in_ok-write_message.ensures.written in
    record {
      written = at_end old new (first ++ rest) (at_next old mid new (first ++ rest) rest []
          (subst (λ (t : List ℕ). IsAt old (first ++ rest) mid t) (sym (append-nil rest)) at)
          c.in_ok-write_message-2.ensures.written);
      alone = record {
        left = c.write_message-2.ensures.alone.left ∙ c.write_message.ensures.alone.left;
        opened = c.write_message-2.ensures.alone.opened ∙ c.write_message.ensures.alone.opened;
      };
    }

pub returns-in_err-write_message-clause-written : goal.returns-in_err-write_message-clause-written
returns-in_err-write_message-clause-written g c =
    let old = sink_of (g.L.Link.state c.args.link.now) in
    let mid = sink_of (g.L.Link.state c.write_message.new.link) in
    let first = c.args.first.now in
    let rest = c.args.rest.now in
    let p = err_from_is_err_and c.from_residual.result c.from_residual.ensures.1 in
    rw (p.1) (at_cut old old mid (first ++ rest) first rest (at_start old (first ++ rest))
    c.in_err-write_message.ensures.written)

pub returns-in_err-write_message-2-clause-written :
    goal.returns-in_err-write_message-2-clause-written
returns-in_err-write_message-2-clause-written g c =
    let old = sink_of (g.L.Link.state c.args.link.now) in
    let mid = sink_of (g.L.Link.state c.write_message.new.link) in
    let new = sink_of (g.L.Link.state c.write_message-2.new.link) in
    let first = c.args.first.now in
    let rest = c.args.rest.now in
    let at = at_next old old mid (first ++ rest) first rest (at_start old (first ++ rest))
    c.in_ok-write_message.ensures.written in
    let p = err_from_is_err_and c.from_residual-in_err-write_message-2.result
    c.from_residual-in_err-write_message-2.ensures.1 in
    rw (p.1) (at_cut old mid new (first ++ rest) rest []
    (subst (λ (t : List ℕ). IsAt old (first ++ rest) mid t) (sym (append-nil rest)) at)
    c.in_err-write_message-2.ensures.written)
