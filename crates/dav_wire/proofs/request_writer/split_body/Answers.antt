use Rattle.std.proofs.Common.{◌∙◌, length, sym, arith}
use Rattle.std.proofs.lemmas.List.{drop_all, take_all}
use Rattle.dav_wire.proofs.request_writer.split_body.Goals as goal

pub returns-then-body-lt-FIRST_LIMIT-clause-first :
    goal.returns-then-body-lt-FIRST_LIMIT-clause-first
returns-then-body-lt-FIRST_LIMIT-clause-first c =
    let body = c.args.body.now in
    c.split_at.ensures.front ∙ take_all (length body) body (omega arith)
    ∙ sym (take_all 65536 body (omega arith))

pub returns-then-body-lt-FIRST_LIMIT-clause-rest :
    goal.returns-then-body-lt-FIRST_LIMIT-clause-rest
returns-then-body-lt-FIRST_LIMIT-clause-rest c =
    let body = c.args.body.now in
    c.split_at.ensures.back ∙ drop_all (length body) body (omega arith)
    ∙ sym (drop_all 65536 body (omega arith))
