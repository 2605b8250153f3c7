use Rattle.http_exchange.specs.Steps.{ReceivesAnswer}
use Rattle.http_exchange.proofs.Answering.{no_body, no_head, one_answer, one_length}
use Rattle.http_exchange.proofs.Bodies.{passed_on}
use Rattle.http_exchange.proofs.receiving.receive.Goals as goal

pub returns : goal.returns
returns g c =
    let head = c.in_ok-told.ensures in
    one_answer (g.L.Link.state c.args.link.now) (g.L.Link.state c.await_head.new.link)
    (g.L.Link.state c.await_body.new.link) c.args.client.now c.await_head.new.client head.0
    c.await_head.new.unread c.in_ok-body.body c.in_ok-told.told _ c.args.limit
    c.await_body.new.unread c.may_go_on-ready.ensures head.1 head.2 head.3 c.in_ok-body.ensures

pub returns-then-is_longer_than : goal.returns-then-is_longer_than
returns-then-is_longer_than g c =
    let head = c.in_ok-told.ensures in
    one_length (g.L.Link.state c.args.link.now) (g.L.Link.state c.await_head.new.link)
    c.args.client.now c.await_head.new.client head.0 c.await_head.new.unread
    c.new.result c.in_ok-told.told c.args.limit head.1 head.2 head.3
    (let past = c.is_longer_than.ensures in let yes = c.if-is_longer_than.true in cc) c.new.ensures

pub returns-in_err-told : goal.returns-in_err-told
returns-in_err-told g c =
    passed_on
    (λ r. ReceivesAnswer c.args.client.now.limits (g.L.Link.state c.args.link.now) c.args.limit
    c.args.most r (g.L.Link.state c.await_head.new.link))
    c.from_residual.result c.in_err-told.field-0.0 c.from_residual.ensures.0 c.from_residual.ensures.1
    (no_head c.args.client.now c.await_head.new.client (g.L.Link.state c.args.link.now)
    (g.L.Link.state c.await_head.new.link) c.await_head.new.unread c.args.limit c.args.most
    c.in_err-told.field-0.0 c.in_err-told.ensures)

pub returns-in_err-body : goal.returns-in_err-body
returns-in_err-body g c =
    let head = c.in_ok-told.ensures in
    passed_on
    (λ r. ReceivesAnswer c.args.client.now.limits (g.L.Link.state c.args.link.now) c.args.limit
    c.args.most r (g.L.Link.state c.await_body.new.link))
    c.from_residual-in_err-body.result c.in_err-body.field-0.0 c.from_residual-in_err-body.ensures.0
    c.from_residual-in_err-body.ensures.1
    (no_body (g.L.Link.state c.args.link.now) (g.L.Link.state c.await_head.new.link)
    (g.L.Link.state c.await_body.new.link) c.args.client.now c.await_head.new.client head.0
    c.await_head.new.unread c.in_ok-told.told c.args.limit c.args.most head.1 head.2 head.3
    c.in_err-body.field-0.0 c.await_body.new.unread c.in_err-body.ensures)
