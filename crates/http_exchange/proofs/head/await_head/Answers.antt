use Rattle.std.proofs.Common.{◌≤◌, arith, sym, subst}
use Rattle.dav_link.proofs.LinkLaws.{HasReadBytes-nil}
use Rattle.http1.specs.declared.client.Client.{Client}
use Rattle.http_exchange.specs.Steps.{AwaitsFinal, IsAwaiting}
use Rattle.http_exchange.proofs.Answering.{head_failed, last_passed, none_passed, one_passed, too_many_passed}
use Rattle.http_exchange.proofs.Bodies.{passed_on}
use Rattle.http_exchange.proofs.head.await_head.Goals as goal

pub loop-round-init : goal.loop-round-init
loop-round-init g c =
    none_passed c.args.client.now (g.L.Link.state c.args.link.now) c.args.unread.now c.requires.fresh
    (HasReadBytes-nil (g.L.Link.state c.args.link.now))

pub await_one_head-requires-clause-awaits : goal.await_one_head-requires-clause-awaits
await_one_head-requires-clause-awaits g c =
    subst IsAwaiting (sym c.loop-round.invariant.same) c.requires.awaits

pub await_one_head-requires-clause-bounded : goal.await_one_head-requires-clause-bounded
await_one_head-requires-clause-bounded g c =
    subst (λ (x : Client). x.limits.max_head_len ≤ 16384) (sym c.loop-round.invariant.same)
    c.requires.bounded

pub loop-round-preserved : goal.loop-round-preserved
loop-round-preserved g c =
    one_passed c.args.client.now c.loop-round.client c.await_one_head.new.client
    (g.L.Link.state c.args.link.now) (g.L.Link.state c.loop-round.link)
    (g.L.Link.state c.await_one_head.new.link) c.loop-round.round c.loop-round.unread
    c.await_one_head.new.unread c.loop-round.invariant c.in_ok-head.head c.in-None.is
    c.in_ok-head.ensures

pub returns-in_err-head : goal.returns-in_err-head
returns-in_err-head g c =
    passed_on
    (λ r. AwaitsFinal c.args.client.now (g.L.Link.state c.args.link.now) c.args.limit c.args.most r
    c.await_one_head.new.client (g.L.Link.state c.await_one_head.new.link) c.await_one_head.new.unread)
    c.from_residual.result c.in_err-head.field-0.0 c.from_residual.ensures.0 c.from_residual.ensures.1
    (head_failed c.args.client.now c.loop-round.client c.await_one_head.new.client
    (g.L.Link.state c.args.link.now) (g.L.Link.state c.loop-round.link)
    (g.L.Link.state c.await_one_head.new.link) c.loop-round.round c.loop-round.unread
    c.await_one_head.new.unread c.loop-round.invariant c.args.limit c.args.most
    c.in_err-head.field-0.0 c.await_one_head.new.client c.await_one_head.new.unread
    c.in_err-head.ensures)

pub returns-in-Some : goal.returns-in-Some
returns-in-Some g c =
    last_passed c.args.client.now c.loop-round.client c.await_one_head.new.client
    (g.L.Link.state c.args.link.now) (g.L.Link.state c.loop-round.link)
    (g.L.Link.state c.await_one_head.new.link) c.loop-round.round c.loop-round.unread
    c.await_one_head.new.unread c.loop-round.invariant c.in_ok-head.head c.in-Some.told c.in-Some.is
    (omega arith) c.in_ok-head.ensures

pub returns : goal.returns
returns g c =
    too_many_passed c.args.client.now c.loop-round.client (g.L.Link.state c.args.link.now)
    (g.L.Link.state c.loop-round.link) c.loop-round.round c.loop-round.unread c.args.limit c.args.most
    c.loop-round.invariant (omega arith)
