use Rattle.std.proofs.Common.{refl, sym, subst}
use Rattle.http1.specs.declared.client.Client.{Client}
use Rattle.http_exchange.specs.Causes.{NeverHeads}
use Rattle.http_exchange.specs.Steps.{AwaitsOneHead, IsAwaiting}
use Rattle.http_exchange.proofs.Bodies.{passed_on}
use Rattle.http_exchange.proofs.OneHead.{never_after, never_expected, unread_after}
use Rattle.http_exchange.proofs.head.await_one_head.Goals as goal

pub returns-in_default : goal.returns-in_default
returns-in_default g c =
    let same = c.loop-round.invariant.0 in
    let kept = c.loop-round.invariant.1.2 in
    never_after c.args.client.now.limits (g.L.Link.state c.args.link.now) (g.L.Link.state c.loop-round.link)
    c.args.unread.now c.loop-round.unread kept.0 kept.1
    (subst (λ (x : Client). NeverHeads x.limits c.loop-round.unread) same
    (never_expected c.loop-round.client c.loop-round.unread c.as_slice.result.now _ _
    (subst IsAwaiting (sym same) c.requires.awaits) c.as_slice.ensures refl c.in_default.ensures.err))

pub returns-in_err-read_on-in-NeedMore : goal.returns-in_err-read_on-in-NeedMore
returns-in_err-read_on-in-NeedMore g c =
    let kept = c.loop-round.invariant.1.2 in
    passed_on
    (λ r. AwaitsOneHead c.args.client.now (g.L.Link.state c.args.link.now) c.args.unread.now r
    c.read.new.self (g.L.Link.state c.read_on.new.link) c.read_on.new.kept)
    c.from_residual-in_err-read_on-in-NeedMore.result c.in_err-read_on-in-NeedMore.field-0.0
    c.from_residual-in_err-read_on-in-NeedMore.ensures.0 c.from_residual-in_err-read_on-in-NeedMore.ensures.1
    (unread_after c.args.client.now.limits (g.L.Link.state c.args.link.now) (g.L.Link.state c.loop-round.link)
    c.args.unread.now c.loop-round.unread kept.0 kept.1 c.args.client.now c.read.new.self
    c.read_on.new.kept c.in_err-read_on-in-NeedMore.field-0.0 (g.L.Link.state c.read_on.new.link)
    refl c.in_err-read_on-in-NeedMore.ensures)
