use Rattle.std.proofs.Common.{ℕ, List, ◌≡◌, sym, ap, subst, ◌∙◌, length, arith}
use Rattle.http1.specs.Head.{pairs}
use Rattle.http1.specs.declared.client.Client.{Client}
use Rattle.http1.specs.declared.conn.Limits.{Limits}
use Rattle.jop_outside.specs.Writing.{Appends}
use Rattle.http_exchange.specs.Steps.{GivesAnswer, IsAwaiting}
use Rattle.http_exchange.specs.Texts.{past_request, exchange_text}
use Rattle.http_exchange.specs.Whole.{exchange_limits}
use Rattle.http_exchange.proofs.Sent.{awaits, limits_of}
use Rattle.http_exchange.proofs.asking.exchange.Goals as goal

pub receive-requires-clause-awaits : goal.receive-requires-clause-awaits
receive-requires-clause-awaits g c =
    let method = c.args.method.now in
    let headers = pairs c.args.headers.now in
    let count = length c.args.body.now in
    subst IsAwaiting
    (sym (c.in_ok-text.ensures.sent ∙ ap (λ (k : Client). past_request k method headers count) c.new-client.ensures))
    (awaits exchange_limits method headers count c.requires.kind c.requires.plain)

pub receive-requires-clause-heads : goal.receive-requires-clause-heads
receive-requires-clause-heads g c =
    let method = c.args.method.now in
    let headers = pairs c.args.headers.now in
    let count = length c.args.body.now in
    let same : c.write_text.new.client.limits.max_head_len ≡ 16384 =
    ap (λ (k : Client). k.limits.max_head_len)
    (c.in_ok-text.ensures.sent ∙ ap (λ (k : Client). past_request k method headers count) c.new-client.ensures)
    ∙ ap (λ l. l.max_head_len) (limits_of exchange_limits method headers count) in
    omega (arith, same)

pub returns : goal.returns
returns g c =
    let method = c.args.method.now in
    let target = c.args.target.now in
    let headers = pairs c.args.headers.now in
    let body = c.args.body.now in
    let old = g.L.Link.state c.args.link.now in
    let mid = g.L.Link.state c.write_message.new.link in
    let new = g.L.Link.state c.receive.new.link in
    let received = c.in_ok-received.ensures in
    let same =
    ap (λ (k : Client). k.limits)
    (c.in_ok-text.ensures.sent
    ∙ ap (λ (k : Client). past_request k method headers (length body)) c.new-client.ensures)
    ∙ limits_of exchange_limits method headers (length body) in (
      record {
        mid = mid;
        left = c.in_ok-write_message.ensures.alone.left;
        opened = c.in_ok-write_message.ensures.alone.opened;
        written =
            subst (λ (t : List ℕ). Appends old.written t mid.written)
            (c.as_slice.ensures ∙ c.in_ok-text.ensures.text
            ∙ ap (λ (k : Client). exchange_text k method target headers body) c.new-client.ensures)
            c.in_ok-write_message.ensures.written.whole;
        answer =
            subst (λ (l : Limits). GivesAnswer l mid c.args.limit c.in_ok-received.received new) same
            received.0;
      },
      received.1,
    )
