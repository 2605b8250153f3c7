use Rattle.std.proofs.Common.{◌≡◌, ◌∙◌, sym, ap, subst}
use Rattle.std.proofs.lemmas.Bool.{false≢true}
use Rattle.jop_target.specs.declared.reply.Reply.{Reply}
use Rattle.jop_target.specs.declared.reply.Reply.TheVariants.{Failed}
use Rattle.target_webdav.specs.Clients.{site_client_now}
use Rattle.target_webdav.specs.Marks.{mark_after}
use Rattle.target_webdav.specs.Serving.{HasTrueReply, IsTrueReply}
use Rattle.target_webdav.specs.declared.mark.Mark.{Mark}
use Rattle.target_webdav.proofs.Served.{true_reply_came}
use Rattle.target_webdav.proofs.webdav_target.WebDavTarget.answer.Goals as goal
use Rattle.webdav_calls.specs.Sites.{SiteView}

pub returns-clause-answers : goal.returns-clause-answers
returns-clause-answers g c =
    let call = c.args.call.now in
    let site = c.args.self.now.site in
    let received = c.in-Ok.received in
    let reply = c.in-Ok-true_reply.reply in
    let old = site_client_now g.L.Link.state c.args.self.now in
    let mid = site_client_now g.L.Link.state c.ask.new.self in
    let new = site_client_now g.L.Link.state c.accept.new.self in
    let same = c.in-Ok.ensures.same in
    let means : IsTrueReply site c.args.self.now.mark call received.told received.body reply =
    subst (λ (s : SiteView). IsTrueReply s c.args.self.now.mark call received.told received.body reply)
    same.site
    (subst (λ (m : Mark). IsTrueReply c.ask.new.self.site m call received.told received.body reply)
    same.mark c.in-Ok-true_reply.ensures) in
    let came = true_reply_came site call c.args.blob.now old mid new received reply
    c.accept.new.blob c.in-Ok.ensures.asks means c.accept.ensures.blob c.accept.ensures.ready
    (c.accept.ensures.mark ∙ ap (λ (m : Mark). mark_after m call reply) same.mark)
    (ap g.L.Link.state c.accept.ensures.link) in (
      subst (λ (r : Reply). HasTrueReply site call c.args.blob.now old r new c.accept.new.blob)
          (sym c.accept.ensures.reply) came,
      λ (is : c.accept.result ≡ Failed). false≢true
          (sym c.if-is_failed.false ∙ c.is_failed.ensures.1 (sym c.accept.ensures.reply ∙ is)),
    )
