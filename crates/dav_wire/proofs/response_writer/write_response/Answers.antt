use Rattle.std.proofs.Common.{sym, subst}
use Rattle.jop_target.specs.declared.reply.Reply.{Reply}
use Rattle.dav_wire.specs.ResponseTexts.{IsBodyOf}
use Rattle.dav_wire.proofs.ResponseTextLemmas.{response_same, plain_told}
use Rattle.dav_wire.proofs.response_writer.write_response.Goals as goal

pub returns-in_ok-text-in-Listed : goal.returns-in_ok-text-in-Listed
returns-in_ok-text-in-Listed c =
    let body = c.in_ok-body-in-Listed.body in (
      body,
      subst (λ (r : Reply). IsBodyOf c.args.call.now r c.args.blob.now body) (sym c.in-Listed.is)
          c.in_ok-body-in-Listed.ensures,
      response_same _ _ _ _ _ _ c.in_ok-text-in-Listed.text c.status_of-status.ensures
          c.moment_of-moment.ensures c.as_slice.ensures c.in_ok-text-in-Listed.ensures,
    )

pub returns-in_ok-text-in_default : goal.returns-in_ok-text-in_default
returns-in_ok-text-in_default c = (
  _,
  plain_told c.args.call.now c.args.reply.now c.args.blob.now c.in_default.not-Listed,
  response_same _ _ _ _ _ _ c.in_ok-text-in_default.text c.status_of-status.ensures
      c.moment_of-moment.ensures c.plain_body.ensures c.in_ok-text-in_default.ensures,
)
