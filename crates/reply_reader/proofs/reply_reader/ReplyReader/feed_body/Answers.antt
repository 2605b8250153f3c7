use Rattle.std.proofs.Common.{sym, subst, List, ℕ, ◌++◌, take}
use Rattle.reply_reader.specs.Pieces.{KeepsBody}
use Rattle.reply_reader.proofs.Standing.{body_ends, body_goes_on, keeps_more}
use Rattle.reply_reader.proofs.reply_reader.ReplyReader.feed_body.Goals as goal

pub returns-then-came-left-clause-feeds : goal.returns-then-came-left-clause-feeds
returns-then-came-left-clause-feeds c = λ call bytes body len count asks head stays counts keeps.
    body_goes_on call c.args.self.now.call bytes body c.args.piece.now c.args.now c.args.outcome
    c.args.left len count c.args.self.now.lasts asks head stays counts c.args.kept c.keep.new.kept
    c.if-came-left.true keeps c.in_ok-keep.ensures

pub returns-clause-feeds : goal.returns-clause-feeds
returns-clause-feeds c = λ call bytes body len count asks head stays counts keeps.
    let piece = c.args.piece.now in
    body_ends call c.args.self.now.call bytes body piece c.args.now c.args.outcome c.args.left len
    count c.args.self.now.lasts asks head stays counts c.told-reply.result.0 c.told-reply.result.1
    c.if-came-left.false
    (c.told-reply.ensures (body ++ take c.args.left piece)
    (subst (λ (t : List ℕ). KeepsBody c.args.outcome t (body ++ take c.args.left piece))
    (sym c.in_ok-keep-2.ensures)
    (keeps_more c.args.outcome c.args.kept body (take c.args.left piece) keeps)))
