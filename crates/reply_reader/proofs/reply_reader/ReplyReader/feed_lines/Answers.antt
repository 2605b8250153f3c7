use Rattle.reply_reader.proofs.Standing.{lines_end, lines_go_on, lines_refuse}
use Rattle.reply_reader.proofs.reply_reader.ReplyReader.feed_lines.Goals as goal

pub returns-then-came-left-clause-feeds : goal.returns-then-came-left-clause-feeds
returns-then-came-left-clause-feeds c = λ call bytes body len count asks head stays counts at.
    lines_go_on call c.args.self.now.call bytes body c.args.piece.now c.args.now c.args.lines
    c.feed.new.self c.args.left len count c.args.self.now.lasts asks head stays counts
    c.in_ok-feed.ensures.dir c.if-came-left.true (c.in_ok-feed.ensures.come body at)

pub returns-in-None-clause-feeds : goal.returns-in-None-clause-feeds
returns-in-None-clause-feeds c = λ call bytes body len count asks head stays counts at.
    lines_refuse call c.args.self.now.call bytes body c.args.piece.now c.args.now c.args.lines
    c.feed-2.new.self c.args.left len count c.args.self.now.lasts asks head stays counts
    c.in_ok-feed-2.ensures.dir c.if-came-left.false
    (c.in-None.ensures _ (c.in_ok-feed-2.ensures.come body at))

pub returns-in-Some-clause-feeds : goal.returns-in-Some-clause-feeds
returns-in-Some-clause-feeds c = λ call bytes body len count asks head stays counts at.
    lines_end call c.args.self.now.call bytes body c.args.piece.now c.args.now c.args.lines
    c.feed-2.new.self c.args.left len count c.args.self.now.lasts asks head stays counts
    c.in_ok-feed-2.ensures.dir c.if-came-left.false c.in-Some.entries
    c.new-blob.result c.new-blob.ensures
    (c.in-Some.ensures _ (c.in_ok-feed-2.ensures.come body at))
