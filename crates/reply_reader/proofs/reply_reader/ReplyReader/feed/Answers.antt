use Rattle.std.proofs.Common.{◌++◌, sym, subst, ◌∙◌}
use Rattle.reply_reader.specs.Pieces.{TakesMore}
use Rattle.reply_reader.specs.declared.state.State.TheVariants.{Head, Body, Lines}
use Rattle.reply_reader.proofs.Counting.{head_more, lasts_more}
use Rattle.reply_reader.proofs.Standing.{stands_in}
use Rattle.reply_reader.proofs.reply_reader.ReplyReader.feed.Goals as goal

pub feed_head-requires : goal.feed_head-requires
feed_head-requires c = record {
  unfinished = subst TakesMore (sym c.replace.ensures.value ∙ c.in-Head.is) c.requires.takes;
}

pub feed_body-requires : goal.feed_body-requires
feed_body-requires c = record {
  plain = subst TakesMore (sym c.replace.ensures.value ∙ c.in-Body.is) c.requires.takes;
}

pub returns-in-Head-clause-feeds : goal.returns-in-Head-clause-feeds
returns-in-Head-clause-feeds c = λ call told after.
    let at = stands_in call c.args.self.now told after (Head c.in-Head.kept)
    (sym c.replace.ensures.value ∙ c.in-Head.is) in
    rw (at.0) (c.feed_head.ensures.feeds call after.asks)

pub returns-in-Body-clause-feeds : goal.returns-in-Body-clause-feeds
returns-in-Body-clause-feeds c = λ call told after.
    let piece = c.args.piece.now in
    let at = stands_in call c.args.self.now told after
    (Body c.in-Body.now c.in-Body.outcome c.in-Body.left c.in-Body.kept)
    (sym c.replace.ensures.value ∙ c.in-Body.is) in
    c.feed_body.ensures.feeds call (told ++ piece) at.0 at.1.len at.1.count after.asks
    (head_more call told at.0 piece _ at.1.len at.1.head)
    (lasts_more told piece c.args.self.now.lasts at.4) at.1.counts at.2

pub returns-in-Lines-clause-feeds : goal.returns-in-Lines-clause-feeds
returns-in-Lines-clause-feeds c = λ call told after.
    let piece = c.args.piece.now in
    let at = stands_in call c.args.self.now told after
    (Lines c.in-Lines.now c.in-Lines.left c.in-Lines.lines)
    (sym c.replace.ensures.value ∙ c.in-Lines.is) in
    c.feed_lines.ensures.feeds call (told ++ piece) at.0 at.1.len at.1.count after.asks
    (head_more call told at.0 piece _ at.1.len at.1.head)
    (lasts_more told piece c.args.self.now.lasts at.4) at.1.counts at.2
