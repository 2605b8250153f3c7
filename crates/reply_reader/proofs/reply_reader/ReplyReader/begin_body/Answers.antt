use Rattle.std.proofs.Common.{◌∙◌, sym, ap, subst, arith, []}
use Rattle.dav_wire.specs.HeadReading.{HeadTells}
use Rattle.dav_wire.specs.declared.frame.Frame.TheVariants.{Body}
use Rattle.dav_wire.specs.declared.outcome.Outcome.{Outcome}
use Rattle.dav_wire.specs.declared.outcome.Outcome.TheVariants.{Listing}
use Rattle.reply_reader.proofs.Heads.{no_other}
use Rattle.reply_reader.proofs.Standing.{keeps_none}
use Rattle.reply_reader.proofs.reply_reader.ReplyReader.begin_body.Goals as goal

pub returns-in-Listing-clause-feeds : goal.returns-in-Listing-clause-feeds
returns-in-Listing-clause-feeds c = λ call bytes len asks head stays.
    c.feed_lines.ensures.feeds call bytes [] len c.args.count asks
    (subst (λ (o : Outcome). HeadTells call bytes c.args.rest.now (Body c.args.now o c.args.count) len)
    (c.in-Listing.is ∙ ap Listing (sym c.new-lines.ensures.dir)) head)
    stays (omega arith) c.new-lines.ensures.come

pub returns-in-Other-clause-feeds : goal.returns-in-Other-clause-feeds
returns-in-Other-clause-feeds c = λ call bytes len asks head stays.
    absurd (no_other call bytes c.args.rest.now c.args.now c.args.count len
    (subst (λ (o : Outcome). HeadTells call bytes c.args.rest.now (Body c.args.now o c.args.count) len)
    c.in-Other.is head))

pub returns-in_default-clause-feeds : goal.returns-in_default-clause-feeds
returns-in_default-clause-feeds c = λ call bytes len asks head stays.
    c.feed_body.ensures.feeds call bytes [] len c.args.count asks head stays (omega arith)
    (keeps_none c.args.outcome c.new.result c.in_default.not-Listing
    c.in_default.not-Other c.new.ensures)
