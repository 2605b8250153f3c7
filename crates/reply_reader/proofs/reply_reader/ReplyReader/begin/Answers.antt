use Rattle.std.proofs.Common.{subst}
use Rattle.dav_wire.specs.HeadReading.{HeadTells}
use Rattle.dav_wire.specs.declared.frame.Frame.{Frame}
use Rattle.reply_reader.proofs.Standing.{too_long}
use Rattle.reply_reader.proofs.reply_reader.ReplyReader.begin.Goals as goal

pub returns-in-TooLong-clause-feeds : goal.returns-in-TooLong-clause-feeds
returns-in-TooLong-clause-feeds c = λ call bytes len asks head stays.
    too_long call c.args.self.now.call bytes c.args.rest.now c.args.frame len c.in-TooLong.count
    c.new-blob.result c.args.self.now.lasts head c.in-TooLong.is c.new-blob.ensures stays

pub returns-in-Body-clause-feeds : goal.returns-in-Body-clause-feeds
returns-in-Body-clause-feeds c = λ call bytes len asks head stays.
    c.begin_body.ensures.feeds call bytes len asks
    (subst (λ (f : Frame). HeadTells call bytes c.args.rest.now f len) c.in-Body.is head) stays
