use Rattle.item_kinds.proofs.Moments.{nanos_zero}
use Rattle.item_kinds.proofs.moment.beginning.Goals as goal

pub returns : goal.returns
returns c = nanos_zero c.datetime.result c.datetime.ensures.date c.datetime.ensures.time
