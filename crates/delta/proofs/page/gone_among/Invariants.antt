use Rattle.std.proofs.Common.{◌≡◌, take, filter}
use Rattle.delta.specs.Sets.{is_gone}
use Rattle.delta.proofs.page.gone_among.Given as goal

abbrev pub invariant-loop-id : goal.invariant-loop-id
invariant-loop-id l = l.gone.items ≡ filter (is_gone l.shown l.recorded) (take l.id-index l.synced)
