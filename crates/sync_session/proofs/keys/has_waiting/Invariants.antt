use Rattle.std.proofs.Common.{◌≡◌, drop}
use Rattle.sync_session.specs.Keys.{has_waiting}
use Rattle.sync_session.proofs.keys.has_waiting.Given as goal

abbrev pub invariant-loop-row : goal.invariant-loop-row
invariant-loop-row l = has_waiting l.rows ≡ has_waiting (drop l.row-index l.rows)
