use Rattle.std.proofs.Common.{◌≡◌, ◌*◌}
use Rattle.keeper_sqlite.proofs.waiting.patiently.Given as goal

abbrev pub invariant-tries : goal.invariant-tries
invariant-tries g l = g.T.Tried.paused l.tried ≡ 50 * l.counter
