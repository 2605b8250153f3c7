use Rattle.std.proofs.Common.{◌≡◌, [], map, take}
use Rattle.call_log.proofs.Leading.{AreWays}
use Rattle.call_log.proofs.comparing.find_gap.Given as goal

abbrev pub invariant-loop-index : goal.invariant-loop-index
invariant-loop-index l = record {
  ways : AreWays (map (λ e. e.now) l.answers) (take l.index l.trail) l.ways.items;
  some : ¬ (l.ways.items ≡ []);
}
