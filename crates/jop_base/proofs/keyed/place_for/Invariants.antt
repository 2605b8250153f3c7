use Rattle.std.proofs.Common.{All, take}
use Rattle.jop_base.proofs.PlaceLaws.{Precedes}
use Rattle.jop_base.proofs.keyed.place_for.Given as goal

abbrev pub invariant-loop-place : goal.invariant-loop-place
invariant-loop-place g l =
    All (Precedes g.T.Keyed.key (g.T.Key.Key.text l.key)) (take l.place l.items)
