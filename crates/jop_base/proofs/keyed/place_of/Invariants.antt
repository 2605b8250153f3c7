use Rattle.std.proofs.Common.{All, take}
use Rattle.jop_base.proofs.PlaceLaws.{Differs}
use Rattle.jop_base.proofs.keyed.place_of.Given as goal

abbrev pub invariant-loop-place : goal.invariant-loop-place
invariant-loop-place g l =
    All (Differs g.T.Keyed.key (g.T.Key.Key.text l.key)) (take l.place l.items)
