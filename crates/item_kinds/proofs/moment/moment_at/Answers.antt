use Rattle.std.proofs.Common.{◌≡◌, arith, pos, to_z, w64}
use Rattle.std.proofs.lemmas.Int.{ints}
use Rattle.item_kinds.proofs.Moments.{shows, nanos_after}
use Rattle.item_kinds.proofs.moment.moment_at.Goals as goal

pub returns : goal.returns
returns c =
    let millis : to_z w64 c.args.time ≡ pos c.args.time = omega (arith, ints, c.requires) in
    shows c.in-Ok.moment c.args.time c.requires
    (nanos_after _ _ _ _ c.args.time c.beginning.ensures millis c.from_millis.ensures
    c.in-Ok.ensures.value)
