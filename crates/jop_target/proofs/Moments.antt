-- The last moment that was told, from the end of a trail.
use Rattle.std.proofs.Common.{◌≡◌, refl, ℕ, List, [], ◌∷◌, ◌++◌}
use Rattle.jop_target.specs.declared.event.Event.{Event}
use Rattle.jop_target.specs.Trail.{moment_after, moment_from}

pub moment_from_last : (last : ℕ) (es : List Event) (e : Event) →
    moment_from last (es ++ e ∷ []) ≡ moment_after (moment_from last es) e
unfolding moment_from
moment_from_last last [] e = refl
moment_from_last last (d ∷ es) e = moment_from_last (moment_after last d) es e
