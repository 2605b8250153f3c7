-- Whether a session goes on, from the end of a trail.
use Rattle.std.proofs.Common.{◌≡◌, refl, List, [], ◌∷◌, ◌++◌, Bool}
use Rattle.jop_target.specs.declared.event.Event.{Event}
use Rattle.jop_target.specs.Running.{runs_after, runs_from}

pub runs_from_last : (runs : Bool) (es : List Event) (e : Event) →
    runs_from runs (es ++ e ∷ []) ≡ runs_after (runs_from runs es) e
unfolding runs_from
runs_from_last runs [] e = refl
runs_from_last runs (d ∷ es) e = runs_from_last (runs_after runs d) es e
