-- Changes that were made before a session don't matter to its locks and versions.
use Rattle.std.proofs.Common.{refl, arith, subst, ℕ, suc, List, [], ◌∷◌, ◌++◌}
use Rattle.std.proofs.lemmas.List.{append-nil}
use Rattle.jop_cli.specs.Commands.Sessions.{IsUncalled}
use Rattle.jop_target.specs.declared.event.Event.{Event}
use Rattle.jop_target.specs.declared.event.Event.TheVariants.{Began, Sent, Called, Made, Ended}
use Rattle.lease.specs.Discipline.{KeepsLocks, lawful_from}
use Rattle.target_upgrade.specs.Course.{KeepsVersions, allowed_from}

rest_uncalled : (e : Event) (es : List Event) → IsUncalled (e ∷ es) → IsUncalled es
rest_uncalled e es h = λ i d lt. h (suc i) d (omega (arith, lt))

pub locks-behind : (client : List ℕ) (old more : List Event) → IsUncalled old
    → KeepsLocks client more → KeepsLocks client (old ++ more)
unfolding lawful_from
locks-behind client [] more h k = k
locks-behind client (Made n ∷ old) more h k =
    locks-behind client old more (rest_uncalled (Made n) old h) k
locks-behind client (Began ∷ old) more h k = absurd (h 0 Began (omega arith))
locks-behind client (Ended ∷ old) more h k = absurd (h 0 Began (omega arith))
locks-behind client (Sent call ∷ old) more h k = absurd (h 0 Began (omega arith))
locks-behind client (Called call reply ∷ old) more h k = absurd (h 0 Began (omega arith))

pub versions-behind : (client : List ℕ) (old more : List Event) → IsUncalled old
    → KeepsVersions client more → KeepsVersions client (old ++ more)
unfolding allowed_from
versions-behind client [] more h k = k
versions-behind client (Made n ∷ old) more h k =
    versions-behind client old more (rest_uncalled (Made n) old h) k
versions-behind client (Began ∷ old) more h k = absurd (h 0 Began (omega arith))
versions-behind client (Ended ∷ old) more h k = absurd (h 0 Began (omega arith))
versions-behind client (Sent call ∷ old) more h k = absurd (h 0 Began (omega arith))
versions-behind client (Called call reply ∷ old) more h k = absurd (h 0 Began (omega arith))

locks-nothing : (client : List ℕ) → KeepsLocks client []
unfolding lawful_from
locks-nothing client = refl

versions-nothing : (client : List ℕ) → KeepsVersions client []
unfolding allowed_from
versions-nothing client = refl

pub locks-uncalled : (client : List ℕ) (trail : List Event) → IsUncalled trail
    → KeepsLocks client trail
locks-uncalled client trail h =
    subst (KeepsLocks client) (append-nil trail)
    (locks-behind client trail [] h (locks-nothing client))

pub versions-uncalled : (client : List ℕ) (trail : List Event) → IsUncalled trail
    → KeepsVersions client trail
versions-uncalled client trail h =
    subst (KeepsVersions client) (append-nil trail)
    (versions-behind client trail [] h (versions-nothing client))
