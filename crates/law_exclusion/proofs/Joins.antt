-- A client's trail, behind what it did before and beside what the others do, is a history in which
-- all do what is allowed.
use Rattle.std.proofs.Common.{◌≡◌, sym, subst, inl, inr, ℕ, List, [], ◌∷◌, ◌++◌, true}
use Rattle.std.proofs.lemmas.Bool.{and_from, and_parts, false≢true}
use Rattle.jop_target.specs.History.{History, part_of}
use Rattle.jop_target.specs.declared.event.Event.{Event}
use Rattle.jop_target.specs.declared.event.Event.TheVariants.{Began, Made}
use Rattle.lease.specs.Discipline.{KeepsLocks, lawful_from, outside, session_after}
use Rattle.lease.proofs.Invariant.{same_or_not}
use Rattle.lease.proofs.Joins.{all_keep}
use Rattle.lease.proofs.World.{lawful_so_far}
use Rattle.target_upgrade.specs.Course.{Course, KeepsVersions, allowed_from, begun_course, course_after, outside_course}
use Rattle.law_exclusion.specs.Exclusive.{AllKeepVersions, EndsAllowed, KeepsExclusive, OthersObeyLease}
use Rattle.law_exclusion.proofs.Law.{exclusive_in}

-- what begins outside a session may stand behind any course that was allowed
allowed_behind : (client : List ℕ) (c : Course) (trail : List Event) → c.lawful ≡ true →
    lawful_from client outside trail ≡ true → allowed_from client outside_course trail ≡ true →
    allowed_from client c trail ≡ true
unfolding lawful_from allowed_from
allowed_behind client c [] h k a = h
allowed_behind client c (Began ∷ es) h k a =
    and_from c.lawful (allowed_from client begun_course es) h a
allowed_behind client c (Made n ∷ es) h k a = allowed_behind client c es h k a
allowed_behind client c (e ∷ es) h k a =
    absurd (false≢true (lawful_so_far client (session_after client outside e) es k))

allowed_on : (client : List ℕ) (c : Course) (earlier trail : List Event) →
    allowed_from client c earlier ≡ true → lawful_from client outside trail ≡ true →
    allowed_from client outside_course trail ≡ true →
    allowed_from client c (earlier ++ trail) ≡ true
unfolding allowed_from
allowed_on client c [] trail h k a = allowed_behind client c trail h k a
allowed_on client c (Began ∷ es) trail h k a =
    let parts = and_parts c.lawful (allowed_from client begun_course es) h in
    and_from c.lawful (allowed_from client begun_course (es ++ trail)) parts.0
    (allowed_on client begun_course es trail parts.1 k a)
allowed_on client c (e ∷ es) trail h k a = allowed_on client (course_after client c e) es trail h k a

all_versions : (h : History) (client : List ℕ) (trail : List Event) →
    EndsAllowed h client trail → OthersObeyLease h client → KeepsLocks client trail →
    KeepsVersions client trail → AllKeepVersions h
all_versions h client trail ends others keeps allowed = record {
  each = λ other. elim (same_or_not other client) [
    | inl e ↦ subst (λ (c : List ℕ). KeepsVersions c (part_of c h.steps)) (sym e)
        (subst (KeepsVersions client) (sym ends.ends.part)
        (allowed_on client outside_course ends.ends.earlier trail ends.versions keeps allowed))
    | inr n ↦ others.versions other n
  ];
}

-- a trail that keeps its client's locks and does what is allowed keeps histories exclusive
pub keeps_exclusive : (client : List ℕ) (trail : List Event) → KeepsLocks client trail →
    KeepsVersions client trail → KeepsExclusive client trail
keeps_exclusive client trail keeps allowed h honest timely ends others =
    exclusive_in h honest timely (all_keep h client trail ends.ends others.locks keeps)
    (all_versions h client trail ends others keeps allowed)
