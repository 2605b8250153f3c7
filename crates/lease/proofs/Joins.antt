-- A client's trail, behind what it did before and beside what the others do, is a history in which
-- all keep their locks.
use Rattle.std.proofs.Common.{◌≡◌, sym, subst, inl, inr, ℕ, List, [], ◌∷◌, ◌++◌, true}
use Rattle.std.proofs.lemmas.Bool.{and_from, and_parts, false≢true}
use Rattle.jop_target.specs.History.{History, part_of}
use Rattle.jop_target.specs.declared.event.Event.{Event}
use Rattle.jop_target.specs.declared.event.Event.TheVariants.{Began, Made}
use Rattle.lease.specs.Discipline.{Session, begun, outside, session_after, lawful_from, KeepsLocks}
use Rattle.lease.specs.Exclusion.{AllKeepLocks, EndsIn, OthersKeepLocks, KeepsApart}
use Rattle.lease.proofs.Invariant.{same_or_not}
use Rattle.lease.proofs.Law.{apart_in}
use Rattle.lease.proofs.World.{lawful_so_far}

-- what begins outside a session may stand behind any lawful one
lawful_behind : (client : List ℕ) (s : Session) (trail : List Event) → s.lawful ≡ true →
    lawful_from client outside trail ≡ true → lawful_from client s trail ≡ true
unfolding lawful_from
lawful_behind client s [] h k = h
lawful_behind client s (Began ∷ es) h k = and_from s.lawful (lawful_from client begun es) h k
lawful_behind client s (Made n ∷ es) h k = lawful_behind client s es h k
lawful_behind client s (e ∷ es) h k =
    absurd (false≢true (lawful_so_far client (session_after client outside e) es k))

lawful_on : (client : List ℕ) (s : Session) (earlier trail : List Event) →
    lawful_from client s earlier ≡ true → lawful_from client outside trail ≡ true →
    lawful_from client s (earlier ++ trail) ≡ true
unfolding lawful_from
lawful_on client s [] trail h k = lawful_behind client s trail h k
lawful_on client s (Began ∷ es) trail h k =
    let parts = and_parts s.lawful (lawful_from client begun es) h in
    and_from s.lawful (lawful_from client begun (es ++ trail)) parts.0
    (lawful_on client begun es trail parts.1 k)
lawful_on client s (e ∷ es) trail h k = lawful_on client (session_after client s e) es trail h k

pub all_keep : (h : History) (client : List ℕ) (trail : List Event) → EndsIn h client trail →
    OthersKeepLocks h client → KeepsLocks client trail → AllKeepLocks h
all_keep h client trail ends others keeps = record {
  each = λ other. elim (same_or_not other client) [
    | inl e ↦ subst (λ (c : List ℕ). KeepsLocks c (part_of c h.steps)) (sym e)
        (subst (KeepsLocks client) (sym ends.part)
        (lawful_on client outside ends.earlier trail ends.kept keeps))
    | inr n ↦ others.each other n
  ];
}

-- a trail that keeps its client's locks keeps upgrades apart
pub keeps_apart : (client : List ℕ) (trail : List Event) → KeepsLocks client trail →
    KeepsApart client trail
keeps_apart client trail keeps h honest timely ends others =
    apart_in h honest timely (all_keep h client trail ends others keeps)
