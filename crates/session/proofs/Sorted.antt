-- Work of one sort, in two parts.
use Rattle.std.specs.Prelude.{ℕ, ◌≡◌, List, [], ◌∷◌, ◌++◌, Bool, true, false, ◌&&◌}
use Rattle.jop_target.specs.declared.call.Call.{Call}
use Rattle.jop_target.specs.declared.event.Event.{Event}
use Rattle.lease.specs.Discipline.{Session, session_after, session_from}
use Rattle.session.specs.Steps.{is_sorted, works_by}

both : (a b c : Bool) → (a && b) ≡ true → (b ≡ true → c ≡ true) → (a && c) ≡ true
both true b c h k = k h
both false b c h k = h

pub works_by-append : (sort : Call → Bool) (client : List ℕ) (s : Session) (xs ys : List Event)
    → works_by sort client s xs ≡ true
    → works_by sort client (session_from client s xs) ys ≡ true
    → works_by sort client s (xs ++ ys) ≡ true
unfolding works_by session_from
works_by-append sort client s [] ys h k = k
works_by-append sort client s (x ∷ xs) ys h k =
    both (is_sorted sort client s x) (works_by sort client (session_after client s x) xs)
    (works_by sort client (session_after client s x) (xs ++ ys)) h
    (λ rest. works_by-append sort client (session_after client s x) xs ys rest k)
