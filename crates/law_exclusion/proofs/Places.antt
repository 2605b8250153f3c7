-- Places of a history, one behind another: what happens from a place to the next.
use Rattle.std.proofs.Common.{◌≡◌, ◌∙◌, refl, sym, ap, ℕ, zero, suc, List, [], ◌∷◌, ◌++◌, append_assoc, append-nil, drop, Bool, true, false, cond, Some, None}
use Rattle.std.specs.Prelude.{bytes_eq, take, slice_get}
use Rattle.std.proofs.lemmas.List.{take-append-drop}
use Rattle.std.proofs.lemmas.Slice.Eq.{bytes_eq-Decides}
use Rattle.jop_target.specs.History.{Step, tree_from, noted, part_of}
use Rattle.jop_target.specs.declared.event.Event.{Event}
use Rattle.lease.proofs.Invariant.{apart}
use Rattle.lease.proofs.World.{World, happens, run}

pub take_next : (ss : List Step) (place : ℕ) (s : Step) → slice_get ss place ≡ Some s →
    take (suc place) ss ≡ take place ss ++ s ∷ []
take_next [] place s e = cc
take_next (t ∷ ss) zero s e = let same : t ≡ s = cc in ap (λ (r : Step). r ∷ []) same
take_next (t ∷ ss) (suc place) s e = ap (λ (rs : List Step). t ∷ rs) (take_next ss place s e)

-- past the end nothing happens
pub take_past : (ss : List Step) (place : ℕ) → slice_get ss place ≡ None →
    take (suc place) ss ≡ take place ss
take_past [] zero e = refl
take_past [] (suc place) e = refl
take_past (t ∷ ss) zero e = cc
take_past (t ∷ ss) (suc place) e = ap (λ (rs : List Step). t ∷ rs) (take_past ss place e)

part_if : (b : Bool) (xs ys zs : List Event) →
    cond b (xs ++ (ys ++ zs)) (ys ++ zs) ≡ cond b (xs ++ ys) ys ++ zs
part_if true xs ys zs = sym (append_assoc xs ys zs)
part_if false xs ys zs = refl

pub part_of-append : (client : List ℕ) (ss ts : List Step) →
    part_of client (ss ++ ts) ≡ part_of client ss ++ part_of client ts
part_of-append client [] ts = refl
part_of-append client (s ∷ ss) ts =
    ap (λ (es : List Event). cond (bytes_eq s.client client) (noted s.happens ++ es) es)
    (part_of-append client ss ts)
    ∙ part_if (bytes_eq s.client client) (noted s.happens) (part_of client ss) (part_of client ts)

-- the part of a step's client goes on by what is noted
pub part-own : (ss : List Step) (s : Step) →
    part_of s.client (ss ++ s ∷ []) ≡ part_of s.client ss ++ noted s.happens
part-own ss s =
    let same : bytes_eq s.client s.client ≡ true = (bytes_eq-Decides s.client s.client).1 refl in
    part_of-append s.client ss (s ∷ [])
    ∙ ap (λ (es : List Event). part_of s.client ss ++ es)
    (rw same (append-nil (noted s.happens)))

-- that of another stays
pub part-other : (client : List ℕ) (ss : List Step) (s : Step) → ¬ (s.client ≡ client) →
    part_of client (ss ++ s ∷ []) ≡ part_of client ss
part-other client ss s n =
    part_of-append client ss (s ∷ [])
    ∙ ap (λ (es : List Event). part_of client ss ++ es) (rw (apart s.client client n) refl)
    ∙ append-nil (part_of client ss)

run-append : (w : World) (ss ts : List Step) → run w (ss ++ ts) ≡ run (run w ss) ts
run-append w [] ts = refl
run-append w (s ∷ ss) ts = run-append (happens w s) ss ts

pub run-next : (w : World) (ss : List Step) (s : Step) →
    run w (ss ++ s ∷ []) ≡ happens (run w ss) s
run-next w ss s = run-append w ss (s ∷ [])

pub tree-run : (w : World) (ss : List Step) → (run w ss).tree ≡ tree_from w.tree ss
unfolding tree_from
tree-run w [] = refl
tree-run w (s ∷ ss) = tree-run (happens w s) ss

-- a part up to a place is the front of the whole
pub part-front : (client : List ℕ) (ss : List Step) (place : ℕ) →
    part_of client ss ≡ part_of client (take place ss) ++ part_of client (drop place ss)
part-front client ss place =
    ap (part_of client) (sym (take-append-drop place ss))
    ∙ part_of-append client (take place ss) (drop place ss)
