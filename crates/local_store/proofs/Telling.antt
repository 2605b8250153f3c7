-- What the tables of a client are at a place of a history that is told with its changes.
use Rattle.std.specs.Prelude.{ℕ, ◌≡◌, ◌+◌, List, [], ◌∷◌, ◌++◌, take, drop, length, slice_get, All, Bool, true, false, if◌then◌else◌, bytes_eq, Option, Some, None, option_to_list, refl}
use Rattle.std.proofs.Common.{sym, ◌∙◌, ap, subst, zero, suc, add-one}
use Rattle.std.proofs.lemmas.List.{append_assoc, take-append-drop}
use Rattle.std.proofs.Math.Seq.{take-append_seam, take-length}
use Rattle.std.proofs.lemmas.List.Elements.{All-cons, All-head, All-tail, All-nil}
use Rattle.jop_target.specs.History.{Happening, Begins, Answered, Unheard, Changed, Ends, Stopped, noted, part_of}
use Rattle.jop_target.specs.declared.event.Event.{Event}
use Rattle.jop_target.specs.declared.tree.Tree.{Tree}
use Rattle.local_store.specs.declared.change.Change.{Change}
use Rattle.local_store.specs.declared.tables.Tables.{Tables}
use Rattle.local_store.specs.Changing.{after, after_all}
use Rattle.local_store.specs.Sound.{IsSound, IsAllowed}
use Rattle.local_store.specs.Tables.{new_tables}
use Rattle.local_store.specs.Tale.{Tale, TaleStep, plain_steps, IsBeside, IsToldStep, change_of, changes_of, tables_at, MakesAllowed, made_in, numbers_from, PointsInto, PointsRight, IsRun}
use Rattle.local_store.proofs.Keeping.{after_sound, new_sound}

pub after_all-append : (t : Tables) (cs ds : List Change)
    → after_all t (cs ++ ds) ≡ after_all (after_all t cs) ds
unfolding after_all
after_all-append t [] ds = refl
after_all-append t (c ∷ cs) ds = after_all-append (after t c) cs ds

changes_of-append : (client : List ℕ) (ss rs : List TaleStep)
    → changes_of client (ss ++ rs) ≡ changes_of client ss ++ changes_of client rs
unfolding changes_of
changes_of-append client [] rs = refl
changes_of-append client (s ∷ ss) rs =
    ap (λ (cs : List Change). change_of client s ++ cs) (changes_of-append client ss rs)
    ∙ sym (append_assoc (change_of client s) (changes_of client ss) (changes_of client rs))

pub after_all_sound : (t : Tables) (cs : List Change) → IsSound t → All IsAllowed cs
    → IsSound (after_all t cs)
unfolding after_all
after_all_sound t [] sound allowed = sound
after_all_sound t (c ∷ cs) sound allowed =
    after_all_sound (after t c) cs
    (after_sound t c sound (All-head IsAllowed c cs allowed)) (All-tail IsAllowed c cs allowed)

All-before : {T : Type 0} (P : T → Type 0) (xs ys : List T) → All P (xs ++ ys) → All P xs
All-before P [] ys all = All-nil P
All-before P (x ∷ xs) ys all =
    All-cons P x xs (All-head P x (xs ++ ys) all) (All-before P xs ys (All-tail P x (xs ++ ys) all))

-- the changes from a place on come behind those up to it
parted : (client : List ℕ) (ss : List TaleStep) (place : ℕ)
    → changes_of client ss ≡ changes_of client (take place ss) ++ changes_of client (drop place ss)
parted client ss place =
    ap (λ (rs : List TaleStep). changes_of client rs) (sym (take-append-drop place ss))
    ∙ changes_of-append client (take place ss) (drop place ss)

pub tables_sound : (tale : Tale) (client : List ℕ) (place : ℕ) → MakesAllowed tale client
    → IsSound (tables_at tale client place)
tables_sound tale client place allowed =
    after_all_sound new_tables (changes_of client (take place tale.steps)) new_sound
    (All-before IsAllowed (changes_of client (take place tale.steps))
    (changes_of client (drop place tale.steps))
    (subst (λ (cs : List Change). All IsAllowed cs) (parted client tale.steps place) allowed))

-- behind other steps, tables change by what the client changes in the later ones
pub tables_behind : (opening : Tree) (ss rs : List TaleStep) (client : List ℕ)
    → tables_at (record { opening = opening; steps = ss ++ rs }) client (length (ss ++ rs))
    ≡ after_all (tables_at (record { opening = opening; steps = ss ++ rs }) client (length ss))
    (changes_of client rs)
tables_behind opening ss rs client =
    ap (λ (all : List TaleStep). after_all new_tables (changes_of client all)) (take-length (ss ++ rs))
    ∙ (ap (λ (cs : List Change). after_all new_tables cs) (changes_of-append client ss rs)
    ∙ (after_all-append new_tables (changes_of client ss) (changes_of client rs)
    ∙ ap (λ (all : List TaleStep). after_all (after_all new_tables (changes_of client all)) (changes_of client rs))
    (sym (take-append_seam ss rs))))

-- ---- one run

get-drop : (xs : List Change) (n : ℕ) (d : Change) (ds : List Change) → drop n xs ≡ d ∷ ds
    → slice_get xs n ≡ Some d
get-drop [] zero d ds at = cc
get-drop [] (suc n) d ds at = cc
get-drop (x ∷ xs) zero d ds at = cc
get-drop (x ∷ xs) (suc n) d ds at = get-drop xs n d ds at

drop-one : (xs : List Change) (n : ℕ) (d : Change) (ds : List Change) → drop n xs ≡ d ∷ ds
    → drop (n + 1) xs ≡ ds
drop-one xs n d ds at = ap (λ (m : ℕ). drop m xs) (add-one n) ∙ by xs n d ds at where
  by : (xs : List Change) (n : ℕ) (d : Change) (ds : List Change) → drop n xs ≡ d ∷ ds
      → drop (suc n) xs ≡ ds
  by [] zero d ds at = cc
  by [] (suc n) d ds at = cc
  by (x ∷ xs) zero d ds at = cc
  by (x ∷ xs) (suc n) d ds at = by xs n d ds at

-- if the later changes are the rest of the list, then so are they with the one that is made here
made_here : (made : List Change) (h : Happening) (change : Option Change) (es : List Event)
    (cs : List Change) (n : ℕ) (rest : List Change)
    → drop n made ≡ rest → IsBeside h change → PointsInto made h change
    → made_in (noted h ++ es) ≡ numbers_from n rest
    → ((m : ℕ) (later : List Change) → drop m made ≡ later → made_in es ≡ numbers_from m later
    → cs ≡ later)
    → option_to_list change ++ cs ≡ rest
unfolding made_in
made_here made Begins None es cs n rest at beside points same later = later n rest at same
made_here made Begins (Some c) es cs n rest at beside points same later = absurd beside
made_here made (Answered call reply landed) None es cs n rest at beside points same later =
    later n rest at same
made_here made (Answered call reply landed) (Some c) es cs n rest at beside points same later =
    absurd beside
made_here made (Unheard call landed) None es cs n rest at beside points same later =
    later n rest at same
made_here made (Unheard call landed) (Some c) es cs n rest at beside points same later =
    absurd beside
made_here made (Changed number) None es cs n rest at beside points same later = absurd beside
made_here made (Changed number) (Some c) es cs n [] at beside points same later = cc
made_here made (Changed number) (Some c) es cs n (d ∷ ds) at beside points same later =
    let is_next : number ≡ n = cc in
    let others : made_in es ≡ numbers_from (n + 1) ds = cc in
    let there = get-drop made n d ds at in
    let is : c ≡ d = cc in
    let behind = later (n + 1) ds (drop-one made n d ds at) others in
    cc
made_here made Ends None es cs n rest at beside points same later = later n rest at same
made_here made Ends (Some c) es cs n rest at beside points same later = absurd beside
made_here made Stopped None es cs n rest at beside points same later = later n rest at same
made_here made Stopped (Some c) es cs n rest at beside points same later = absurd beside

by_client : (mine : Bool) (made : List Change) (h : Happening) (change : Option Change) (es : List Event)
    (cs : List Change) (n : ℕ) (rest : List Change)
    → drop n made ≡ rest → IsBeside h change → (mine ≡ true → PointsInto made h change)
    → made_in (if mine then noted h ++ es else es) ≡ numbers_from n rest
    → ((m : ℕ) (later : List Change) → drop m made ≡ later → made_in es ≡ numbers_from m later
    → cs ≡ later)
    → (if mine then option_to_list change else []) ++ cs ≡ rest
by_client true made h change es cs n rest at beside points same later =
    made_here made h change es cs n rest at beside (points refl) same later
by_client false made h change es cs n rest at beside points same later = later n rest at same

made_from : (client : List ℕ) (made : List Change) (ss : List TaleStep) (n : ℕ) (rest : List Change)
    → All IsToldStep ss → All (PointsRight client made) ss → drop n made ≡ rest
    → made_in (part_of client (plain_steps ss)) ≡ numbers_from n rest
    → changes_of client ss ≡ rest
unfolding made_in changes_of
made_from client made [] n [] told points at same = refl
made_from client made [] n (c ∷ cs) told points at same = cc
made_from client made (s ∷ ss) n rest told points at same =
    by_client (bytes_eq s.step.client client) made s.step.happens s.change
    (part_of client (plain_steps ss)) (changes_of client ss) n rest at
    (All-head IsToldStep s ss told) (All-head (PointsRight client made) s ss points) same
    (λ m later behind others. made_from client made ss m later
    (All-tail IsToldStep s ss told) (All-tail (PointsRight client made) s ss points) behind others)

-- what a client changes in the steps of a run is the run's own list
pub changes_of_run : (client : List ℕ) (trail : List Event) (made : List Change)
    (ss : List TaleStep) → IsRun client trail made ss → changes_of client ss ≡ made
changes_of_run client trail made ss run =
    made_from client made ss 0 made run.told run.points refl
    (ap made_in run.part ∙ run.numbered)
