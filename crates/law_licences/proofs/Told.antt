-- What a trail tells of deeds.
use Rattle.std.specs.Prelude.{ℕ, ◌≡◌, ◌+◌, List, [], ◌∷◌, ◌++◌, length, Some, None, refl}
use Rattle.std.proofs.Common.{sym, ap, ◌∙◌, arith, suc, add-zero}
use Rattle.std.proofs.lemmas.List.{append_assoc}
use Rattle.jop_target.specs.declared.event.Event.{Event}
use Rattle.jop_target.specs.declared.event.Event.TheVariants.{Sent, Called, Made}
use Rattle.local_store.specs.Changing.{after_all}
use Rattle.local_store.specs.declared.change.Change.{Change}
use Rattle.law_licences.specs.Deeds.{Deed, Begins, Asks, Makes, MakesUntold, Ends, Stops, change_by, changes_in, deeds_of, events_of}
use Rattle.law_licences.specs.Licences.{AreWork}
use Rattle.law_licences.specs.Trails.{calls_after, calls_from}
use Rattle.law_licences.specs.Views.{Heard, View, view_after_change, view_after_call, view_from}

pub calls_from-append : (calls : List Heard) (es fs : List Event)
    → calls_from calls (es ++ fs) ≡ calls_from (calls_from calls es) fs
unfolding calls_from
calls_from-append calls [] fs = refl
calls_from-append calls (e ∷ es) fs = calls_from-append (calls_after calls e) es fs

-- work is told by its events and its changes
pub deeds_of-events_of : (n : ℕ) (ds : List Deed) → AreWork ds
    → deeds_of (events_of n ds) (changes_in ds) ≡ ds
unfolding AreWork deeds_of events_of changes_in
deeds_of-events_of n [] work = refl
deeds_of-events_of n (Begins ∷ ds) work = absurd work
deeds_of-events_of n (Asks call None ∷ ds) work =
    ap (λ (rest : List Deed). Asks call None ∷ rest) (deeds_of-events_of n ds work)
deeds_of-events_of n (Asks call (Some reply) ∷ ds) work =
    ap (λ (rest : List Deed). Asks call (Some reply) ∷ rest) (deeds_of-events_of n ds work)
deeds_of-events_of n (Makes c ∷ ds) work =
    ap (λ (rest : List Deed). Makes c ∷ rest) (deeds_of-events_of (n + 1) ds work.1)
deeds_of-events_of n (MakesUntold ∷ ds) work = absurd work
deeds_of-events_of n (Ends ∷ ds) work = absurd work
deeds_of-events_of n (Stops ∷ ds) work = absurd work

-- ---- two parts

pub changes_in-append : (ds es : List Deed)
    → changes_in (ds ++ es) ≡ changes_in ds ++ changes_in es
unfolding changes_in
changes_in-append [] es = refl
changes_in-append (d ∷ ds) es =
    ap (λ (cs : List Change). change_by d ++ cs) (changes_in-append ds es)
    ∙ sym (append_assoc (change_by d) (changes_in ds) (changes_in es))

pub AreWork-append : (ds es : List Deed) → AreWork ds → AreWork es → AreWork (ds ++ es)
unfolding AreWork
AreWork-append [] es h k = k
AreWork-append (Begins ∷ ds) es h k = absurd h
AreWork-append (Asks call reply ∷ ds) es h k = AreWork-append ds es h k
AreWork-append (Makes c ∷ ds) es h k = (h.0, AreWork-append ds es h.1 k)
AreWork-append (MakesUntold ∷ ds) es h k = absurd h
AreWork-append (Ends ∷ ds) es h k = absurd h
AreWork-append (Stops ∷ ds) es h k = absurd h

-- the second part's numbers begin behind the first part's changes
pub events_of-append : (n : ℕ) (ds es : List Deed) → AreWork ds
    → events_of n (ds ++ es) ≡ events_of n ds ++ events_of (n + length (changes_in ds)) es
unfolding AreWork events_of changes_in
events_of-append n [] es work = ap (λ (m : ℕ). events_of m es) (sym (add-zero n))
events_of-append n (Begins ∷ ds) es work = absurd work
events_of-append n (Asks call None ∷ ds) es work =
    ap (λ (rest : List Event). Sent call ∷ rest) (events_of-append n ds es work)
events_of-append n (Asks call (Some reply) ∷ ds) es work =
    ap (λ (rest : List Event). Called call reply ∷ rest) (events_of-append n ds es work)
events_of-append n (Makes c ∷ ds) es work =
    let more : n + 1 + length (changes_in ds) ≡ n + suc (length (changes_in ds)) = omega arith in
    ap (λ (rest : List Event). Made n ∷ rest)
    (events_of-append (n + 1) ds es work.1
    ∙ ap (λ (m : ℕ). events_of (n + 1) ds ++ events_of m es) more)
events_of-append n (MakesUntold ∷ ds) es work = absurd work
events_of-append n (Ends ∷ ds) es work = absurd work
events_of-append n (Stops ∷ ds) es work = absurd work

-- ---- what is seen

-- the calls that are seen are those of the trail
pub calls-view_from : (n : ℕ) (v : View) (ds : List Deed) → AreWork ds
    → (view_from v ds).calls ≡ calls_from v.calls (events_of n ds)
unfolding AreWork view_from events_of calls_from
calls-view_from n v [] work = refl
calls-view_from n v (Begins ∷ ds) work = absurd work
calls-view_from n v (Asks call None ∷ ds) work =
    calls-view_from n (view_after_call v call None) ds work
calls-view_from n v (Asks call (Some reply) ∷ ds) work =
    calls-view_from n (view_after_call v call (Some reply)) ds work
calls-view_from n v (Makes c ∷ ds) work = calls-view_from (n + 1) (view_after_change v c) ds work.1
calls-view_from n v (MakesUntold ∷ ds) work = absurd work
calls-view_from n v (Ends ∷ ds) work = absurd work
calls-view_from n v (Stops ∷ ds) work = absurd work

-- the tables that are seen are those after the changes
pub tables-view_from : (v : View) (ds : List Deed) → AreWork ds
    → (view_from v ds).tables ≡ after_all v.tables (changes_in ds)
unfolding AreWork view_from changes_in after_all
tables-view_from v [] work = refl
tables-view_from v (Begins ∷ ds) work = absurd work
tables-view_from v (Asks call reply ∷ ds) work =
    tables-view_from (view_after_call v call reply) ds work
tables-view_from v (Makes c ∷ ds) work = tables-view_from (view_after_change v c) ds work.1
tables-view_from v (MakesUntold ∷ ds) work = absurd work
tables-view_from v (Ends ∷ ds) work = absurd work
tables-view_from v (Stops ∷ ds) work = absurd work
