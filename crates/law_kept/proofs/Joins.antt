-- A run that obeys, behind what its client did before and beside what the others do with an item, is part of a
-- history in which all do with it what they may.
use Rattle.std.proofs.Common.{◌≡◌, ◌∙◌, refl, sym, ap, subst, cond, inl, inr, ℕ, List, [], ◌∷◌, ◌++◌, Bool, true, false, Option, Some, None}
use Rattle.std.specs.Prelude.{All, bytes_eq, option_to_list}
use Rattle.std.proofs.lemmas.List.Elements.{All-head, All-tail}
use Rattle.jop_target.specs.History as target
use Rattle.jop_target.specs.declared.event.Event.{Event}
use Rattle.local_store.proofs.Telling.{changes_of_run}
use Rattle.local_store.specs.Tale.{Tale, TaleStep, IsBeside, IsToldStep, plain_steps, changes_of}
use Rattle.local_store.specs.declared.change.Change.{Change}
use Rattle.local_store.specs.declared.tables.Tables.{Tables}
use Rattle.law_licences.proofs.Joins.{Each-append}
use Rattle.law_licences.specs.Deeds.{Deed, Begins, Asks, Makes, MakesUntold, Ends, Stops, deed_by, deeds_in, deeds_of}
use Rattle.law_licences.specs.Licences.{Each, MayDoBySome, ObeysBySome, ObeysData}
use Rattle.law_licences.specs.Sealing.{Sealing, no_keys}
use Rattle.law_licences.proofs.Keyed.{by_some, by_some_keyed}
use Rattle.law_licences.specs.Views.{View, seen, at_rest, view_from}
use Rattle.law_kept.proofs.Clients.{same_or_not}
use Rattle.law_kept.proofs.Keeping.{item_obeyed}
use Rattle.law_kept.specs.Fair.{AllObey, DoesAsItMay}
use Rattle.law_kept.specs.FairTables.{new_view, ClientObeys}
use Rattle.law_kept.specs.Telling.{steps_of}
use Rattle.law_licences.specs.Items.{item_of_file}
use Rattle.law_kept.specs.Trails.{IsStop, IsUnstopped, AreStops, EndsInRun, OthersObey}

-- ---- deeds

deeds_if : (d : Deed) (ds es : List Deed) (mine : Bool)
    → cond mine (d ∷ (ds ++ es)) (ds ++ es) ≡ cond mine (d ∷ ds) ds ++ es
deeds_if d ds es true = refl
deeds_if d ds es false = refl

deeds_in-append : (client : List ℕ) (ss rs : List TaleStep)
    → deeds_in client (ss ++ rs) ≡ deeds_in client ss ++ deeds_in client rs
unfolding deeds_in
deeds_in-append client [] rs = refl
deeds_in-append client (s ∷ ss) rs =
    ap
    (λ (ds : List Deed). cond (bytes_eq s.step.client client)
    (deed_by s.step.happens s.change ∷ ds) ds)
    (deeds_in-append client ss rs)
    ∙ deeds_if (deed_by s.step.happens s.change) (deeds_in client ss) (deeds_in client rs)
    (bytes_eq s.step.client client)

-- a step of the run, told by its event and its change
deed_told : (x : target.Happening) (change : Option Change) (es : List Event) (cs : List Change)
    → IsBeside x change → ¬ IsStop x
    → deeds_of (target.noted x ++ es) (option_to_list change ++ cs)
    ≡ deed_by x change ∷ deeds_of es cs
unfolding deeds_of
deed_told target.Begins None es cs beside goes = refl
deed_told target.Begins (Some c) es cs beside goes = absurd beside
deed_told (target.Answered call reply landed) None es cs beside goes = refl
deed_told (target.Answered call reply landed) (Some c) es cs beside goes = absurd beside
deed_told (target.Unheard call landed) None es cs beside goes = refl
deed_told (target.Unheard call landed) (Some c) es cs beside goes = absurd beside
deed_told (target.Changed number) None es cs beside goes = absurd beside
deed_told (target.Changed number) (Some c) es cs beside goes = refl
deed_told target.Ends None es cs beside goes = refl
deed_told target.Ends (Some c) es cs beside goes = absurd beside
deed_told target.Stopped change es cs beside goes = absurd (goes tt)

told_if : (x : target.Happening) (change : Option Change) (es : List Event) (cs : List Change)
    (ds : List Deed) (mine : Bool)
    → IsBeside x change → (mine ≡ true → ¬ IsStop x) → deeds_of es cs ≡ ds
    → deeds_of (cond mine (target.noted x ++ es) es) (cond mine (option_to_list change) [] ++ cs)
    ≡ cond mine (deed_by x change ∷ ds) ds
told_if x change es cs ds true beside goes same =
    deed_told x change es cs beside (goes refl)
    ∙ ap (λ (rest : List Deed). deed_by x change ∷ rest) same
told_if x change es cs ds false beside goes same = same

-- what a trail and its changes tell is what was done
deeds_told : (client : List ℕ) (ss : List TaleStep) → All IsToldStep ss
    → All (IsUnstopped client) ss
    → deeds_of (target.part_of client (plain_steps ss)) (changes_of client ss)
    ≡ deeds_in client ss
unfolding deeds_of deeds_in changes_of
deeds_told client [] told goes = refl
deeds_told client (s ∷ ss) told goes =
    told_if s.step.happens s.change (target.part_of client (plain_steps ss)) (changes_of client ss)
    (deeds_in client ss) (bytes_eq s.step.client client) (All-head IsToldStep s ss told)
    (All-head (IsUnstopped client) s ss goes)
    (deeds_told client ss (All-tail IsToldStep s ss told) (All-tail (IsUnstopped client) s ss goes))

-- ---- all obey

stops_obey : (v : View) (ds : List Deed) → AreStops ds → ObeysBySome v ds
unfolding Each AreStops
stops_obey v [] over = tt
stops_obey v (Stops ∷ ds) over = ((v.sealing, tt), stops_obey (seen v Stops) ds over)
stops_obey v (Begins ∷ ds) over = absurd over
stops_obey v (Asks call reply ∷ ds) over = absurd over
stops_obey v (Makes change ∷ ds) over = absurd over
stops_obey v (MakesUntold ∷ ds) over = absurd over
stops_obey v (Ends ∷ ds) over = absurd over

-- what the client did in the run is what it tells
run_told : (tale : Tale) (client : List ℕ) (t : Tables) (trail : List Event) (made : List Change)
    (ends : EndsInRun tale client t trail made) → deeds_of trail made ≡ deeds_in client ends.run
run_told tale client t trail made ends =
    let changes = changes_of_run client trail made ends.run ends.told in
    ap (λ (es : List Event). deeds_of es made) (sym ends.told.part)
    ∙ (ap (λ (cs : List Change). deeds_of (target.part_of client (plain_steps ends.run)) cs)
    (sym changes)
    ∙ deeds_told client ends.run ends.told.told ends.whole)

client_obeys : (tale : Tale) (client : List ℕ) (s : Sealing) (t : Tables) (trail : List Event)
    (made : List Change) → EndsInRun tale client t trail made
    → ObeysData (at_rest s t) (deeds_of trail made) → ClientObeys tale client
client_obeys tale client s t trail made ends obeys =
    let first = deeds_in client ends.earlier in
    let run = deeds_in client ends.run in
    let later = deeds_in client ends.later in
    let told = subst (λ (ds : List Deed). ObeysData (at_rest s t) ds)
    (run_told tale client t trail made ends) obeys in
    let some = by_some_keyed no_keys (at_rest s t) run (by_some (at_rest s t) run told) in
    let seen_there = subst (λ (v : View). ObeysBySome v run) (sym ends.left) some in
    let last = stops_obey (view_from (view_from new_view first) run) later ends.over in
    let both = Each-append MayDoBySome (view_from new_view first) run later seen_there last in
    let all = Each-append MayDoBySome new_view first (run ++ later) ends.obeyed both in
    let parts : deeds_in client tale.steps ≡ first ++ (run ++ later) =
    ap (deeds_in client) ends.steps
    ∙ (deeds_in-append client ends.earlier (ends.run ++ ends.later)
    ∙ ap (λ (ds : List Deed). first ++ ds) (deeds_in-append client ends.run ends.later)) in
    subst (λ (ds : List Deed). ObeysBySome new_view ds) (sym parts) all

pub all_obey : (id : List ℕ) (tale : Tale) (client : List ℕ) (s : Sealing) (t : Tables)
    (trail : List Event) (made : List Change)
    → EndsInRun tale client t trail made → OthersObey id tale client
    → ObeysData (at_rest s t) (deeds_of trail made)
    → AllObey (item_of_file id) (steps_of id tale)
all_obey id tale client s t trail made ends others obeys other = elim (same_or_not other client) [
  | inl same ↦
      subst (λ (c : List ℕ). DoesAsItMay (item_of_file id) (steps_of id tale) c) (sym same)
      (item_obeyed id client tale (client_obeys tale client s t trail made ends obeys))
  | inr differ ↦ others other differ
]
