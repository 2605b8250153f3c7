-- How a row that waited came to wait no more.
use Rattle.std.specs.Prelude.{ℕ, ◌≡◌, ◌⊎◌, List, [], ◌∷◌, Bool, true, false, refl}
use Rattle.std.proofs.Common.{inl, inr}
use Rattle.local_store.specs.Changing.{after}
use Rattle.local_store.specs.Tables.{row_at}
use Rattle.local_store.specs.declared.change.Change.{Change}
use Rattle.law_licences.specs.Checks.{is_pending}
use Rattle.law_licences.specs.Deeds.{Deed, Begins, Asks, Makes, MakesUntold, Ends, Stops, changes_in}
use Rattle.law_licences.specs.Licences.{AreWork, Each, IsInside, MayChange, MayDo}
use Rattle.law_licences.specs.Settling.{HasSettled}
use Rattle.law_licences.specs.Views.{View, view_after_change, view_after_call, view_from}
use Rattle.law_licences.proofs.EachChange.{settled_by}
use Rattle.law_licences.proofs.Settled.{made_inside, stays_inside}

made_if : (waits : Bool) (v : View) (c : Change) (cs : List Change) (id : List ℕ) (P : Type 0)
    → is_pending (row_at (after v.tables c) id) ≡ waits → MayChange v c
    → is_pending (row_at v.tables id) ≡ true
    → (is_pending (row_at (after v.tables c) id) ≡ true → P ⊎ HasSettled id cs)
    → P ⊎ HasSettled id (c ∷ cs)
unfolding HasSettled
made_if true v c cs id P e may was later = elim (later e) [
  | inl still ↦ inl still
  | inr settled ↦ inr (inr settled)
]
made_if false v c cs id P e may was later = inr (inl (settled_by v c id may was e))

-- a row that waited waits still, or was settled by one of the changes
pub settling-view_from : (v : View) (ds : List Deed) (id : List ℕ)
    → IsInside v.stage → AreWork ds → Each MayDo v ds → is_pending (row_at v.tables id) ≡ true
    → (is_pending (row_at (view_from v ds).tables id) ≡ true) ⊎ HasSettled id (changes_in ds)
unfolding view_from AreWork Each changes_in
settling-view_from v [] id inside work obeys was = inl was
settling-view_from v (Begins ∷ ds) id inside work obeys was = absurd work
settling-view_from v (Asks call reply ∷ ds) id inside work obeys was =
    settling-view_from (view_after_call v call reply) ds id inside work obeys.1 was
settling-view_from v (Makes c ∷ ds) id inside work obeys was =
    made_if (is_pending (row_at (after v.tables c) id)) v c (changes_in ds) id
    (is_pending (row_at (view_from (view_after_change v c) ds).tables id) ≡ true) refl
    (made_inside v.stage v c inside obeys.0) was
    (settling-view_from (view_after_change v c) ds id
    (stays_inside v.stage c inside) work.1 obeys.1)
settling-view_from v (MakesUntold ∷ ds) id inside work obeys was = absurd work
settling-view_from v (Ends ∷ ds) id inside work obeys was = absurd work
settling-view_from v (Stops ∷ ds) id inside work obeys was = absurd work
