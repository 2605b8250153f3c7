-- No session makes a row wait to be uploaded.
use Rattle.std.specs.Prelude.{ℕ, ◌≡◌, List, [], ◌∷◌, true}
use Rattle.local_store.proofs.Keeping.{after_sound}
use Rattle.local_store.specs.Sound.{IsSound}
use Rattle.local_store.specs.Tables.{row_at}
use Rattle.local_store.specs.declared.change.Change.{Change}
use Rattle.local_store.specs.declared.change.Change.TheVariants.{ContextIs}
use Rattle.law_licences.proofs.EachChange.{pending-after}
use Rattle.law_licences.specs.Checks.{is_pending}
use Rattle.law_licences.specs.Deeds.{Deed, Begins, Asks, Makes, MakesUntold, Ends, Stops}
use Rattle.law_licences.specs.Licences.{AreWork, Each, IsInside, MayChange, MayDo, MayMakeAt}
use Rattle.law_licences.specs.Views.{View, Stage, Outside, Working, Finished, view_after_change, view_after_call, stage_after, view_from}

-- a session's change has its licence while it works, and none afterwards
pub made_inside : (stage : Stage) (v : View) (c : Change) → IsInside stage → MayMakeAt stage v c
    → MayChange v c
made_inside Outside v c inside may = absurd inside
made_inside Working v c inside may = may
made_inside Finished v c inside may = absurd may

pub stays_inside : (stage : Stage) (c : Change) → IsInside stage → IsInside (stage_after stage c)
stays_inside stage (ContextIs context) inside = tt
stays_inside stage c inside = inside

pub pending-view_from : (v : View) (ds : List Deed) (id : List ℕ)
    → IsSound v.tables → IsInside v.stage → AreWork ds → Each MayDo v ds
    → is_pending (row_at (view_from v ds).tables id) ≡ true
    → is_pending (row_at v.tables id) ≡ true
unfolding view_from AreWork Each
pending-view_from v [] id sound inside work obeys h = h
pending-view_from v (Begins ∷ ds) id sound inside work obeys h = absurd work
pending-view_from v (Asks call reply ∷ ds) id sound inside work obeys h =
    pending-view_from (view_after_call v call reply) ds id sound inside work obeys.1 h
pending-view_from v (Makes c ∷ ds) id sound inside work obeys h =
    pending-after v v.tables c id sound.rows_ordered
    (made_inside v.stage v c inside obeys.0)
    (pending-view_from (view_after_change v c) ds id
    (after_sound v.tables c sound work.0) (stays_inside v.stage c inside) work.1 obeys.1 h)
pending-view_from v (MakesUntold ∷ ds) id sound inside work obeys h = absurd work
pending-view_from v (Ends ∷ ds) id sound inside work obeys h = absurd work
pending-view_from v (Stops ∷ ds) id sound inside work obeys h = absurd work
