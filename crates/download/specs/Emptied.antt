-- What a session does that was shown what looks like an emptied target.
use Rattle.std.specs.Prelude.{ℕ, ◌≡◌, ◌⊎◌, ◌++◌, List, [], ◌∷◌, true, Option, Some, None, Result, Ok, Err}
use Rattle.client.specs.Sites.{SiteNow}
use Rattle.conflicts.specs.declared.error.StepErr.{StepErr}
use Rattle.conflicts.specs.declared.error.StepErr.TheVariants.{NoMemory, Refused}
use Rattle.conflicts.specs.declared.refusal.Refusal.{Refusal}
use Rattle.conflicts.specs.declared.refusal.Refusal.TheVariants.{FailSafe}
use Rattle.jop_target.specs.declared.event.Event.{Event}
use Rattle.law_licences.specs.Deeds.{Deed, Asks, Ends, deeds_of}
use Rattle.law_licences.specs.Licences.{Each}
use Rattle.law_licences.specs.Pages.{emptied_by}
use Rattle.law_licences.specs.Views.{Shown, View, is_about_locks, seen}
use Rattle.local_store.specs.declared.change.Change.{Change}
use Rattle.session.specs.Work.{view_of}

-- how many items the client has a base of, if what it was shown looks like an emptied target
abbrev pub emptied_in : Option Shown → Option ℕ
emptied_in None = None
emptied_in (Some shown) = emptied_by shown

-- a call about locks, or the end of the session
abbrev pub IsLockDeed : Deed → Type 0
IsLockDeed (Asks call reply) = is_about_locks call ≡ true
IsLockDeed Ends = Unit {0}
IsLockDeed deed = ⊥

-- behind what looks like an emptied target no other deed may come
abbrev pub MayFollow : View → Deed → Type 0
MayFollow v deed = (emptied_in v.shown ≡ None) ⊎ IsLockDeed deed

-- what a session was shown last by these deeds, also once it has ended
unfoldable pub last_shown : View → List Deed → Option Shown
last_shown v [] = v.shown
last_shown v (Ends ∷ ds) = last_shown v ds
last_shown v (d ∷ ds) = last_shown (seen v d) ds

-- Behind what looks like an emptied target nothing was done but about locks; and if that was shown, this is
-- given for it.
pub record HeedsEmptied (Given : Refusal → Type 0) (v : View) (ds : List Deed) : Type 0 where
  pub stops : Each MayFollow v ds
  pub given : (count : ℕ) → emptied_in (last_shown v ds) ≡ Some count → Given (FailSafe count)

-- so it is of all that was done between
abbrev pub HeedsBetween : (Refusal → Type 0) → SiteNow → SiteNow → Type 0
HeedsBetween Given old new =
    (more : List Event) (changes : List Change)
    → new.line.trail ≡ old.line.trail ++ more → new.made ≡ old.made ++ changes
    → HeedsEmptied Given (view_of None old) (deeds_of more changes)

-- a part is refused so, or memory ran out
abbrev pub RefusesStep : {R : Type 0} → Result R StepErr → Refusal → Type 0
RefusesStep (Ok value) why = ⊥
RefusesStep (Err e) why = (e ≡ Refused why) ⊎ (e ≡ NoMemory)
