-- Which changes a part of a session may make, and which one after the other.
use Rattle.std.specs.Prelude.{◌≡◌, List, [], ◌∷◌, Option}
use Rattle.client.specs.Sites.{SiteNow}
use Rattle.conflicts.specs.declared.error.StepErr.{StepErr}
use Rattle.conflicts.specs.declared.error.StepErr.TheVariants.{KeeperFault, NoMemory}
use Rattle.law_licences.specs.Licences.{MayChange}
use Rattle.law_licences.specs.Views.{Shown, View, Working, stage_after}
use Rattle.local_store.specs.Changing.{after}
use Rattle.local_store.specs.Sound.{IsAllowed}
use Rattle.local_store.specs.declared.change.Change.{Change}
use Rattle.session.specs.Work.{MayBeShown, view_of}

-- the change has its licence, whatever the session was shown that is known
abbrev pub MayMakeBy : Option Shown → SiteNow → Change → Type 0
MayMakeBy known d change =
    (shown : Option Shown) → MayBeShown known shown → MayChange (view_of shown d) change

-- the change has its licence now, and isn't the session's last one
pub record MayMakeNow (v : View) (change : Change) : Type 0 where
  pub allowed : IsAllowed change
  pub may : MayChange v change
  pub more : stage_after Working change ≡ Working

-- each of these changes does behind those before it
unfoldable pub MayMakeAll : View → List Change → Type 0
MayMakeAll v [] = Unit {0}
MayMakeAll v (c ∷ cs) =
    MayMakeNow v c × MayMakeAll (record v { tables = after v.tables c }) cs

-- so do these, whatever the session was shown that is known
abbrev pub MayMakeAllBy : Option Shown → SiteNow → List Change → Type 0
MayMakeAllBy known d changes =
    (shown : Option Shown) → MayBeShown known shown → MayMakeAll (view_of shown d) changes

-- a change gave nothing since the keeper failed, or for want of memory
abbrev pub IsUnkept : StepErr → Type 0
IsUnkept KeeperFault = Unit {0}
IsUnkept NoMemory = Unit {0}
IsUnkept e = ⊥
