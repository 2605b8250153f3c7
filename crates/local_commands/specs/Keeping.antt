-- What acts do to what is kept, and what is written down of them.
use Rattle.std.specs.Prelude.{ℕ, ◌+◌, ◌≡◌, List, [], ◌∷◌, ◌++◌, length, Bool, true, Result, Ok, Err, option_map}
use Rattle.client.specs.Outside.{OutsideNow}
use Rattle.jop_outside.specs.Outside.{HasRisen}
use Rattle.jop_target.specs.declared.event.Event.{Event}
use Rattle.jop_target.specs.declared.event.Event.TheVariants.{Made}
use Rattle.keeper.specs.Keepers.{Kept, changed, with_saved_blob}
use Rattle.keeper.specs.declared.keeper_err.KeeperErr.{KeeperErr}
use Rattle.keeper.specs.declared.keeper_err.KeeperErr.TheVariants.{Fault, NoMemory}
use Rattle.law_licences.specs.Licences.{IsLocal}
use Rattle.local_store.specs.Sound.{IsAllowed}
use Rattle.local_store.specs.declared.change.Change.{Change}
use Rattle.local_commands.specs.declared.act.Act.{Act}
use Rattle.local_commands.specs.declared.act.Act.TheVariants.{SaveBlob, MakeChange}

-- ---- what is kept

-- what is kept after an act
abbrev pub kept_after : Act → Kept → Kept
kept_after (SaveBlob blob) k = with_saved_blob blob.id blob.bytes k
kept_after (MakeChange change) k = changed change k

-- what is kept after acts, the first one first
abbrev pub kept_after_all : List Act → Kept → Kept
kept_after_all [] k = k
kept_after_all (act ∷ acts) k = kept_after_all acts (kept_after act k)

-- ---- what is written down

-- the changes among acts, in order
abbrev pub changes_among : List Act → List Change
changes_among [] = []
changes_among (SaveBlob blob ∷ acts) = changes_among acts
changes_among (MakeChange change ∷ acts) = change ∷ changes_among acts

-- the trail of these changes alone, the first of which has this number
abbrev pub trail_of : ℕ → List Change → List Event
trail_of from [] = []
trail_of from (change ∷ made) = Made from ∷ trail_of (from + 1) made

-- these changes were written down, and their numbers in the trail
pub record AreNoted (changes : List Change) (old new : OutsideNow) : Type 0 where
  pub made : new.made ≡ old.made ++ changes
  pub trail : new.line.trail ≡ old.line.trail ++ trail_of (length old.made) changes

-- ---- acts in a row

-- these acts made what is kept of what was kept, and the changes among them are written down
pub record AreDone (acts : List Act) (old new : OutsideNow) : Type 0 where
  pub kept : new.keeper.kept ≡ option_map (kept_after_all acts) old.keeper.kept
  pub noted : AreNoted (changes_among acts) old new

-- some of the acts were done, the first ones
pub record DoesSome (acts : List Act) (old new : OutsideNow) : Type 0 where
  pub front : List Act
  pub rest : List Act
  pub split : acts ≡ front ++ rest
  pub done : AreDone front old new

-- all acts are done, or the first ones, up to one that is refused
abbrev pub DoesFirst : List Act → OutsideNow → Result (Unit {0}) KeeperErr → OutsideNow → Type 0
DoesFirst acts old (Ok done) new = AreDone acts old new
DoesFirst acts old (Err e) new = DoesSome acts old new

-- the count of faults has risen at a fault, and else it stays
abbrev pub FailsIf : Result (Unit {0}) KeeperErr → ℕ → ℕ → Type 0
FailsIf (Ok done) old new = new ≡ old
FailsIf (Err Fault) old new = HasRisen old new
FailsIf (Err NoMemory) old new = new ≡ old

-- the keeper was used, and nothing else
abbrev pub UsesKeeper : OutsideNow → OutsideNow → Type 0
UsesKeeper old new = new ≡ record old {
  line = record old.line { trail = new.line.trail };
  keeper = new.keeper;
  made = new.made;
}

-- what acts in a row come to
pub record ActsAll (acts : List Act) (old : OutsideNow) (result : Result (Unit {0}) KeeperErr)
    (new : OutsideNow) : Type 0 where
  pub does : DoesFirst acts old result new
  pub faults : FailsIf result old.keeper.faults new.keeper.faults
  pub alone : UsesKeeper old new

-- each change among acts may be made
abbrev pub AreAllowed : List Act → Type 0
AreAllowed [] = Unit {0}
AreAllowed (SaveBlob blob ∷ acts) = AreAllowed acts
AreAllowed (MakeChange change ∷ acts) = IsAllowed change × AreAllowed acts

-- each change among acts is one of a user, and bytes of a resource are among them only if some may be
abbrev pub AreLocal : Bool → List Act → Type 0
AreLocal bytes [] = Unit {0}
AreLocal bytes (SaveBlob blob ∷ acts) = (bytes ≡ true) × AreLocal bytes acts
AreLocal bytes (MakeChange change ∷ acts) = IsLocal change × AreLocal bytes acts
