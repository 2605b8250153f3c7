-- What every run makes: changes of a user alone, and bytes of a resource where its plan saves some.
use Rattle.std.specs.Prelude.{ℕ, ◌≡◌, ◌+◌, List, [], ◌∷◌, ◌++◌, length, Bool, false, map, Result, refl}
use Rattle.std.proofs.Common.{sym, ap, subst, inl, inr}
use Rattle.client.specs.Outside.{OutsideNow}
use Rattle.law_licences.specs.Deeds.{deeds_of}
use Rattle.law_licences.specs.Licences.{Each, IsLocal, MayDo, ObeysData}
use Rattle.law_licences.specs.Sealing.{no_keys}
use Rattle.law_licences.specs.Views.{View, at_rest, view_after_change}
use Rattle.local_store.specs.Changing.{after}
use Rattle.local_store.specs.declared.change.Change.{Change}
use Rattle.local_store.specs.declared.change.Change.TheVariants.{ContextIs}
use Rattle.local_store.specs.declared.tables.Tables.{Tables}
use Rattle.local_commands.specs.Following.{FollowsChanges}
use Rattle.local_commands.specs.Keeping.{AreDone, AreLocal, changes_among, trail_of}
use Rattle.local_commands.specs.Licences.{NotesLicensed}
use Rattle.local_commands.specs.Running.{Plan, Runs}
use Rattle.local_commands.specs.declared.act.Act.{Act}
use Rattle.local_commands.specs.declared.act.Act.TheVariants.{SaveBlob, MakeChange}
use Rattle.local_commands.specs.declared.local_err.LocalErr.{LocalErr}
use Rattle.local_commands.proofs.Leaving.{EndsIn, ends_in}

-- ---- acts of a user

in_front : (bytes : Bool) (front rest : List Act) → AreLocal bytes (front ++ rest)
    → AreLocal bytes front
in_front bytes [] rest local = tt
in_front bytes (SaveBlob blob ∷ front) rest local = (local.0, in_front bytes front rest local.1)
in_front bytes (MakeChange change ∷ front) rest local = (local.0, in_front bytes front rest local.1)

-- acts without bytes are changes
changes_alone : (bytes : Bool) (acts : List Act) → bytes ≡ false → AreLocal bytes acts
    → acts ≡ map MakeChange (changes_among acts)
changes_alone bytes [] none local = refl
changes_alone bytes (SaveBlob blob ∷ acts) none local = cc (none, local.0)
changes_alone bytes (MakeChange change ∷ acts) none local =
    ap (λ (others : List Act). MakeChange change ∷ others) (changes_alone bytes acts none local.1)

-- ---- a run

-- it did such acts
record DoesLocal (p : Plan) (old new : OutsideNow) : Type 0 where
  acts : List Act
  done : AreDone acts old new
  local : AreLocal p.bytes acts

does_local : (p : Plan) (old new : OutsideNow) (answer : Result (List ℕ) LocalErr)
    → Runs p old answer new → DoesLocal p old new
does_local p old new answer runs = by (ends_in p old new answer runs) where
  by : EndsIn p old new → DoesLocal p old new
  by (inl none) = record { acts = []; done = none; local = tt }
  by (inr did) = record {
    acts = did.some.front;
    done = did.some.done;
    local = in_front p.bytes did.some.front did.some.rest
        (subst (λ (acts : List Act). AreLocal p.bytes acts) did.some.split did.made.local);
  }

pub follows_changes : (p : Plan) (old new : OutsideNow) (answer : Result (List ℕ) LocalErr)
    → Runs p old answer new → p.bytes ≡ false → FollowsChanges old new
follows_changes p old new answer runs none =
    let does = does_local p old new answer runs in
    record {
      made = changes_among does.acts;
      done = subst (λ (acts : List Act). AreDone acts old new)
          (changes_alone p.bytes does.acts none does.local) does.done;
    }

-- ---- licences

-- a user's change leaves a client in no session
local_rest : (t : Tables) (change : Change) → IsLocal change
    → view_after_change (at_rest no_keys t) change ≡ at_rest no_keys (after t change)
local_rest t (ContextIs context) local = absurd local
local_rest t change local = refl

licensed : (bytes : Bool) (n : ℕ) (t : Tables) (acts : List Act) → AreLocal bytes acts
    → ObeysData (at_rest no_keys t) (deeds_of (trail_of n (changes_among acts)) (changes_among acts))
unfolding deeds_of Each
licensed bytes n t [] local = tt
licensed bytes n t (SaveBlob blob ∷ acts) local = licensed bytes n t acts local.1
licensed bytes n t (MakeChange change ∷ acts) local =
    let made = changes_among acts in (
      local.0,
      subst (λ (v : View). Each MayDo v (deeds_of (trail_of (n + 1) made) made))
          (sym (local_rest t change local.0))
          (licensed bytes (n + 1) (after t change) acts local.1),
    )

pub makes_licensed : (p : Plan) (old new : OutsideNow) (answer : Result (List ℕ) LocalErr)
    → Runs p old answer new → NotesLicensed old new
makes_licensed p old new answer runs =
    let does = does_local p old new answer runs in
    record {
      changes = changes_among does.acts;
      noted = does.done.noted;
      licensed = λ t. licensed p.bytes (length old.made) t does.acts does.local;
    }
