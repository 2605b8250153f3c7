-- Acts one after the other.
use Rattle.std.specs.Prelude.{◌↔◌, Bool, IsTrue, false, ℕ, ◌≡◌, List, [], ◌∷◌, ◌++◌, map, All, slice_index_or, Option, Some, None, option_map, Result, Ok, Err, refl}
use Rattle.std.specs.List.{remove}
use Rattle.std.proofs.Common.{sym, ◌∙◌, ap, subst, append_assoc, arith}
use Rattle.std.proofs.lemmas.Grind.{common_steps}
use Rattle.std.proofs.lemmas.List.Elements.{All-head, All-tail}
use Rattle.client.specs.Outside.{OutsideNow}
use Rattle.keeper.specs.Keepers.{Kept}
use Rattle.keeper.specs.declared.keeper_err.KeeperErr.{KeeperErr}
use Rattle.local_store.specs.Sound.{IsAllowed}
use Rattle.local_store.specs.declared.change.Change.{Change}
use Rattle.local_commands.specs.Keeping.{ActsAll, AreAllowed, AreDone, AreNoted, DoesFirst, FailsIf, changes_among, kept_after, kept_after_all}
use Rattle.local_commands.specs.declared.act.Act.{Act}
use Rattle.local_commands.specs.declared.act.Act.TheVariants.{SaveBlob, MakeChange}
use Rattle.local_commands.proofs.Leaving.{none_done}

-- the first of a list that isn't empty, before the rest
pub first_of : {X : Type 0} → (xs rest : List X) (x : X) (none : Bool) → IsTrue none ↔ (xs ≡ [])
    → none ≡ false → x ≡ slice_index_or xs 0 x → rest ≡ remove xs 0 → xs ≡ x ∷ rest
first_of [] rest x none means some is left = cc (means.1 refl, some)
first_of (y ∷ []) rest x none means some is left = cc
first_of (y ∷ z ∷ ys) rest x none means some is left = cc

-- ---- one act first

twice : (f g : Kept → Kept) (kept : Option Kept)
    → option_map f (option_map g kept) ≡ option_map (λ k. f (g k)) kept
twice f g (Some k) = refl
twice f g None = refl

done_then : (act : Act) (acts : List Act) (old mid new : OutsideNow) → AreDone (act ∷ []) old mid
    → AreDone acts mid new → AreDone (act ∷ acts) old new
done_then act acts old mid new first then = record {
  kept = then.kept ∙ (ap (option_map (kept_after_all acts)) first.kept
      ∙ twice (kept_after_all acts) (kept_after act) old.keeper.kept);
  noted = by act first.noted;
} where
  by : (act : Act) → AreNoted (changes_among (act ∷ [])) old mid
      → AreNoted (changes_among (act ∷ acts)) old new
  by (SaveBlob blob) first = grind (arith, common_steps, append_assoc)
  by (MakeChange change) first = grind (arith, common_steps, append_assoc)

-- an act was done, and then acts came to this
acts_then : (act : Act) (acts : List Act) (old mid new : OutsideNow)
    (result : Result (Unit {0}) KeeperErr) → ActsAll (act ∷ []) old (Ok tt) mid
    → ActsAll acts mid result new → ActsAll (act ∷ acts) old result new
acts_then act acts old mid new result first then = record {
  does = by result then.does;
  faults = subst (λ (n : ℕ). FailsIf result n new.keeper.faults) first.faults then.faults;
  alone = grind (arith, common_steps);
} where
  by : (result : Result (Unit {0}) KeeperErr) → DoesFirst acts mid result new
      → DoesFirst (act ∷ acts) old result new
  by (Ok done) does = done_then act acts old mid new first.does does
  by (Err e) some = record {
    front = act ∷ some.front;
    rest = some.rest;
    split = ap (λ (others : List Act). act ∷ others) some.split;
    done = done_then act some.front old mid new first.does some.done;
  }

-- an act was refused, before other acts
acts_refused : (act : Act) (acts : List Act) (old new : OutsideNow) (e : KeeperErr)
    → ActsAll (act ∷ []) old (Err e) new → ActsAll (act ∷ acts) old (Err e) new
acts_refused act acts old new e first = record {
  does = record {
    front = first.does.front;
    rest = first.does.rest ++ acts;
    split = ap (λ (others : List Act). others ++ acts) first.does.split
        ∙ append_assoc first.does.front first.does.rest acts;
    done = first.does.done;
  };
  faults = first.faults;
  alone = first.alone;
}

-- ---- what is still to be done

-- it brings all of it
abbrev pub StillDoes : List Act → OutsideNow → List Act → OutsideNow → Type 0
StillDoes acts old left mid =
    (result : Result (Unit {0}) KeeperErr) (new : OutsideNow) → ActsAll left mid result new
    → ActsAll acts old result new

acts_none : (old : OutsideNow) → ActsAll [] old (Ok tt) old
acts_none old = record { does = none_done old old refl refl refl; faults = refl; alone = refl }

-- the first act that is left was done, or refused
pub still_next : (acts left : List Act) (act : Act) (rest : List Act) (old mid mid' : OutsideNow)
    → left ≡ act ∷ rest → StillDoes acts old left mid → ActsAll (act ∷ []) mid (Ok tt) mid'
    → StillDoes acts old rest mid'
still_next acts left act rest old mid mid' is still did result new then =
    still result new
    (subst (λ (l : List Act). ActsAll l mid result new) (sym is)
    (acts_then act rest mid mid' new result did then))

pub still_refused : (acts left : List Act) (act : Act) (rest : List Act) (old mid new : OutsideNow)
    (e : KeeperErr) → left ≡ act ∷ rest → StillDoes acts old left mid
    → ActsAll (act ∷ []) mid (Err e) new → ActsAll acts old (Err e) new
still_refused acts left act rest old mid new e is still did =
    still (Err e) new
    (subst (λ (l : List Act). ActsAll l mid (Err e) new) (sym is)
    (acts_refused act rest mid new e did))

pub still_done : (acts left : List Act) (old new : OutsideNow) → left ≡ []
    → StillDoes acts old left new → ActsAll acts old (Ok tt) new
still_done acts left old new none still =
    still (Ok tt) new
    (subst (λ (l : List Act). ActsAll l new (Ok tt) new) (sym none) (acts_none new))

-- the first of acts that may be done, and the rest
pub allowed_first : (left : List Act) (act : Act) (rest : List Act) → left ≡ act ∷ rest
    → AreAllowed left → AreAllowed (act ∷ []) × AreAllowed rest
allowed_first left act rest is allowed =
    by act (subst (λ (l : List Act). AreAllowed l) is allowed) where
      by : (act : Act) → AreAllowed (act ∷ rest) → AreAllowed (act ∷ []) × AreAllowed rest
      by (SaveBlob blob) allowed = (tt, allowed)
      by (MakeChange change) allowed = ((allowed.0, tt), allowed.1)

-- changes that may be made are such acts
pub all_allowed : (changes : List Change) → All IsAllowed changes
    → AreAllowed (map MakeChange changes)
all_allowed [] allowed = tt
all_allowed (change ∷ changes) allowed = (
  All-head IsAllowed change changes allowed,
  all_allowed changes (All-tail IsAllowed change changes allowed),
)
