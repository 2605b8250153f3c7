-- What every run leaves.
use Rattle.std.specs.Prelude.{ℕ, ◌≡◌, ◌⊎◌, List, [], ◌∷◌, Option, Some, None, option_map, Result, Ok, Err, refl}
use Rattle.std.proofs.lemmas.Grind.{common_steps}
use Rattle.std.proofs.Common.{arith, sym, ◌∙◌, ap, inl, inr, append-nil}
use Rattle.client.specs.Outside.{OutsideNow}
use Rattle.jop_outside.specs.Outside.{HasRisen, SourceNow}
use Rattle.jop_outside.specs.Random.{EntropyNow}
use Rattle.keeper.specs.Keepers.{Kept, KeeperNow}
use Rattle.jop_target.specs.Trail.{LineNow}
use Rattle.local_store.specs.Changing.{after_all}
use Rattle.local_commands.specs.Drawing.{FailsToDraw}
use Rattle.local_commands.specs.Following.{Follows, IsRefusedEarly, MayBeLate}
use Rattle.local_commands.specs.Keeping.{AreDone, DoesSome, changes_among, kept_after, kept_after_all}
use Rattle.local_commands.specs.declared.act.Act.{Act}
use Rattle.local_commands.specs.declared.act.Act.TheVariants.{SaveBlob, MakeChange}
use Rattle.local_commands.specs.declared.local_err.LocalErr.{LocalErr}
use Rattle.local_commands.specs.declared.local_err.LocalErr.TheVariants.{KeeperFault, NoMemory}
use Rattle.local_commands.specs.declared.work.Work.{Work}
use Rattle.local_commands.specs.declared.drawing.Drawing.{Drawing}
use Rattle.local_commands.specs.declared.drawing.Drawing.TheVariants.{NoId, OneId, TwoIds}
use Rattle.local_commands.specs.declared.intake.Intake.{Intake}
use Rattle.local_commands.specs.Taking.{FailsToGive}
use Rattle.local_commands.specs.Running.{Plan, IsMade, IsUnsaved, IsCutShort, Runs}

-- ---- no act

-- what is kept is the same, and nothing is written down
pub none_done : (old new : OutsideNow) → new.keeper.kept ≡ old.keeper.kept → new.line ≡ old.line
    → new.made ≡ old.made → AreDone [] old new
none_done old new kept line made = record {
  kept = kept ∙ by old.keeper.kept;
  noted = record {
    made = made ∙ sym (append-nil old.made);
    trail = ap (λ (l : LineNow). l.trail) line ∙ sym (append-nil old.line.trail);
  };
} where
  by : (kept : Option Kept) → kept ≡ option_map (kept_after_all []) kept
  by (Some k) = refl
  by None = refl

-- ---- refusals

pub unsaved : (p : Plan) (old new : OutsideNow) (answer : Result (List ℕ) LocalErr)
    → Runs p old answer new → IsRefusedEarly answer → IsUnsaved old new
unsaved p old new (Ok text) is early = absurd early
unsaved p old new (Err KeeperFault) is early = absurd (early (inl refl))
unsaved p old new (Err NoMemory) is early = absurd (early (inr refl))
unsaved p old new (Err refusal) is early = grind (arith, common_steps)

-- ---- whatever it answers

-- the first acts were done of what was to be done
pub record DidSome (p : Plan) (old new : OutsideNow) : Type 0 where
  pub work : Work
  pub made : IsMade p old new (Ok work)
  pub some : DoesSome work.acts old new

abbrev pub EndsIn : Plan → OutsideNow → OutsideNow → Type 0
EndsIn p old new = AreDone [] old new ⊎ DidSome p old new

of_cut : (p : Plan) (old new : OutsideNow) → IsCutShort p old new → EndsIn p old new
of_cut p old new is = inr (record { work = is.work; made = is.made; some = is.does })

of_early : (p : Plan) (old new : OutsideNow) (refusal : LocalErr) → Runs p old (Err refusal) new
    → ¬ MayBeLate refusal → EndsIn p old new
of_early p old new refusal is early =
    let none = unsaved p old new (Err refusal) is early in
    inl (none_done old new (ap (λ (k : KeeperNow). k.kept) none.keeper) none.line none.made)

-- some acts were done, the first ones, or none
pub ends_in : (p : Plan) (old new : OutsideNow) (answer : Result (List ℕ) LocalErr)
    → Runs p old answer new → EndsIn p old new
ends_in p old new (Ok text) is = inr (record {
  work = is.work;
  made = is.made;
  some = record {
    front = is.work.acts;
    rest = [];
    split = sym (append-nil is.work.acts);
    done = is.done;
  };
})
ends_in p old new (Err KeeperFault) (inl is) =
    inl (none_done old new (ap (λ (o : OutsideNow). o.keeper.kept) is.same)
    (ap (λ (o : OutsideNow). o.line) is.same) (ap (λ (o : OutsideNow). o.made) is.same))
ends_in p old new (Err KeeperFault) (inr is) = of_cut p old new is.0
ends_in p old new (Err NoMemory) (inl is, unfailed) =
    inl (none_done old new (ap (λ (k : KeeperNow). k.kept) is.keeper) is.line is.made)
ends_in p old new (Err NoMemory) (inr is, unfailed) = of_cut p old new is
ends_in p old new (Err refusal) is =
    of_early p old new refusal is (λ late. elim late [ inl same ↦ cc | inr same ↦ cc ])

pub follows : (p : Plan) (old new : OutsideNow) (answer : Result (List ℕ) LocalErr)
    → Runs p old answer new → Follows old new
follows p old new answer is = by (ends_in p old new answer is) where
  by : EndsIn p old new → Follows old new
  by (inl none) = record { acts = []; done = none }
  by (inr did) = record { acts = did.some.front; done = did.some.done }

pub tables_after : (acts : List Act) (kept : Kept)
    → (kept_after_all acts kept).tables ≡ after_all kept.tables (changes_among acts)
unfolding after_all
tables_after [] kept = refl
tables_after (SaveBlob blob ∷ acts) kept = tables_after acts (kept_after (SaveBlob blob) kept)
tables_after (MakeChange change ∷ acts) kept =
    tables_after acts (kept_after (MakeChange change) kept)

-- ---- faults

-- an input that fails is one that is used
pub given_fault : (intake : Option Intake) (old new : SourceNow) → FailsToGive intake old new
    → HasRisen old.faults new.faults
given_fault None old new fails = absurd fails
given_fault (Some intake) old new fails = fails

-- and so is a random source
pub drawn_fault : (draws : Drawing) (old new : EntropyNow) → FailsToDraw draws old new
    → HasRisen old.faults new.faults
drawn_fault NoId old new fails = absurd fails
drawn_fault OneId old new fails = fails
drawn_fault TwoIds old new fails = fails
