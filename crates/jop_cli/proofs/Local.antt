-- What a command on the tables comes to.
use Rattle.std.proofs.Common.{◌≡◌, ◌⊎◌, ◌∙◌, refl, sym, ap, subst, inl, inr, ℕ, ◌+◌, List, [], ◌∷◌, ◌++◌, length, map}
use Rattle.std.proofs.Common.{Bool, true, false, Option, Some, None, Result, Ok, Err}
use Rattle.std.specs.Prelude.{option_map}
use Rattle.std.proofs.lemmas.List.Elements.{All-nil, All-cons}
use Rattle.client.specs.Outside.{OutsideNow}
use Rattle.jop_cli.proofs.Runs.{Comes, unfailed_uncalled, uses_changes}
use Rattle.jop_cli.specs.Causes.{IsExplained, NothingHinders}
use Rattle.jop_cli.specs.Commands.Local.{DoesLocally, local_outcome}
use Rattle.jop_cli.specs.Commands.Sessions.{IsChange, IsUncalled}
use Rattle.jop_cli.specs.Run.{AnswersWords, HasLicences, IsFreshOutside, IsFreshAndUnsaved, KeepsChanges, UsesTarget, may_be_late, with_changes}
use Rattle.jop_outside.specs.Outside.{HasRisen, SinkNow}
use Rattle.jop_status.specs.Outcomes.{Emits, Outcome}
use Rattle.jop_status.specs.Refusals.{local_status}
use Rattle.jop_status.specs.Statuses.{is_early}
use Rattle.jop_status.specs.declared.status.Status.{Status}
use Rattle.jop_status.specs.declared.status.Status.TheVariants as statuses
use Rattle.jop_target.specs.Replies.{TargetNow}
use Rattle.jop_target.specs.Runs.{has_failed}
use Rattle.jop_target.specs.Trail.{LineNow}
use Rattle.jop_target.specs.declared.event.Event.{Event}
use Rattle.jop_target.specs.declared.event.Event.TheVariants.{Made}
use Rattle.jop_words.specs.declared.verb.Verb.{Verb}
use Rattle.jop_words.specs.declared.verb.Verb.TheVariants.{Local}
use Rattle.keeper.specs.Keepers.{KeeperNow, Kept, changed}
use Rattle.law_licences.specs.Deeds.{deeds_of}
use Rattle.law_licences.specs.Licences.{ObeysData}
use Rattle.law_licences.specs.Sealing.{no_keys}
use Rattle.law_licences.specs.Views.{at_rest}
use Rattle.local_commands.proofs.Leaving.{drawn_fault, follows, given_fault, unsaved}
use Rattle.local_commands.proofs.Unhindered.{goes_well}
use Rattle.local_commands.proofs.UserActs.{follows_changes, makes_licensed}
use Rattle.local_commands.specs.Following.{IsUnhindered, IsWellOrMemory, MayBeLate}
use Rattle.local_commands.specs.Keeping.{AreNoted, changes_among, kept_after_all, trail_of}
use Rattle.local_commands.specs.Commands.{plan_of}
use Rattle.local_commands.specs.Running.{Runs}
use Rattle.local_commands.specs.Sparing.{Spares}
use Rattle.local_commands.specs.declared.act.Act.TheVariants.{MakeChange}
use Rattle.local_commands.specs.declared.command.LocalCommand.{LocalCommand}
use Rattle.local_commands.specs.declared.local_err.LocalErr.{LocalErr}
use Rattle.local_commands.specs.declared.local_err.LocalErr.TheVariants.{KeeperFault, SourceFault, ClockFault, EntropyFault, NotFound, NotOne, Sealed, TimeEnd, NotEmpty, BelowItself, NoConflict, TooLarge, NotText, NoMemory}
use Rattle.local_store.specs.Changing.{after_all}
use Rattle.local_store.specs.declared.change.Change.{Change}

-- ---- why the command ends so

explained_refusal : (command : LocalCommand) (before after : OutsideNow) (error : LocalErr) →
    Runs (plan_of command) before (Err error) after → has_failed after.line.trail ≡ false →
    IsExplained (Some (Local command)) before (local_status error) after
explained_refusal command before after KeeperFault (inl failed) heard = failed.risen
explained_refusal command before after KeeperFault (inr cut) heard = cut.1
explained_refusal command before after SourceFault runs heard =
    given_fault (plan_of command).intake before.input after.input runs.ends
explained_refusal command before after ClockFault runs heard = runs.risen
explained_refusal command before after EntropyFault runs heard =
    drawn_fault (plan_of command).draws before.entropy after.entropy runs.fails
explained_refusal command before after (NotFound id) runs heard =
    inl (record { command = command; is = refl; runs = runs })
explained_refusal command before after (NotOne count) runs heard =
    inl (record { command = command; is = refl; runs = runs })
explained_refusal command before after (Sealed id) runs heard =
    inl (record { command = command; is = refl; runs = runs })
explained_refusal command before after (TimeEnd id) runs heard =
    record { command = command; is = refl; runs = runs }
explained_refusal command before after (NotEmpty id) runs heard =
    record { command = command; is = refl; runs = runs }
explained_refusal command before after (BelowItself id) runs heard =
    record { command = command; is = refl; runs = runs }
explained_refusal command before after (NoConflict number) runs heard =
    record { command = command; is = refl; runs = runs }
explained_refusal command before after (TooLarge len) runs heard =
    inr (record { command = command; is = refl; runs = runs })
explained_refusal command before after NotText runs heard =
    record { command = command; is = refl; runs = runs }
explained_refusal command before after NoMemory runs heard = heard

explained : (command : LocalCommand) (before after : OutsideNow) (answer : Result (List ℕ) LocalErr)
    (error : Status) → Runs (plan_of command) before answer after →
    has_failed after.line.trail ≡ false → local_outcome answer ≡ Err error →
    IsExplained (Some (Local command)) before error after
explained command before after (Ok text) error runs heard is = absurd (cc is)
explained command before after (Err refusal) error runs heard is =
    let same : local_status refusal ≡ error = cc is in
    subst (λ (s : Status). IsExplained (Some (Local command)) before s after) same
    (explained_refusal command before after refusal runs heard)

pub early_local : (error : LocalErr) → is_early (local_status error) ≡ true
early_local KeeperFault = refl
early_local SourceFault = refl
early_local ClockFault = refl
early_local EntropyFault = refl
early_local (NotFound id) = refl
early_local (NotOne count) = refl
early_local (Sealed id) = refl
early_local (TimeEnd id) = refl
early_local (NotEmpty id) = refl
early_local (BelowItself id) = refl
early_local (NoConflict number) = refl
early_local (TooLarge len) = refl
early_local NotText = refl
early_local NoMemory = refl

-- ---- what is written down

pub numbers_uncalled : (from : ℕ) (made : List Change) → IsUncalled (trail_of from made)
numbers_uncalled from [] = All-nil IsChange
numbers_uncalled from (change ∷ made) =
    All-cons IsChange (Made from) (trail_of (from + 1) made) tt (numbers_uncalled (from + 1) made)

-- behind nothing, these changes were made, and their numbers are the trail
record AreAll (changes : List Change) (after : OutsideNow) : Type 0 where
  made : after.made ≡ changes
  trail : after.line.trail ≡ trail_of 0 changes

all_noted : (changes : List Change) (before after : OutsideNow) → IsFreshOutside before →
    AreNoted changes before after → AreAll changes after
all_noted changes before after fresh noted = record {
  made = noted.made ∙ ap (λ (cs : List Change). cs ++ changes) fresh.unchanged;
  trail = noted.trail
      ∙ (ap (λ (es : List Event). es ++ trail_of (length before.made) changes) fresh.unwritten
      ∙ ap (λ (cs : List Change). trail_of (length cs) changes) fresh.unchanged);
}

-- the trail has the numbers of the changes
numbers : (command : LocalCommand) (before after : OutsideNow) (answer : Result (List ℕ) LocalErr) →
    IsFreshOutside before → Runs (plan_of command) before answer after →
    after.line.trail ≡ trail_of 0 after.made
numbers command before after answer fresh runs =
    let is = follows (plan_of command) before after answer runs in
    let all = all_noted (changes_among is.acts) before after fresh is.done.noted in
    all.trail ∙ ap (λ (made : List Change). trail_of 0 made) (sym all.made)

-- ---- the tables

kept_changes : (made : List Change) (kept : Kept) →
    kept_after_all (map MakeChange made) kept ≡ with_changes made kept
unfolding after_all
kept_changes [] kept = refl
kept_changes (change ∷ made) kept = kept_changes made (changed change kept)

kept_by_changes : (made : List Change) (kept : Option Kept) →
    option_map (kept_after_all (map MakeChange made)) kept ≡ option_map (with_changes made) kept
kept_by_changes made None = refl
kept_by_changes made (Some kept) = ap (λ (k : Kept). Some k) (kept_changes made kept)

pub only_changes : (made : List Change) → changes_among (map MakeChange made) ≡ made
only_changes [] = refl
only_changes (change ∷ made) = ap (λ (others : List Change). change ∷ others) (only_changes made)

pub keeps_changes : (before after : KeeperNow) (made changes : List Change) → made ≡ changes →
    after.kept ≡ option_map (kept_after_all (map MakeChange changes)) before.kept →
    KeepsChanges false before made after
keeps_changes before after made changes is kept =
    subst (λ (m : List Change). KeepsChanges false before m after) (sym is)
    (kept ∙ kept_by_changes changes before.kept)

keeps : (command : LocalCommand) (before after : OutsideNow) (answer : Result (List ℕ) LocalErr) →
    IsFreshOutside before → Runs (plan_of command) before answer after →
    KeepsChanges (plan_of command).bytes before.keeper after.made after.keeper
keeps command before after answer fresh runs = by (plan_of command).bytes refl where
  by : (b : Bool) → (plan_of command).bytes ≡ b → KeepsChanges b before.keeper after.made after.keeper
  by true saves =
      let is = follows (plan_of command) before after answer runs in
      record {
        acts = is.acts;
        changes = (all_noted (changes_among is.acts) before after fresh is.done.noted).made;
        kept = is.done.kept;
      }
  by false saves =
      let is = follows_changes (plan_of command) before after answer runs saves in
      let all = all_noted (changes_among (map MakeChange is.made)) before after fresh is.done.noted in
      keeps_changes before.keeper after.keeper after.made is.made (all.made ∙ only_changes is.made)
      is.done.kept

-- ---- licences

licensed : (command : LocalCommand) (before after : OutsideNow) (answer : Result (List ℕ) LocalErr) →
    IsFreshOutside before → Runs (plan_of command) before answer after → HasLicences before after
licensed command before after answer fresh runs = λ k told.
    let is = makes_licensed (plan_of command) before after answer runs in
    let all = all_noted is.changes before after fresh is.noted in
    subst (λ (t : List Event). ObeysData (at_rest no_keys k.tables) (deeds_of t after.made)) (sym all.trail)
    (subst (λ (cs : List Change). ObeysData (at_rest no_keys k.tables) (deeds_of (trail_of 0 is.changes) cs))
    (sym all.made)
    (subst (λ (cs : List Change). ObeysData (at_rest no_keys k.tables)
    (deeds_of (trail_of (length cs) is.changes) is.changes)) fresh.unchanged (is.licensed k.tables)))

-- ---- the whole

pub comes_local : (command : LocalCommand) (before mid : OutsideNow)
    (answer : Result (List ℕ) LocalErr) → IsFreshOutside before → Runs (plan_of command) before answer mid →
    Spares (plan_of command) before mid → Comes (Local command) before (local_outcome answer) mid
comes_local command before mid answer fresh runs spares =
    let trail = numbers command before mid answer fresh runs in
    let uncalled = subst IsUncalled (sym trail) (numbers_uncalled 0 mid.made) in
    record {
      comes = record { answer = answer; runs = runs; spares = spares; is = refl };
      quiet = spares.out;
      explained = λ error is.
          explained command before mid answer error runs (unfailed_uncalled mid.line.trail uncalled) is;
      sessions = λ status told. uncalled;
      tables = keeps command before mid answer fresh runs;
      target = subst (λ (t : TargetNow). UsesTarget before.line.target mid.line.trail t)
          (sym spares.target) (uses_changes before.line.target mid.line.trail uncalled);
      alone = record {
        input = spares.input;
        target = (trail, spares.target);
        tables = tt;
        clock = spares.clock;
        random = spares.random;
      };
      licensed = licensed command before mid answer fresh runs;
    }

-- ---- what is refused before anything is saved

-- a refusal that is never late comes before anything is saved
not_late : (error : LocalErr) → may_be_late (local_status error) ≡ false → ¬ MayBeLate error
not_late error is (inl fault) =
    let late : may_be_late (local_status KeeperFault) ≡ false =
    subst (λ (e : LocalErr). may_be_late (local_status e) ≡ false) fault is in
    cc late
not_late error is (inr memory) =
    let late : may_be_late (local_status NoMemory) ≡ false =
    subst (λ (e : LocalErr). may_be_late (local_status e) ≡ false) memory is in
    cc late

refused_early : (command : LocalCommand) (before mid : OutsideNow) (error : LocalErr) →
    IsFreshOutside before → may_be_late (local_status error) ≡ false →
    Runs (plan_of command) before (Err error) mid → IsFreshAndUnsaved before mid
refused_early command before mid error fresh is runs =
    let none = unsaved (plan_of command) before mid (Err error) runs (not_late error is) in
    record {
      same = none.keeper;
      fresh = record {
        unwritten = ap (λ (l : LineNow). l.trail) none.line ∙ fresh.unwritten;
        unchanged = none.made ∙ fresh.unchanged;
      };
    }

by_answer : (command : LocalCommand) (before mid : OutsideNow) (out : SinkNow)
    (answer : Result (List ℕ) LocalErr) (status : Status) → IsFreshOutside before →
    may_be_late status ≡ false → Runs (plan_of command) before answer mid →
    Emits (local_outcome answer) mid.out status out → IsFreshAndUnsaved before mid
by_answer command before mid out (Ok text) status fresh is runs (inl went) = absurd (cc (is, went.0))
by_answer command before mid out (Ok text) status fresh is runs (inr cut) = absurd (cc (is, cut.0))
by_answer command before mid out (Err error) status fresh is runs emits =
    refused_early command before mid error fresh
    (subst (λ (s : Status). may_be_late s ≡ false) emits.0 is) runs

-- what is printed saves nothing
pub unsaved_still : (before mid : OutsideNow) (out : SinkNow) → IsFreshAndUnsaved before mid →
    IsFreshAndUnsaved before (record mid { out = out })
unsaved_still before mid out h = record {
  same = h.same;
  fresh = record { unwritten = h.fresh.unwritten; unchanged = h.fresh.unchanged };
}

obeyed_early : (command : LocalCommand) (before after : OutsideNow) (status : Status) →
    IsFreshOutside before → may_be_late status ≡ false → AnswersWords (Some (Local command)) before status after →
    IsFreshAndUnsaved before after
obeyed_early command before after status fresh is (inl memory) = absurd (cc (is, memory.0))
obeyed_early command before after status fresh is (inr obeys) =
    let local : DoesLocally command before obeys.outcome obeys.mid = obeys.comes in
    subst (λ (a : OutsideNow). IsFreshAndUnsaved before a) (sym obeys.emits.same)
    (unsaved_still before obeys.mid after.out
    (by_answer command before obeys.mid after.out local.answer status fresh is local.runs
    (subst (λ (o : Outcome). Emits o obeys.mid.out status after.out) local.is obeys.emits.emits)))

pub unsaved_of : (verb : Option Verb) (before after : OutsideNow) (status : Status) →
    IsFreshOutside before → AnswersWords verb before status after → (command : LocalCommand) →
    verb ≡ Some (Local command) → may_be_late status ≡ false → IsFreshAndUnsaved before after
unsaved_of verb before after status fresh answers command is late =
    obeyed_early command before after status fresh late
    (subst (λ (v : Option Verb). AnswersWords v before status after) is answers)

-- ---- what nothing hinders

-- what is printed hinders nothing
still_unhindered : (command : LocalCommand) (before mid : OutsideNow) (out : SinkNow) →
    IsUnhindered (plan_of command) before (record mid { out = out }) →
    IsUnhindered (plan_of command) before mid
still_unhindered command before mid out h = record {
  kept = h.kept;
  told = h.told;
  allowed = h.allowed;
  bytes = h.bytes;
  fit = h.fit;
  makeable = h.makeable;
  unfailed = record {
    keeper = h.unfailed.keeper;
    input = h.unfailed.input;
    clock = h.unfailed.clock;
    entropy = h.unfailed.entropy;
  };
}

well_told : (answer : Result (List ℕ) LocalErr) (a b : SinkNow) (status : Status) →
    IsWellOrMemory answer → ¬ HasRisen a.faults b.faults →
    Emits (local_outcome answer) a status b →
    (status ≡ statuses.Ok) ⊎ (status ≡ statuses.NoMemory)
well_told (Ok text) a b status well unfailed (inl went) = inl went.0
well_told (Ok text) a b status well unfailed (inr cut) = absurd (unfailed cut.1.rose)
well_told (Err error) a b status (inl well) unfailed emits = absurd (cc well)
well_told (Err error) a b status (inr memory) unfailed emits =
    let same : error ≡ NoMemory = cc memory in
    inr (emits.0 ∙ ap local_status same)

-- a command that nothing hinders goes well, unless memory runs out
pub obeyed_well : (command : LocalCommand) (before after : OutsideNow) (status : Status) →
    AnswersWords (Some (Local command)) before status after →
    NothingHinders (Some (Local command)) before after →
    (status ≡ statuses.Ok) ⊎ (status ≡ statuses.NoMemory)
obeyed_well command before after status (inl memory) free = inr memory.0
obeyed_well command before after status (inr obeys) free =
    let local : DoesLocally command before obeys.outcome obeys.mid = obeys.comes in
    let unhindered = still_unhindered command before obeys.mid after.out
    (subst (λ (a : OutsideNow). IsUnhindered (plan_of command) before a) obeys.emits.same free.0) in
    well_told local.answer obeys.mid.out after.out status
    (goes_well command before obeys.mid local.answer local.runs unhindered)
    (subst (λ (o : SinkNow). ¬ HasRisen o.faults after.out.faults) (sym obeys.quiet) free.1)
    (subst (λ (o : Outcome). Emits o obeys.mid.out status after.out) local.is obeys.emits.emits)
