-- What a command on master keys comes to.
use Rattle.std.proofs.Common.{◌≡◌, ◌⊎◌, ◌∙◌, refl, sym, ap, subst, inl, inr, ℕ, ◌+◌, List, [], ◌∷◌, ◌++◌, length, map}
use Rattle.std.proofs.Common.{Bool, true, false, Option, Some, None, Result, Ok, Err}
use Rattle.std.specs.Prelude.{option_map}
use Rattle.client.specs.Outside.{OutsideNow}
use Rattle.jop_cli.proofs.Local.{keeps_changes, numbers_uncalled, obeyed_well, unsaved_still}
use Rattle.jop_cli.proofs.Runs.{Comes, completes, keeps_none, none_licensed, unfailed_uncalled, uses_changes}
use Rattle.jop_cli.specs.Causes.{IsExplained, NothingHinders}
use Rattle.jop_cli.specs.Commands.Keys.{DoesKeys, keys_outcome}
use Rattle.jop_cli.specs.Commands.Sessions.{IsUncalled}
use Rattle.jop_cli.specs.Run.{AnswersWords, HasLicences, IsFreshAndUnsaved, IsFreshOutside, KeepsChanges, UsesTarget, may_be_late}
use Rattle.jop_outside.specs.Outside.{HasRisen, SinkNow, SourceNow}
use Rattle.jop_status.specs.Outcomes.{Emits, Outcome}
use Rattle.jop_status.specs.Refusals.{keys_status}
use Rattle.jop_status.specs.Statuses.{is_early}
use Rattle.jop_status.specs.declared.status.Status.{Status}
use Rattle.jop_status.specs.declared.status.Status.TheVariants as statuses
use Rattle.jop_target.specs.Replies.{TargetNow}
use Rattle.jop_target.specs.Runs.{has_failed}
use Rattle.jop_target.specs.Trail.{LineNow}
use Rattle.jop_target.specs.declared.event.Event.{Event}
use Rattle.jop_target.specs.declared.event.Event.TheVariants.{Made}
use Rattle.jop_words.specs.declared.verb.Verb.{Verb}
use Rattle.jop_words.specs.declared.verb.Verb.TheVariants.{Keys, Local}
use Rattle.keeper.specs.Keepers.{KeeperNow, Kept, changed}
use Rattle.key_commands.proofs.Counted.{clock_counted, keeper_counted, random_counted}
use Rattle.key_commands.proofs.Leaving.{changes_info, spares_beside, unsaved_early}
use Rattle.key_commands.proofs.Unhindered.{keys_go_well}
use Rattle.key_commands.specs.Hindering.{IsDoneOrMemory, IsKeyUnhindered}
use Rattle.key_commands.specs.Leaving.{ChangesInfo, HasSetInfo, IsEarlyRefusal, IsStill}
use Rattle.key_commands.specs.Running.{RunsKeys}
use Rattle.key_commands.specs.declared.key_command.KeyCommand.{KeyCommand}
use Rattle.key_commands.specs.declared.keys_err.KeysErr.{KeysErr}
use Rattle.key_commands.specs.declared.keys_err.KeysErr.TheVariants.{KeeperFault, ClockFault, EntropyFault, NotFound, NotOne, Sealed, BadPassword, NoKey, NoMemory}
use Rattle.law_licences.specs.Deeds.{deeds_of}
use Rattle.law_licences.specs.Licences.{Each, ObeysData}
use Rattle.law_licences.specs.Sealing.{no_keys}
use Rattle.law_licences.specs.Views.{at_rest}
use Rattle.local_commands.specs.Keeping.{kept_after_all, trail_of}
use Rattle.local_commands.specs.declared.act.Act.TheVariants.{MakeChange}
use Rattle.local_store.specs.declared.change.Change.{Change}
use Rattle.local_store.specs.declared.change.Change.TheVariants.{InfoIs}
use Rattle.local_store.specs.declared.tables.Tables.{Tables}
use Rattle.sync_info.specs.declared.info.Info.{Info}

-- ---- why the command ends so

explained_refusal : (command : KeyCommand) (before after : OutsideNow) (error : KeysErr) →
    RunsKeys command before (Err error) after → has_failed after.line.trail ≡ false →
    IsExplained (Some (Keys command)) before (keys_status error) after
explained_refusal command before after KeeperFault runs heard = keeper_counted command before after runs
explained_refusal command before after ClockFault runs heard = clock_counted command before after runs
explained_refusal command before after EntropyFault runs heard = random_counted command before after runs
explained_refusal command before after (NotFound id) runs heard =
    inr (record { command = command; is = refl; runs = runs })
explained_refusal command before after (NotOne count) runs heard =
    inr (record { command = command; is = refl; runs = runs })
explained_refusal command before after (Sealed id) runs heard =
    inr (record { command = command; is = refl; runs = runs })
explained_refusal command before after (BadPassword key) runs heard =
    record { command = command; is = refl; runs = runs }
explained_refusal command before after (NoKey key) runs heard =
    record { command = command; is = refl; runs = runs }
explained_refusal command before after NoMemory runs heard = heard

explained : (command : KeyCommand) (before after : OutsideNow) (answer : Result (List ℕ) KeysErr)
    (error : Status) → RunsKeys command before answer after → has_failed after.line.trail ≡ false →
    keys_outcome answer ≡ Err error → IsExplained (Some (Keys command)) before error after
explained command before after (Ok text) error runs heard is = absurd (cc is)
explained command before after (Err refusal) error runs heard is =
    let same : keys_status refusal ≡ error = cc is in
    subst (λ (s : Status). IsExplained (Some (Keys command)) before s after) same
    (explained_refusal command before after refusal runs heard)

pub early_keys : (error : KeysErr) → is_early (keys_status error) ≡ true
early_keys KeeperFault = refl
early_keys ClockFault = refl
early_keys EntropyFault = refl
early_keys (NotFound id) = refl
early_keys (NotOne count) = refl
early_keys (Sealed id) = refl
early_keys (BadPassword key) = refl
early_keys (NoKey key) = refl
early_keys NoMemory = refl

-- ---- what is left

-- a run that is written down leaves tables by its changes, each of which has its licence
record Leaves (before mid : OutsideNow) : Type 0 where
  out : mid.out ≡ before.out
  input : mid.input ≡ before.input
  target : mid.line.target ≡ before.line.target
  trail : mid.line.trail ≡ trail_of 0 mid.made
  tables : KeepsChanges false before.keeper mid.made mid.keeper
  licensed : HasLicences before mid

leaves_still : (before mid : OutsideNow) → IsFreshOutside before → IsStill before mid → Leaves before mid
leaves_still before mid fresh still =
    let made : mid.made ≡ [] = still.made ∙ fresh.unchanged in
    let trail : mid.line.trail ≡ [] = ap (λ (l : LineNow). l.trail) still.line ∙ fresh.unwritten in
    record {
      out = still.out;
      input = still.input;
      target = ap (λ (l : LineNow). l.target) still.line;
      trail = trail ∙ sym (ap (λ (cs : List Change). trail_of 0 cs) made);
      tables = keeps_none false before.keeper mid.keeper mid.made made still.kept;
      licensed = none_licensed before mid (record { unwritten = trail; unchanged = made });
    }

one_kept : (change : Change) (kept : Option Kept) →
    option_map (changed change) kept ≡ option_map (kept_after_all (map MakeChange (change ∷ []))) kept
one_kept change None = refl
one_kept change (Some kept) = refl

one_licensed : (t : Tables) (info : Info) →
    ObeysData (at_rest no_keys t) (deeds_of (Made 0 ∷ []) (InfoIs info ∷ []))
unfolding deeds_of Each
one_licensed t info = (tt, tt)

leaves_set : (before mid : OutsideNow) → IsFreshOutside before → HasSetInfo before mid → Leaves before mid
leaves_set before mid fresh has =
    let old = has.mid in
    let change : Change = InfoIs has.info in
    let none : old.made ≡ [] = has.still.made ∙ fresh.unchanged in
    let unwritten : old.line.trail ≡ [] = ap (λ (l : LineNow). l.trail) has.still.line ∙ fresh.unwritten in
    let made : mid.made ≡ change ∷ [] =
    ap (λ (o : OutsideNow). o.made) has.set ∙ ap (λ (cs : List Change). cs ++ change ∷ []) none in
    let trail : mid.line.trail ≡ Made 0 ∷ [] =
    ap (λ (o : OutsideNow). o.line.trail) has.set
    ∙ (ap (λ (es : List Event). es ++ Made (length old.made) ∷ []) unwritten
    ∙ ap (λ (cs : List Change). Made (length cs) ∷ []) none) in
    let kept =
    ap (λ (o : OutsideNow). o.keeper.kept) has.set ∙ ap (option_map (changed change)) has.still.kept
    ∙ one_kept change before.keeper.kept in
    record {
      out = ap (λ (o : OutsideNow). o.out) has.set ∙ has.still.out;
      input = ap (λ (o : OutsideNow). o.input) has.set ∙ has.still.input;
      target = ap (λ (o : OutsideNow). o.line.target) has.set ∙ ap (λ (l : LineNow). l.target) has.still.line;
      trail = trail ∙ sym (ap (λ (cs : List Change). trail_of 0 cs) made);
      tables = keeps_changes before.keeper mid.keeper mid.made (change ∷ []) made kept;
      licensed = λ k told.
          subst (λ (t : List Event). ObeysData (at_rest no_keys k.tables) (deeds_of t mid.made)) (sym trail)
          (subst (λ (cs : List Change). ObeysData (at_rest no_keys k.tables) (deeds_of (Made 0 ∷ []) cs)) (sym made)
          (one_licensed k.tables has.info));
    }

leaves_of : (before mid : OutsideNow) → IsFreshOutside before → ChangesInfo before mid → Leaves before mid
leaves_of before mid fresh (inl still) = leaves_still before mid fresh still
leaves_of before mid fresh (inr has) = leaves_set before mid fresh has

-- ---- the whole

pub comes_keys : (command : KeyCommand) (before mid : OutsideNow) (answer : Result (List ℕ) KeysErr) →
    IsFreshOutside before → RunsKeys command before answer mid →
    Comes (Keys command) before (keys_outcome answer) mid
comes_keys command before mid answer fresh runs =
    let leaves = leaves_of before mid fresh (changes_info command before mid answer runs) in
    let spares = spares_beside command before mid answer runs in
    let uncalled = subst IsUncalled (sym leaves.trail) (numbers_uncalled 0 mid.made) in
    record {
      comes = record { answer = answer; runs = runs; is = refl };
      quiet = leaves.out;
      explained = λ error is.
          explained command before mid answer error runs (unfailed_uncalled mid.line.trail uncalled) is;
      sessions = λ status told. uncalled;
      tables = leaves.tables;
      target = subst (λ (t : TargetNow). UsesTarget before.line.target mid.line.trail t)
          (sym leaves.target) (uses_changes before.line.target mid.line.trail uncalled);
      alone = record {
        input = leaves.input;
        target = (leaves.trail, leaves.target);
        tables = tt;
        clock = spares.clock;
        random = spares.random;
      };
      licensed = leaves.licensed;
    }

-- ---- what is refused before anything is saved

early_of : (error : KeysErr) → may_be_late (keys_status error) ≡ false → IsEarlyRefusal (Err error)
early_of KeeperFault is = absurd (cc is)
early_of NoMemory is = absurd (cc is)
early_of error is = tt

by_answer : (command : KeyCommand) (before mid : OutsideNow) (out : SinkNow)
    (answer : Result (List ℕ) KeysErr) (status : Status) → IsFreshOutside before →
    may_be_late status ≡ false → RunsKeys command before answer mid →
    Emits (keys_outcome answer) mid.out status out → IsFreshAndUnsaved before mid
by_answer command before mid out (Ok text) status fresh is runs (inl went) = absurd (cc (is, went.0))
by_answer command before mid out (Ok text) status fresh is runs (inr cut) = absurd (cc (is, cut.0))
by_answer command before mid out (Err error) status fresh is runs emits =
    let early = early_of error (subst (λ (s : Status). may_be_late s ≡ false) emits.0 is) in
    let none = unsaved_early command before mid (Err error) runs early in
    record {
      same = none.keeper;
      fresh = record {
        unwritten = ap (λ (l : LineNow). l.trail) none.line ∙ fresh.unwritten;
        unchanged = none.made ∙ fresh.unchanged;
      };
    }

obeyed_early : (command : KeyCommand) (before after : OutsideNow) (status : Status) →
    IsFreshOutside before → may_be_late status ≡ false → AnswersWords (Some (Keys command)) before status after →
    IsFreshAndUnsaved before after
obeyed_early command before after status fresh is (inl memory) = absurd (cc (is, memory.0))
obeyed_early command before after status fresh is (inr obeys) =
    let does : DoesKeys command before obeys.outcome obeys.mid = obeys.comes in
    subst (λ (a : OutsideNow). IsFreshAndUnsaved before a) (sym obeys.emits.same)
    (unsaved_still before obeys.mid after.out
    (by_answer command before obeys.mid after.out does.answer status fresh is does.runs
    (subst (λ (o : Outcome). Emits o obeys.mid.out status after.out) does.is obeys.emits.emits)))

pub keys_unsaved_of : (verb : Option Verb) (before after : OutsideNow) (status : Status) →
    IsFreshOutside before → AnswersWords verb before status after → (command : KeyCommand) →
    verb ≡ Some (Keys command) → may_be_late status ≡ false → IsFreshAndUnsaved before after
keys_unsaved_of verb before after status fresh answers command is late =
    obeyed_early command before after status fresh late
    (subst (λ (v : Option Verb). AnswersWords v before status after) is answers)

-- ---- what nothing hinders

-- what is printed hinders nothing
still_unhindered : (command : KeyCommand) (before mid : OutsideNow) (out : SinkNow) →
    IsKeyUnhindered command before (record mid { out = out }) → IsKeyUnhindered command before mid
still_unhindered command before mid out h = record {
  kept = h.kept;
  told = h.told;
  allowed = h.allowed;
  keeper = h.keeper;
  clock = h.clock;
  entropy = h.entropy;
}

well_told : (answer : Result (List ℕ) KeysErr) (a b : SinkNow) (status : Status) → IsDoneOrMemory answer →
    ¬ HasRisen a.faults b.faults → Emits (keys_outcome answer) a status b →
    (status ≡ statuses.Ok) ⊎ (status ≡ statuses.NoMemory)
well_told (Ok text) a b status well unfailed (inl went) = inl went.0
well_told (Ok text) a b status well unfailed (inr cut) = absurd (unfailed cut.1.rose)
well_told (Err error) a b status (inl well) unfailed emits = absurd (cc well)
well_told (Err error) a b status (inr memory) unfailed emits =
    let same : error ≡ NoMemory = cc memory in
    inr (emits.0 ∙ ap keys_status same)

keys_well : (command : KeyCommand) (before after : OutsideNow) (status : Status) →
    AnswersWords (Some (Keys command)) before status after →
    NothingHinders (Some (Keys command)) before after →
    (status ≡ statuses.Ok) ⊎ (status ≡ statuses.NoMemory)
keys_well command before after status (inl memory) free = inr memory.0
keys_well command before after status (inr obeys) free =
    let does : DoesKeys command before obeys.outcome obeys.mid = obeys.comes in
    let unhindered = still_unhindered command before obeys.mid after.out
    (subst (λ (a : OutsideNow). IsKeyUnhindered command before a) obeys.emits.same free.0) in
    well_told does.answer obeys.mid.out after.out status
    (keys_go_well command before obeys.mid does.answer does.runs unhindered)
    (subst (λ (o : SinkNow). ¬ HasRisen o.faults after.out.faults) (sym obeys.quiet) free.1)
    (subst (λ (o : Outcome). Emits o obeys.mid.out status after.out) does.is obeys.emits.emits)

-- a command that nothing hinders goes well, unless memory runs out
pub complete_of : (verb : Option Verb) (before after : OutsideNow) (status : Status) →
    IsExplained verb before status after → AnswersWords verb before status after →
    NothingHinders verb before after → (status ≡ statuses.Ok) ⊎ (status ≡ statuses.NoMemory)
complete_of (Some (Local command)) before after status explained answers free =
    obeyed_well command before after status answers free
complete_of (Some (Keys command)) before after status explained answers free =
    keys_well command before after status answers free
complete_of verb before after status explained answers free =
    completes verb before after status explained free
