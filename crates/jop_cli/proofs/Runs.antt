-- What follows of what a run did.
use Rattle.std.proofs.Common.{◌≡◌, ◌⊎◌, ◌∙◌, refl, sym, ap, subst, arith, inl, inr, ℕ, suc, List, [], ◌∷◌, ◌++◌}
use Rattle.std.proofs.Common.{Bool, true, false, Option, Some, None, Ok, Err}
use Rattle.std.specs.Prelude.{option_map}
use Rattle.std.proofs.lemmas.List.{append-nil}
use Rattle.std.proofs.lemmas.List.Elements.{All-nil}
use Rattle.client.specs.Outside.{OutsideNow}
use Rattle.jop_cli.specs.Causes.{IsUnexplained, IsExplained, NothingHinders}
use Rattle.jop_cli.specs.Commands.{ComesTo, Uses, nothing, used}
use Rattle.jop_cli.specs.Commands.Sessions.{IsChange, IsUncalled, NamedSession}
use Rattle.jop_cli.specs.Run.{Acts, AnswersEmptied, AnswersKey, AnswersVerdict, AnswersWords, RunsAsPromised, HasLicences, IsFreshOutside, IsFreshAndUnsaved, KeepsChanges, LeavesAlone, LeavesTables, LeavesTarget, Prints, Sessions, TidiesTold, UsesTarget, may_be_late, with_changes}
use Rattle.jop_cli.specs.Worlds.{EmitsTo}
use Rattle.jop_outside.specs.Clocks.{ClockNow}
use Rattle.jop_outside.specs.Outside.{HasRisen, SinkNow, SourceNow}
use Rattle.jop_outside.specs.Random.{EntropyNow}
use Rattle.jop_outside.specs.Reading.{IsRestOf}
use Rattle.jop_status.specs.Outcomes.{Emits, Outcome}
use Rattle.jop_status.specs.Statuses.{is_early, is_refusal}
use Rattle.jop_status.specs.declared.status.Status.{Status}
use Rattle.jop_status.specs.declared.status.Status.TheVariants as statuses
use Rattle.jop_target.specs.Replies.{TargetNow}
use Rattle.jop_target.specs.Runs.{Continues, LeadsTo, TellsRun, has_failed}
use Rattle.jop_target.specs.Store.{Store}
use Rattle.jop_target.specs.Trail.{LineNow}
use Rattle.jop_target.specs.declared.event.Event.{Event}
use Rattle.jop_target.specs.declared.event.Event.TheVariants.{Began, Called, Ended, Made, Sent}
use Rattle.jop_words.specs.declared.verb.Verb.{Verb}
use Rattle.jop_words.specs.declared.verb.Verb.TheVariants.{Keys, Local, Tidy}
use Rattle.keeper.specs.Keepers.{KeeperNow, Kept}
use Rattle.key_commands.specs.declared.key_command.KeyCommand.{KeyCommand}
use Rattle.law_kept.specs.Trails.{KeepsNotes}
use Rattle.law_licences.specs.Deeds.{deeds_of}
use Rattle.law_licences.specs.Licences.{Each, ObeysData}
use Rattle.law_licences.specs.Sealing.{Sealing, no_keys}
use Rattle.law_licences.specs.Views.{at_rest}
use Rattle.local_commands.specs.Keeping.{kept_after_all}
use Rattle.local_commands.specs.Sparing.{SparesClock, SparesInput, SparesRandom}
use Rattle.local_commands.specs.declared.command.LocalCommand.{LocalCommand}
use Rattle.local_store.specs.Changing.{after_all}
use Rattle.local_store.specs.declared.change.Change.{Change}
use Rattle.local_store.specs.declared.tables.Tables.{Tables}

-- ---- nothing is written down yet

pub uncalled_yet : (o : OutsideNow) → IsFreshOutside o → IsUncalled o.line.trail
uncalled_yet o fresh = subst IsUncalled (sym fresh.unwritten) (All-nil IsChange)

-- ---- the target

rest_uncalled : (e : Event) (es : List Event) → IsUncalled (e ∷ es) → IsUncalled es
rest_uncalled e es h = λ i d lt. h (suc i) d (omega (arith, lt))

unfailed : (old more : List Event) → IsUncalled old → has_failed (old ++ more) ≡ has_failed more
unfolding has_failed
unfailed [] more h = refl
unfailed (Made n ∷ old) more h = unfailed old more (rest_uncalled (Made n) old h)
unfailed (Began ∷ old) more h = absurd (h 0 Began (omega arith))
unfailed (Ended ∷ old) more h = absurd (h 0 Began (omega arith))
unfailed (Sent call ∷ old) more h = absurd (h 0 Began (omega arith))
unfailed (Called call reply ∷ old) more h = absurd (h 0 Began (omega arith))

-- no call has failed where nothing is called
pub unfailed_uncalled : (trail : List Event) → IsUncalled trail → has_failed trail ≡ false
unfolding has_failed
unfailed_uncalled trail uncalled =
    ap has_failed (sym (append-nil trail)) ∙ unfailed trail [] uncalled

-- nor behind it, if none of the session's calls has
pub unfailed_session : (old more trail : List Event) → trail ≡ old ++ more → IsUncalled old →
    has_failed more ≡ false → has_failed trail ≡ false
unfailed_session old more trail is uncalled heard =
    ap has_failed is ∙ (unfailed old more uncalled ∙ heard)

leads_behind : (old more : List Event) (s t : Store) → IsUncalled old → LeadsTo s more t →
    LeadsTo s (old ++ more) t
unfolding LeadsTo
leads_behind [] more s t h leads = leads
leads_behind (Made n ∷ old) more s t h leads =
    leads_behind old more s t (rest_uncalled (Made n) old h) leads
leads_behind (Began ∷ old) more s t h leads = absurd (h 0 Began (omega arith))
leads_behind (Ended ∷ old) more s t h leads = absurd (h 0 Began (omega arith))
leads_behind (Sent call ∷ old) more s t h leads = absurd (h 0 Began (omega arith))
leads_behind (Called call reply ∷ old) more s t h leads = absurd (h 0 Began (omega arith))

tells_behind : (old more : List Event) (before after : Option Store) → IsUncalled old →
    TellsRun before more after → TellsRun before (old ++ more) after
tells_behind old more None after h tells = tells
tells_behind old more (Some s) after h tells =
    (tells.0, tells.1, leads_behind old more s tells.0 h tells.2)

-- what a line adds behind changes was done to its target
pub uses_behind : (P : Event → Type 0) (old new : LineNow) → IsUncalled old.trail →
    Continues P old new → UsesTarget old.target new.trail new.target
uses_behind P old new uncalled h =
    subst (λ (t : List Event). UsesTarget old.target t new.target) (sym h.trail) (record {
      later = h.later;
      fault = λ failed. h.fault (sym (unfailed old.trail h.more uncalled) ∙ failed);
      stays = λ failed. h.stays (sym (unfailed old.trail h.more uncalled) ∙ failed);
      told = tells_behind old.trail h.more old.target.store new.target.store uncalled h.store;
    })

told_none : (store : Option Store) → TellsRun store [] store
unfolding LeadsTo
told_none None = refl
told_none (Some s) = (s, refl, refl)

same_behind : (target : TargetNow) (trail : List Event) → IsUncalled trail →
    UsesTarget target (trail ++ []) target
unfolding has_failed
same_behind target trail uncalled = record {
  later = omega arith;
  fault = λ failed. absurd (cc (sym (unfailed trail [] uncalled) ∙ failed));
  stays = λ _. refl;
  told = tells_behind trail [] target.store target.store uncalled (told_none target.store);
}

-- a trail of changes alone was not done to a target
pub uses_changes : (target : TargetNow) (trail : List Event) → IsUncalled trail →
    UsesTarget target trail target
uses_changes target trail uncalled =
    subst (λ (t : List Event). UsesTarget target t target) (append-nil trail)
    (same_behind target trail uncalled)

-- ---- the tables

unchanged : (kept : Option Kept) → kept ≡ option_map (with_changes []) kept
unfolding after_all
unchanged None = refl
unchanged (Some kept) = refl

none_kept : (kept : Option Kept) → kept ≡ option_map (kept_after_all []) kept
none_kept None = refl
none_kept (Some k) = refl

keeps_nothing : (bytes : Bool) (before after : KeeperNow) → after.kept ≡ before.kept →
    KeepsChanges bytes before [] after
keeps_nothing false before after same = same ∙ unchanged before.kept
keeps_nothing true before after same =
    record { acts = []; changes = refl; kept = same ∙ none_kept before.kept }

-- no change was made, and what is kept is as it was
pub keeps_none : (bytes : Bool) (before after : KeeperNow) (made : List Change) → made ≡ [] →
    after.kept ≡ before.kept → KeepsChanges bytes before made after
keeps_none bytes before after made none same =
    subst (λ (m : List Change). KeepsChanges bytes before m after) (sym none)
    (keeps_nothing bytes before after same)

-- ---- licences

obeys_none : (t : Tables) → ObeysData (at_rest no_keys t) (deeds_of [] [])
unfolding deeds_of Each
obeys_none t = tt

-- nothing was done
pub none_licensed : (before after : OutsideNow) → IsFreshOutside after → HasLicences before after
none_licensed before after fresh = λ k told.
    subst (λ (t : List Event). ObeysData (at_rest no_keys k.tables) (deeds_of t after.made))
    (sym fresh.unwritten)
    (subst (λ (m : List Change). ObeysData (at_rest no_keys k.tables) (deeds_of [] m)) (sym fresh.unchanged)
    (obeys_none k.tables))

-- ---- without a cause

went_or_not : (status : Status) →
    (is_refusal status ≡ true) ⊎ ((status ≡ statuses.Ok) ⊎ (status ≡ statuses.NoMemory))
went_or_not statuses.Ok = inr (inl refl)
went_or_not statuses.NoMemory = inr (inr refl)
went_or_not status = inl refl

pub completes : (verb : Option Verb) (before after : OutsideNow) (status : Status) →
    IsExplained verb before status after → IsUnexplained verb before after →
    (status ≡ statuses.Ok) ⊎ (status ≡ statuses.NoMemory)
completes verb before after status explained none = elim (went_or_not status) [
  | inl refusal ↦ absurd (none status refusal explained)
  | inr well ↦ well
]

-- ---- what is printed

unprinted : (verb : Option Verb) (before after : OutsideNow) (status : Status) →
    is_early status ≡ true → after.out ≡ before.out → Prints verb before status after
unprinted verb before after statuses.Ok early same = cc
unprinted verb before after statuses.SinkFault early same = cc
unprinted verb before after status early same = same

as_status : (verb : Option Verb) (before after : OutsideNow) (s t : Status) → s ≡ t →
    Prints verb before t after → Prints verb before s after
as_status verb before after s t is h =
    subst (λ (x : Status). Prints verb before x after) (sym is) h

prints_obeyed : (v : Verb) (before mid after : OutsideNow) (status : Status) (outcome : Outcome) →
    ComesTo v before outcome mid → after ≡ record mid { out = after.out } →
    mid.out ≡ before.out → Emits outcome before.out status after.out →
    Prints (Some v) before status after
prints_obeyed v before mid after status (Ok text) comes same quiet (inl went) =
    as_status (Some v) before after status statuses.Ok went.0
    (text, (v, refl, mid, comes, same), went.1)
prints_obeyed v before mid after status (Ok text) comes same quiet (inr cut) =
    as_status (Some v) before after status statuses.SinkFault cut.0
    (text, (v, refl, mid, comes, same), cut.1)
prints_obeyed v before mid after status (Err error) comes same quiet emits =
    as_status (Some v) before after status error emits.0
    (unprinted (Some v) before after error emits.1 emits.2)

quiet : (before after : OutsideNow) → after ≡ before → after.out ≡ before.out
quiet before after same = ap (λ (o : OutsideNow). o.out) same

prints_of : (verb : Option Verb) (before after : OutsideNow) (status : Status) →
    AnswersWords verb before status after → Prints verb before status after
prints_of None before after status (inl usage, idle) =
    as_status None before after status statuses.Usage usage (quiet before after idle)
prints_of None before after status (inr memory, idle) =
    as_status None before after status statuses.NoMemory memory (quiet before after idle)
prints_of (Some v) before after status (inl memory) =
    as_status (Some v) before after status statuses.NoMemory memory.0 (quiet before after memory.1)
prints_of (Some v) before after status (inr obeys) =
    prints_obeyed v before obeys.mid after status obeys.outcome obeys.comes obeys.emits.same
    obeys.quiet
    (subst (λ (o : SinkNow). Emits obeys.outcome o status after.out) obeys.quiet obeys.emits.emits)

-- ---- what is left alone

rest_all : (limit : ℕ) (left : Option (List ℕ)) → IsRestOf limit left left
rest_all limit None = refl
rest_all limit (Some bytes) = (0, omega arith, refl)

leaves_input : (limit : Option ℕ) (input : SourceNow) → SparesInput limit input input
leaves_input None input = refl
leaves_input (Some limit) input = record { later = omega arith; rest = rest_all limit input.left }

leaves_target : (session : Option NamedSession) (target : TargetNow) →
    LeavesTarget session target [] [] target
leaves_target None target = (refl, refl)
leaves_target (Some session) target = tt

leaves_tables : (uses : Bool) (keeper : KeeperNow) → LeavesTables uses keeper [] keeper
leaves_tables false keeper = (refl, refl)
leaves_tables true keeper = tt

leaves_clock : (uses : Bool) (clock : ClockNow) → SparesClock uses clock clock
leaves_clock false clock = refl
leaves_clock true clock = tt

leaves_random : (uses : Bool) (entropy : EntropyNow) → SparesRandom uses entropy entropy
leaves_random false entropy = refl
leaves_random true entropy = tt

leaves_all : (uses : Uses) (before : OutsideNow) → IsFreshOutside before
    → LeavesAlone uses before before
leaves_all uses before fresh = record {
  input = leaves_input uses.input before.input;
  target = rw (fresh.unwritten, fresh.unchanged) (leaves_target uses.session before.line.target);
  tables = rw fresh.unchanged (leaves_tables uses.tables before.keeper);
  clock = leaves_clock uses.clock before.clock;
  random = leaves_random uses.random before.entropy;
}

-- ---- nothing is done

no_sessions : (session : Option NamedSession) (keeper : KeeperNow) (trail : List Event) (status : Status) →
    IsUncalled trail → Sessions session keeper trail status
no_sessions None keeper trail status uncalled = uncalled
no_sessions (Some session) keeper trail status uncalled = inl uncalled

-- nothing was done, for this status
acts_none : (verb : Option Verb) (before : OutsideNow) (status : Status) → IsFreshOutside before →
    AnswersWords verb before status before → IsExplained verb before status before →
    Acts verb before status before
acts_none verb before status fresh answers explained = record {
  answers = answers;
  explained = explained;
  sessions = no_sessions (used verb).session before.keeper before.line.trail status
      (uncalled_yet before fresh);
  tables = keeps_none (used verb).bytes before.keeper before.keeper before.made fresh.unchanged refl;
  target = uses_changes before.line.target before.line.trail (uncalled_yet before fresh);
  alone = leaves_all (used verb) before fresh;
  licensed = none_licensed before before fresh;
}

no_memory : (verb : Option Verb) (before : OutsideNow) →
    AnswersWords verb before statuses.NoMemory before
no_memory None before = (inr refl, refl)
no_memory (Some verb) before = inl (refl, refl)

pub starved : (verb : Option Verb) (before : OutsideNow) → IsFreshOutside before →
    Acts verb before statuses.NoMemory before
starved verb before fresh =
    acts_none verb before statuses.NoMemory fresh (no_memory verb before)
    (unfailed_uncalled before.line.trail (uncalled_yet before fresh))

pub misused : (verb : Option Verb) (before : OutsideNow) → verb ≡ None → IsFreshOutside before →
    Acts verb before statuses.Usage before
misused verb before none fresh =
    subst (λ (v : Option Verb). Acts v before statuses.Usage before) (sym none)
    (acts_none None before statuses.Usage fresh (inl refl, refl) refl)

-- ---- what a command came to

-- an outcome is told as this status
abbrev pub IsToldAs : Outcome → Status → Type 0
IsToldAs (Ok text) status = (status ≡ statuses.Ok) ⊎ (status ≡ statuses.SinkFault)
IsToldAs (Err error) status = status ≡ error

-- what a command has done before anything is printed, and what it is told as
pub record Comes (v : Verb) (before : OutsideNow) (outcome : Outcome) (mid : OutsideNow)
    : Type 0 where
  pub comes : ComesTo v before outcome mid
  pub quiet : mid.out ≡ before.out
  pub explained : (error : Status) → outcome ≡ Err error → IsExplained (Some v) before error mid
  pub sessions : (status : Status) → IsToldAs outcome status →
      Sessions (used (Some v)).session mid.keeper mid.line.trail status
  pub tables : KeepsChanges (used (Some v)).bytes before.keeper mid.made mid.keeper
  pub target : UsesTarget before.line.target mid.line.trail mid.line.target
  pub alone : LeavesAlone (used (Some v)) before mid
  pub licensed : HasLicences before mid

told_as : (outcome : Outcome) (a b : SinkNow) (status : Status) → Emits outcome a status b →
    IsToldAs outcome status
told_as (Ok text) a b status (inl went) = inl went.0
told_as (Ok text) a b status (inr cut) = inr cut.0
told_as (Err error) a b status emits = emits.0

-- what was printed explains how it ends
explained_emit : (v : Verb) (before mid : OutsideNow) (outcome : Outcome) (status : Status)
    (out : SinkNow) → Comes v before outcome mid → Emits outcome mid.out status out →
    IsExplained (Some v) before status (record mid { out = out })
explained_emit v before mid (Ok text) status out h (inl went) =
    subst (λ (s : Status). IsExplained (Some v) before s (record mid { out = out })) (sym went.0) tt
explained_emit v before mid (Ok text) status out h (inr cut) =
    subst (λ (s : Status). IsExplained (Some v) before s (record mid { out = out })) (sym cut.0)
    (subst (λ (o : SinkNow). HasRisen o.faults out.faults) h.quiet cut.1.rose)
explained_emit v before mid (Err error) status out h emits =
    subst (λ (s : Status). IsExplained (Some v) before s (record mid { out = out })) (sym emits.0)
    (subst (λ (o : SinkNow). IsExplained (Some v) before error (record mid { out = o }))
    (sym emits.2) (h.explained error refl))

emitted : (v : Verb) (before mid : OutsideNow) (outcome : Outcome) (status : Status) (out : SinkNow) →
    Comes v before outcome mid → Emits outcome mid.out status out →
    Acts (Some v) before status (record mid { out = out })
emitted v before mid outcome status out h emits = record {
  answers = inr (record {
    outcome = outcome;
    mid = mid;
    comes = h.comes;
    quiet = h.quiet;
    emits = record { emits = emits; same = refl };
  });
  explained = explained_emit v before mid outcome status out h emits;
  sessions = h.sessions status (told_as outcome mid.out out status emits);
  tables = h.tables;
  target = h.target;
  alone = record {
    input = h.alone.input;
    target = h.alone.target;
    tables = h.alone.tables;
    clock = h.alone.clock;
    random = h.alone.random;
  };
  licensed = h.licensed;
}

-- whatever is printed then
pub acts_emitted : (v : Verb) (before mid after : OutsideNow) (outcome : Outcome) (status : Status) →
    Comes v before outcome mid → EmitsTo outcome mid status after → Acts (Some v) before status after
acts_emitted v before mid after outcome status h emits =
    subst (λ (a : OutsideNow). Acts (Some v) before status a) (sym emits.same)
    (emitted v before mid outcome status after.out h emits.emits)

-- nothing is printed of a refusal
pub acts_refused : (v : Verb) (before mid : OutsideNow) (error status : Status) →
    Comes v before (Err error) mid → status ≡ error → is_early error ≡ true →
    Acts (Some v) before status mid
acts_refused v before mid error status h is early =
    emitted v before mid (Err error) status mid.out h (is, early, refl)

-- a command that touches neither target nor tables
pub comes_quiet : (v : Verb) (before mid : OutsideNow) (outcome : Outcome) → IsFreshOutside before →
    (used (Some v)).session ≡ None → (used (Some v)).tables ≡ false →
    (used (Some v)).clock ≡ false → (used (Some v)).random ≡ false →
    ComesTo v before outcome mid → mid ≡ record before { input = mid.input } →
    SparesInput (used (Some v)).input before.input mid.input →
    ((error : Status) → outcome ≡ Err error → IsExplained (Some v) before error mid) →
    Comes v before outcome mid
comes_quiet v before mid outcome fresh none untouched timeless drawless comes same input explained =
    let line = ap (λ (o : OutsideNow). o.line) same in
    let keeper = ap (λ (o : OutsideNow). o.keeper) same in
    let made = ap (λ (o : OutsideNow). o.made) same in
    let after : IsFreshOutside mid = record {
      unwritten = ap (λ (l : LineNow). l.trail) line ∙ fresh.unwritten;
      unchanged = made ∙ fresh.unchanged;
    } in
    record {
      comes = comes;
      quiet = ap (λ (o : OutsideNow). o.out) same;
      explained = explained;
      sessions = λ status told.
          no_sessions (used (Some v)).session mid.keeper mid.line.trail status
          (uncalled_yet mid after);
      tables = keeps_none (used (Some v)).bytes before.keeper mid.keeper mid.made after.unchanged
          (ap (λ (k : KeeperNow). k.kept) keeper);
      target = subst (λ (t : TargetNow). UsesTarget before.line.target mid.line.trail t)
          (sym (ap (λ (l : LineNow). l.target) line))
          (uses_changes before.line.target mid.line.trail (uncalled_yet mid after));
      alone = record {
        input = input;
        target = rw (none, after.unwritten, after.unchanged)
            (refl, ap (λ (l : LineNow). l.target) line);
        tables = rw (untouched, after.unchanged) (refl, keeper);
        clock = rw timeless (ap (λ (o : OutsideNow). o.clock) same);
        random = rw drawless (ap (λ (o : OutsideNow). o.entropy) same);
      };
      licensed = none_licensed before mid after;
    }

-- a command that prints a constant, and uses nothing else
pub comes_printed : (v : Verb) (before : OutsideNow) (text : List ℕ) → IsFreshOutside before →
    used (Some v) ≡ nothing → ComesTo v before (Ok text) before → Comes v before (Ok text) before
comes_printed v before text fresh uses comes =
    comes_quiet v before before (Ok text) fresh (ap (λ (u : Uses). u.session) uses)
    (ap (λ (u : Uses). u.tables) uses) (ap (λ (u : Uses). u.clock) uses)
    (ap (λ (u : Uses). u.random) uses) comes refl
    (rw (ap (λ (u : Uses). u.input) uses) refl) (λ error is. absurd (cc is))

-- a command by its name
pub acts_as : (verb v : Verb) (before after : OutsideNow) (status : Status) → verb ≡ v →
    Acts (Some v) before status after → Acts (Some verb) before status after
acts_as verb v before after status is h =
    subst (λ (x : Verb). Acts (Some x) before status after) (sym is) h

-- ---- the whole

pub does_of : (verb : Option Verb) (before after : OutsideNow) (status : Status) →
    (NothingHinders verb before after → (status ≡ statuses.Ok) ⊎ (status ≡ statuses.NoMemory)) →
    AnswersVerdict verb status after.line.trail →
    ((k : Kept) → before.keeper.kept ≡ Some k → AnswersKey verb k.tables status after.line.trail) →
    ((k : Kept) → before.keeper.kept ≡ Some k →
    AnswersEmptied verb k.tables status after.line.trail after.made) →
    ((bytes : List ℕ) → verb ≡ Some Tidy → before.input.left ≡ Some bytes → TidiesTold bytes status) →
    ((command : LocalCommand) → verb ≡ Some (Local command) → may_be_late status ≡ false →
    IsFreshAndUnsaved before after) →
    ((command : KeyCommand) → verb ≡ Some (Keys command) → may_be_late status ≡ false →
    IsFreshAndUnsaved before after) →
    ((client : List ℕ) (s : Sealing) (t : Tables) (trail : List Event) (made : List Change) →
    ObeysData (at_rest s t) (deeds_of trail made) → KeepsNotes client t trail made) →
    Acts verb before status after → RunsAsPromised verb before status after
does_of verb before after status complete due key emptied exact unsaved keys_unsaved joined h = record {
  answers = h.answers;
  explained = h.explained;
  complete = complete;
  due = due;
  key = key;
  emptied = emptied;
  exact = exact;
  unsaved = unsaved;
  keys_unsaved = keys_unsaved;
  sessions = h.sessions;
  tables = h.tables;
  notes = λ k told.
      let obeys = h.licensed k told in
      record {
        obeys = obeys;
        kept = λ client. joined client no_keys k.tables after.line.trail after.made obeys;
      };
  target = h.target;
  alone = h.alone;
  out = prints_of verb before after status h.answers;
}

-- by other names of what stands behind it
pub does_as : (verb : Option Verb) (before after same : OutsideNow) (status : Status) →
    RunsAsPromised verb before status after → after.line.trail ≡ same.line.trail →
    after.line.target ≡ same.line.target → after.keeper ≡ same.keeper → after.made ≡ same.made →
    after.input ≡ same.input → after.out ≡ same.out → after.clock ≡ same.clock →
    after.entropy ≡ same.entropy → RunsAsPromised verb before status same
does_as verb before after same status h trail target keeper made input out clock entropy =
    let is : after ≡ same = λ i. record {
      line = record { trail = trail i; target = target i };
      keeper = keeper i;
      made = made i;
      input = input i;
      out = out i;
      clock = clock i;
      entropy = entropy i;
    } in
    subst (λ (o : OutsideNow). RunsAsPromised verb before status o) is h
