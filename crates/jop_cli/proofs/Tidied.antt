-- What tidying an input comes to.
use Rattle.std.proofs.Common.{◌≡◌, ◌∙◌, ◌≤◌, refl, sym, subst, ap, inl, inr, ℕ, List, [], length}
use Rattle.jop_status.specs.Outcomes.{Emits, Outcome}
use Rattle.jop_status.specs.Statuses.{is_early}
use Rattle.jop_status.specs.declared.status.Status.{Status}
use Rattle.jop_target.specs.Runs.{has_failed}
use Rattle.std.proofs.Common.{Option, Some, Result, Ok, Err, true, false}
use Rattle.item_text.specs.Canonical.{IsCanonical, GivesCanonical}
use Rattle.item_text.specs.Grammar.{first_fault}
use Rattle.item_text.specs.declared.bad_item.ItemErr.{ItemErr}
use Rattle.item_text.specs.declared.bad_item.ItemErr.TheVariants as item_errors
use Rattle.jop_outside.specs.Outside.{SinkNow, SourceNow}
use Rattle.jop_outside.specs.Reading.{IsAllOf, IsPastLimit, ReadsAll, WasRead}
use Rattle.jop_outside.specs.declared.reading.ReadErr.{ReadErr}
use Rattle.jop_outside.specs.declared.reading.ReadErr.TheVariants as read_errors
use Rattle.client.specs.Outside.{OutsideNow, ReadsInput}
use Rattle.jop_cli.proofs.Runs.{Comes, comes_quiet, uncalled_yet, unfailed_uncalled}
use Rattle.jop_cli.specs.Commands.Tidy.{IsTidyAnswer, HasTidyStatus, TIDY_LIMIT, Tidies, TidiesBytes, TidiesInput, bytes_outcome, item_err, tidy_outcome, read_err, tidy_status}
use Rattle.jop_cli.specs.Causes.{IsExplained}
use Rattle.jop_cli.specs.Run.{AnswersWords, IsFreshOutside, Obeys, TidiesTold}
use Rattle.jop_words.specs.declared.verb.Verb.{Verb}
use Rattle.jop_words.specs.declared.verb.Verb.TheVariants.{Tidy}
use Rattle.jop_cli.specs.declared.command.tidy.TidyErr.{TidyErr}
use Rattle.jop_cli.specs.declared.command.tidy.TidyErr.TheVariants.{Fault, TooLarge, Bad, NoMemory}

-- ---- why the command ends so

explained_refusal : (before after : OutsideNow) (error : TidyErr) →
    TidiesInput before.input (Err error) after.input → has_failed after.line.trail ≡ false →
    IsExplained (Some Tidy) before (tidy_status error) after
explained_refusal before after Fault tidies heard = tidies
explained_refusal before after TooLarge tidies heard =
    inl (record { limit = TIDY_LIMIT; uses = refl; past = tidies; is = refl })
explained_refusal before after (Bad bad) tidies heard = (refl, tidies)
explained_refusal before after NoMemory tidies heard = heard

explained : (before after : OutsideNow) (result : Result (List ℕ) TidyErr) (error : Status) →
    TidiesInput before.input result after.input → has_failed after.line.trail ≡ false →
    tidy_outcome result ≡ Err error → IsExplained (Some Tidy) before error after
explained before after (Ok text) error tidies heard is = absurd (cc is)
explained before after (Err refusal) error tidies heard is =
    let same : tidy_status refusal ≡ error = cc is in
    subst (λ (s : Status). IsExplained (Some Tidy) before s after) same
    (explained_refusal before after refusal tidies heard)

pub early_tidy : (error : TidyErr) → is_early (tidy_status error) ≡ true
early_tidy Fault = refl
early_tidy TooLarge = refl
early_tidy (Bad bad) = refl
early_tidy NoMemory = refl

-- ---- an input that tells its bytes

-- what was read of an input are the bytes that it told
was_told : (old new : SourceNow) (told bytes : List ℕ) → old.left ≡ Some told →
    WasRead TIDY_LIMIT old bytes new → bytes ≡ told
was_told old new told bytes tells read =
    let all : IsAllOf (Some told) bytes new.left =
    subst (λ (o : Option (List ℕ)). IsAllOf o bytes new.left) tells read.all in
    all.0

told_answer : (old new : SourceNow) (told : List ℕ) (result : Result (List ℕ) TidyErr) →
    old.left ≡ Some told → TidiesInput old result new → IsTidyAnswer told result
told_answer old new told (Ok text) tells tidied =
    subst (λ (b : List ℕ). (length b ≤ TIDY_LIMIT) × IsCanonical b text)
    (was_told old new told tidied.bytes tells tidied.read) (tidied.read.within, tidied.canonical)
told_answer old new told (Err (Bad bad)) tells faulty =
    subst (λ (b : List ℕ). (length b ≤ TIDY_LIMIT) × (first_fault b ≡ Some bad))
    (was_told old new told faulty.bytes tells faulty.read) (faulty.read.within, faulty.first)
told_answer old new told (Err TooLarge) tells long =
    let past : IsPastLimit TIDY_LIMIT (Some told) new.left =
    subst (λ (o : Option (List ℕ)). IsPastLimit TIDY_LIMIT o new.left) tells long.past in
    past.0
told_answer old new told (Err Fault) tells rose = tt
told_answer old new told (Err NoMemory) tells free = tt

stands_for : (a b : SinkNow) (status : Status) (result : Result (List ℕ) TidyErr) →
    Emits (tidy_outcome result) a status b → HasTidyStatus result status
stands_for a b status (Ok text) (inl went) = inl went.0
stands_for a b status (Ok text) (inr cut) = inr cut.0
stands_for a b status (Err error) emits = emits.0

told_obeyed : (before after : OutsideNow) (told : List ℕ) (status : Status) →
    before.input.left ≡ Some told → Obeys Tidy before status after → TidiesTold told status
told_obeyed before after told status tells obeys =
    let t : Tidies before obeys.outcome obeys.mid = obeys.comes in (
      t.result,
      stands_for obeys.mid.out after.out status t.result
          (subst (λ (o : Outcome). Emits o obeys.mid.out status after.out) t.is obeys.emits.emits),
      told_answer before.input obeys.mid.input told t.result tells t.tidies,
    )

pub exact_of : (verb : Option Verb) (before after : OutsideNow) (status : Status) →
    AnswersWords verb before status after → (told : List ℕ) → verb ≡ Some Tidy →
    before.input.left ≡ Some told → TidiesTold told status
exact_of verb before after status answers told tidy tells =
    by_cases (subst (λ (v : Option Verb). AnswersWords v before status after) tidy answers) where
      by_cases : AnswersWords (Some Tidy) before status after → TidiesTold told status
      by_cases (inl memory) = (Err NoMemory, memory.0, tt)
      by_cases (inr obeys) = told_obeyed before after told status tells obeys

-- ---- what was read is tidied

-- what the bytes of the whole input come to
abbrev as_tidied : Result (List ℕ) ItemErr → Result (List ℕ) TidyErr
as_tidied (Ok text) = Ok text
as_tidied (Err error) = Err (item_err error)

tidies_read : (old new : SourceNow) (bytes : List ℕ) (text : Result (List ℕ) ItemErr) →
    WasRead TIDY_LIMIT old bytes new → TidiesBytes bytes text → TidiesInput old (as_tidied text) new
tidies_read old new bytes (Ok text) read tidies =
    record { bytes = bytes; read = read; canonical = tidies }
tidies_read old new bytes (Err (item_errors.Bad bad)) read tidies =
    record { bytes = bytes; read = read; first = tidies }
tidies_read old new bytes (Err item_errors.NoMemory) read tidies = tt

same_outcome : (text : Result (List ℕ) ItemErr) → bytes_outcome text ≡ tidy_outcome (as_tidied text)
same_outcome (Ok text) = refl
same_outcome (Err error) = refl

-- the outcome of what was read
pub tidies_of : (before mid : OutsideNow) (bytes : List ℕ) (text : Result (List ℕ) ItemErr) →
    ReadsInput TIDY_LIMIT before (Ok bytes) mid → TidiesBytes bytes text →
    Tidies before (bytes_outcome text) mid
tidies_of before mid bytes text reads tidies = record {
  result = as_tidied text;
  tidies = tidies_read before.input mid.input bytes text reads.reads tidies;
  is = same_outcome text;
  within = reads.within;
  same = reads.same;
}

unread : (old new : SourceNow) (e : ReadErr) → ReadsAll TIDY_LIMIT old (Err e) new →
    TidiesInput old (Err (read_err e)) new
unread old new read_errors.Fault reads = reads
unread old new read_errors.TooLarge reads = reads
unread old new read_errors.NoMemory reads = tt

-- an input that wasn't read to its end
pub tidies_unread : (before mid : OutsideNow) (e : ReadErr) →
    ReadsInput TIDY_LIMIT before (Err e) mid → Tidies before (Err (tidy_status (read_err e))) mid
tidies_unread before mid e reads = record {
  result = Err (read_err e);
  tidies = unread before.input mid.input e reads.reads;
  is = refl;
  within = reads.within;
  same = reads.same;
}

pub comes_tidied : (before mid : OutsideNow) (outcome : Outcome) → IsFreshOutside before →
    Tidies before outcome mid → Comes Tidy before outcome mid
comes_tidied before mid outcome fresh h =
    let trail : mid.line.trail ≡ [] =
    ap (λ (o : OutsideNow). o.line.trail) h.same ∙ fresh.unwritten in
    let behind : IsFreshOutside mid = record {
      unwritten = trail;
      unchanged = ap (λ (o : OutsideNow). o.made) h.same ∙ fresh.unchanged;
    } in
    comes_quiet Tidy before mid outcome fresh refl refl refl refl h h.same h.within
    (λ error is.
    explained before mid h.result error h.tidies
    (unfailed_uncalled mid.line.trail (uncalled_yet mid behind)) (sym h.is ∙ is))

-- ---- bytes

pub refused : (bytes : List ℕ) (e : ItemErr) → GivesCanonical bytes (Err e)
    → TidiesBytes bytes (Err e)
refused bytes (item_errors.Bad bad) tidies = tidies
refused bytes item_errors.NoMemory tidies = tt
