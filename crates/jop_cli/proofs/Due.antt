-- A sync or an upgrade ends by the refusal that its calls call for.
use Rattle.std.proofs.Common.{◌≡◌, ◌∙◌, refl, sym, ap, subst, arith, inl, inr, ℕ, suc, List, [], ◌∷◌, ◌++◌}
use Rattle.std.proofs.Common.{Option, Some, Result, Ok, Err}
use Rattle.client.specs.Outside.{OutsideNow}
use Rattle.client.specs.Owning.{Owns}
use Rattle.client.specs.declared.own_err.OwnErr.{OwnErr}
use Rattle.client.specs.declared.own_err.OwnErr.TheVariants as own_errors
use Rattle.conflicts.specs.declared.refusal.Refusal.{Refusal}
use Rattle.conflicts.specs.declared.report.SyncReport.{SyncReport}
use Rattle.jop_cli.proofs.Owned.{owned}
use Rattle.jop_cli.specs.Commands.Sessions.{IsUncalled, outcome_by}
use Rattle.jop_cli.specs.Commands.Upgrade.{UpgradesAsNamed, version_line}
use Rattle.jop_cli.specs.Commands.Sync.{SyncsAsNamed, sync_outcome, sync_status}
use Rattle.jop_cli.specs.Run.{AnswersVerdict, AnswersWords, EndsRefused, IsFreshOutside}
use Rattle.jop_outside.specs.Outside.{SinkNow}
use Rattle.jop_status.specs.Outcomes.{Emits, Outcome}
use Rattle.jop_status.specs.Refusals.{session_status}
use Rattle.jop_status.specs.declared.status.Status.{Status}
use Rattle.jop_target.specs.Trail.{LineNow}
use Rattle.jop_target.specs.declared.event.Event.{Event}
use Rattle.jop_target.specs.declared.event.Event.TheVariants.{Began, Called, Ended, Made, Sent}
use Rattle.jop_words.specs.declared.target_name.TargetName.{TargetName}
use Rattle.jop_words.specs.declared.verb.Verb.{Verb}
use Rattle.jop_words.specs.declared.verb.Verb.TheVariants as verbs
use Rattle.law_licences.specs.Views.{Heard}
use Rattle.session_opening.proofs.Judged.{begun_in_order}
use Rattle.session_opening.specs.Verdict.{HeedsVerdict, last_calls, last_calls_from, verdict_of}
use Rattle.sync_run.proofs.Ordered.{unread_in_order}
use Rattle.sync_run.specs.Ordering as upgrade_order
use Rattle.sync_run.specs.Ordering.{HeedsUpgradeVerdict}
use Rattle.sync_run.specs.declared.session_err.SessionErr.{SessionErr}
use Rattle.sync_session.proofs.Ordered.{in_order_as}
use Rattle.sync_session.specs.Ordering.{GivesDue}
use Rattle.sync_session.specs.declared.sync_err.SyncErr.{SyncErr}
use Rattle.target_upgrade.proofs.Judged.{verdict_from-append}
use Rattle.target_upgrade.specs.Verdict.{UpgradeVerdict, AwaitsInfo, upgrade_verdict_from, upgrade_verdict_of}

-- ---- nothing is called

rest_uncalled : (e : Event) (es : List Event) → IsUncalled (e ∷ es) → IsUncalled es
rest_uncalled e es h = λ i d lt. h (suc i) d (omega (arith, lt))

pub behind_changes : (calls : List Heard) (old more : List Event) → IsUncalled old
    → last_calls_from calls (old ++ more) ≡ last_calls_from calls more
unfolding last_calls_from
behind_changes calls [] more h = refl
behind_changes calls (Made number ∷ old) more h =
    behind_changes calls old more (rest_uncalled (Made number) old h)
behind_changes calls (Began ∷ old) more h = absurd (h 0 Began (omega arith))
behind_changes calls (Ended ∷ old) more h = absurd (h 0 Began (omega arith))
behind_changes calls (Sent call ∷ old) more h = absurd (h 0 Began (omega arith))
behind_changes calls (Called call reply ∷ old) more h = absurd (h 0 Began (omega arith))

uncalled_due : (Given : Refusal → Type 0) (trail : List Event) → trail ≡ []
    → HeedsVerdict Given (verdict_of (last_calls trail))
unfolding last_calls_from verdict_of
uncalled_due Given trail none =
    begun_in_order Given (verdict_of (last_calls trail))
    (ap (λ (es : List Event). verdict_of (last_calls es)) none)

-- the client isn't known
pub unowned_line : (before after : OutsideNow) (error : OwnErr) → Owns before (Err error) after
    → after.line ≡ before.line
unowned_line before after own_errors.KeeperFault h = ap (λ (o : OutsideNow). o.line) h.same
unowned_line before after own_errors.EntropyFault h = ap (λ (o : OutsideNow). o.line) h.1
unowned_line before after own_errors.NoMemory h = ap (λ (o : OutsideNow). o.line) h.1

-- ---- a sync

pub told_due : (result : Result SyncReport SyncErr) (a b : SinkNow) (status : Status)
    → Emits (sync_outcome result) a status b → (why : Refusal) → GivesDue result why
    → EndsRefused status why
told_due (Ok report) a b status emits why gives = absurd gives
told_due (Err error) a b status emits why (inl refused) =
    inl (emits.0 ∙ ap sync_status refused)
told_due (Err error) a b status emits why (inr starved) =
    inr (emits.0 ∙ ap sync_status starved)

comes_due : (before mid : OutsideNow) (outcome : Outcome) (a b : SinkNow) (status : Status)
    → IsFreshOutside before → SyncsAsNamed before outcome mid → Emits outcome a status b
    → HeedsVerdict (EndsRefused status) (verdict_of (last_calls mid.line.trail))
comes_due before mid outcome a b status fresh (inl none) emits =
    uncalled_due (EndsRefused status) mid.line.trail
    (ap (λ (l : LineNow). l.trail) (unowned_line before mid none.error none.owns)
    ∙ fresh.unwritten)
comes_due before mid outcome a b status fresh (inr ran) emits =
    let session = ran.ran.2 in
    let more = session.line.more in
    let of = owned ran.client before ran.named fresh ran.owns in
    let calls : last_calls mid.line.trail ≡ last_calls more =
    ap last_calls session.line.trail
    ∙ behind_changes [] ran.named.line.trail more of.uncalled in
    subst (λ (cs : List Heard). HeedsVerdict (EndsRefused status) (verdict_of cs)) (sym calls)
    (in_order_as (GivesDue ran.result) (EndsRefused status) (verdict_of (last_calls more))
    (told_due ran.result a b status
    (subst (λ (o : Outcome). Emits o a status b) ran.is emits)) session.order)

obeyed_due : (target : TargetName) (before after : OutsideNow) (status : Status)
    → IsFreshOutside before → AnswersWords (Some (verbs.Sync target)) before status after
    → HeedsVerdict (EndsRefused status) (verdict_of (last_calls after.line.trail))
obeyed_due target before after status fresh (inl memory) =
    uncalled_due (EndsRefused status) after.line.trail
    (ap (λ (o : OutsideNow). o.line.trail) memory.1 ∙ fresh.unwritten)
obeyed_due target before after status fresh (inr obeys) =
    subst (λ (l : LineNow). HeedsVerdict (EndsRefused status) (verdict_of (last_calls l.trail)))
    (sym (ap (λ (o : OutsideNow). o.line) obeys.emits.same))
    (comes_due before obeys.mid obeys.outcome obeys.mid.out after.out status fresh obeys.comes
    obeys.emits.emits)

-- ---- an upgrade

upgrade_as : (One Other : Refusal → Type 0) (verdict : UpgradeVerdict)
    → ((why : Refusal) → One why → Other why) → HeedsUpgradeVerdict One verdict
    → HeedsUpgradeVerdict Other verdict
upgrade_as One Other verdict also h = record {
  ordered = h.ordered;
  given = λ why due. also why (h.given why due);
}

uncalled_verdict : (verdict : UpgradeVerdict) (trail : List Event) → IsUncalled trail
    → upgrade_verdict_from verdict trail ≡ verdict
unfolding upgrade_verdict_from
uncalled_verdict verdict [] h = refl
uncalled_verdict verdict (Made number ∷ es) h =
    uncalled_verdict verdict es (rest_uncalled (Made number) es h)
uncalled_verdict verdict (Began ∷ es) h = absurd (h 0 Began (omega arith))
uncalled_verdict verdict (Ended ∷ es) h = absurd (h 0 Began (omega arith))
uncalled_verdict verdict (Sent call ∷ es) h = absurd (h 0 Began (omega arith))
uncalled_verdict verdict (Called call reply ∷ es) h = absurd (h 0 Began (omega arith))

unasked_due : (Given : Refusal → Type 0) (trail : List Event) → trail ≡ []
    → HeedsUpgradeVerdict Given (upgrade_verdict_of trail)
unfolding upgrade_verdict_from
unasked_due Given trail none =
    unread_in_order Given (upgrade_verdict_of trail) (ap upgrade_verdict_of none)

told_upgrade : (result : Result ℕ SessionErr) (a b : SinkNow) (status : Status)
    → Emits (outcome_by version_line result) a status b → (why : Refusal)
    → upgrade_order.GivesDueRefusal result why → EndsRefused status why
told_upgrade (Ok version) a b status emits why gives = absurd gives
told_upgrade (Err error) a b status emits why (inl refused) =
    inl (emits.0 ∙ ap session_status refused)
told_upgrade (Err error) a b status emits why (inr starved) =
    inr (emits.0 ∙ ap session_status starved)

comes_upgrade : (before mid : OutsideNow) (outcome : Outcome) (a b : SinkNow) (status : Status)
    → IsFreshOutside before → UpgradesAsNamed before outcome mid → Emits outcome a status b
    → HeedsUpgradeVerdict (EndsRefused status) (upgrade_verdict_of mid.line.trail)
comes_upgrade before mid outcome a b status fresh (inl none) emits =
    unasked_due (EndsRefused status) mid.line.trail
    (ap (λ (l : LineNow). l.trail) (unowned_line before mid none.error none.owns)
    ∙ fresh.unwritten)
comes_upgrade before mid outcome a b status fresh (inr ran) emits =
    let session = ran.ran in
    let more = session.line.more in
    let named = ran.named.line.trail in
    let of = owned ran.client before ran.named fresh ran.owns in
    let verdict : upgrade_verdict_of mid.line.trail ≡ upgrade_verdict_of more =
    ap upgrade_verdict_of session.line.trail
    ∙ (verdict_from-append AwaitsInfo named more
    ∙ ap (λ (v : UpgradeVerdict). upgrade_verdict_from v more)
    (uncalled_verdict AwaitsInfo named of.uncalled)) in
    subst (HeedsUpgradeVerdict (EndsRefused status)) (sym verdict)
    (upgrade_as (upgrade_order.GivesDueRefusal ran.result) (EndsRefused status) (upgrade_verdict_of more)
    (told_upgrade ran.result a b status
    (subst (λ (o : Outcome). Emits o a status b) ran.is emits)) session.order)

obeyed_upgrade : (target : TargetName) (before after : OutsideNow) (status : Status)
    → IsFreshOutside before → AnswersWords (Some (verbs.Upgrade target)) before status after
    → HeedsUpgradeVerdict (EndsRefused status) (upgrade_verdict_of after.line.trail)
obeyed_upgrade target before after status fresh (inl memory) =
    unasked_due (EndsRefused status) after.line.trail
    (ap (λ (o : OutsideNow). o.line.trail) memory.1 ∙ fresh.unwritten)
obeyed_upgrade target before after status fresh (inr obeys) =
    subst (λ (l : LineNow). HeedsUpgradeVerdict (EndsRefused status) (upgrade_verdict_of l.trail))
    (sym (ap (λ (o : OutsideNow). o.line) obeys.emits.same))
    (comes_upgrade before obeys.mid obeys.outcome obeys.mid.out after.out status fresh obeys.comes
    obeys.emits.emits)

-- ---- each command

pub due_of : (verb : Option Verb) (before after : OutsideNow) (status : Status)
    → IsFreshOutside before → AnswersWords verb before status after
    → AnswersVerdict verb status after.line.trail
due_of (Some (verbs.Sync target)) before after status fresh answers =
    obeyed_due target before after status fresh answers
due_of (Some (verbs.Upgrade target)) before after status fresh answers =
    obeyed_upgrade target before after status fresh answers
due_of verb before after status fresh answers = tt
