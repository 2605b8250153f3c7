-- What is done outside a session, and under a lease alone, has its licences.
use Rattle.std.proofs.Common.{◌≡◌, ◌∙◌, ap, sym, subst, inl, inr, ℕ, List, [], ◌∷◌, ◌++◌, append-nil, All, true, Option, Some, None, Result, Ok, Err}
use Rattle.std.proofs.lemmas.List.Elements.{All-head, All-tail}
use Rattle.client.specs.Outside.{OutsideNow}
use Rattle.jop_cli.specs.Run.{IsFreshOutside}
use Rattle.jop_base.specs.declared.path.Path.TheVariants.{Item, Blob}
use Rattle.jop_target.specs.declared.call.Call.{Call}
use Rattle.jop_target.specs.declared.call.Call.TheVariants.{Put, Delete, PutBlob}
use Rattle.jop_target.specs.declared.event.Event.{Event}
use Rattle.jop_target.specs.declared.event.Event.TheVariants.{Began, Called, Ended, Made, Sent}
use Rattle.jop_target.specs.declared.reply.Reply.{Reply}
use Rattle.lease.specs.Calls.{IsLeaseCall, IsLeaseEvent}
use Rattle.lease.specs.WholeSession.{AddsBegun, AddsWhole}
use Rattle.law_licences.specs.Deeds.{Asks, Begins, deeds_of}
use Rattle.law_licences.specs.Licences.{Each, IsInside, MayCall, MayDo, ObeysData}
use Rattle.law_licences.specs.Sealing.{no_keys}
use Rattle.law_licences.specs.Views.{View, at_rest, view_after_call, seen}
use Rattle.local_store.specs.declared.change.Change.{Change}
use Rattle.local_store.specs.declared.tables.Tables.{Tables}
use Rattle.session.proofs.LockDeeds.{AreLocks, obeys-locks}
use Rattle.sync_run.specs.Checks.{AddsCheck, CheckAnswers}
use Rattle.sync_run.specs.Sessions.{AddsSession}
use Rattle.sync_run.specs.Upgrades.{AddsUpgrade, UpgradeAnswers}
use Rattle.sync_run.specs.declared.session_err.SessionErr.{SessionErr}
use Rattle.sync_run.specs.declared.session_err.SessionErr.TheVariants.{Busy, LeaseLost, Refused, TargetFault, NoMemory}
use Rattle.target_upgrade.specs.Answers.{IsCall, leaves_items}

-- ---- a session that touches no item

-- such events are calls, and each of them has its licence in every session
record AreFree (P : Event → Type 0) : Type 0 where
  sent : (v : View) (call : Call) → IsInside v.stage → P (Sent call) → MayDo v (Asks call None)
  called : (v : View) (call : Call) (reply : Reply) → IsInside v.stage → P (Called call reply) →
      MayDo v (Asks call (Some reply))
  unbegun : ¬ P Began
  unmade : (number : ℕ) → ¬ P (Made number)
  unended : ¬ P Ended

-- whatever is licensed behind them in a session
free_licensed : (P : Event → Type 0) → AreFree P → (v : View) (es fs : List Event) →
    IsInside v.stage → ((w : View) → IsInside w.stage → Each MayDo w (deeds_of fs [])) →
    All P es → Each MayDo v (deeds_of (es ++ fs) [])
unfolding deeds_of Each
free_licensed P free v [] fs inside behind each = behind v inside
free_licensed P free v (Sent call ∷ es) fs inside behind each = (
  free.sent v call inside (All-head P (Sent call) es each),
  free_licensed P free (view_after_call v call None) es fs inside behind
      (All-tail P (Sent call) es each),
)
free_licensed P free v (Called call reply ∷ es) fs inside behind each = (
  free.called v call reply inside (All-head P (Called call reply) es each),
  free_licensed P free (view_after_call v call (Some reply)) es fs inside behind
      (All-tail P (Called call reply) es each),
)
free_licensed P free v (Began ∷ es) fs inside behind each =
    absurd (free.unbegun (All-head P Began es each))
free_licensed P free v (Made number ∷ es) fs inside behind each =
    absurd (free.unmade number (All-head P (Made number) es each))
free_licensed P free v (Ended ∷ es) fs inside behind each =
    absurd (free.unended (All-head P Ended es each))

-- what was added to a trail has its licences, whatever the tables
pub record AddsLicensed (old new : List Event) : Type 0 where
  pub more : List Event
  pub is : new ≡ old ++ more
  pub licensed : (t : Tables) → ObeysData (at_rest no_keys t) (deeds_of more [])

-- so has a run that had done nothing before, and has made no change
pub licensed_fresh : (before : OutsideNow) (trail : List Event) (t : Tables) →
    IsFreshOutside before →
    AddsLicensed before.line.trail trail → ObeysData (at_rest no_keys t) (deeds_of trail before.made)
licensed_fresh before trail t fresh adds =
    let is : trail ≡ adds.more =
    adds.is ∙ ap (λ (es : List Event). es ++ adds.more) fresh.unwritten in
    subst (λ (es : List Event). ObeysData (at_rest no_keys t) (deeds_of es before.made)) (sym is)
    (subst (λ (cs : List Change). ObeysData (at_rest no_keys t) (deeds_of adds.more cs))
    (sym fresh.unchanged) (adds.licensed t))

whole_licensed : (P : Event → Type 0) → AreFree P → (client : List ℕ) (old new : List Event) →
    AddsWhole P client old new → AddsLicensed old new
unfolding deeds_of Each
whole_licensed P free client old new adds = record {
  more = Began ∷ (adds.middle ++ Ended ∷ []);
  is = adds.trail;
  licensed = λ t. (
    tt,
    free_licensed P free (seen (at_rest no_keys t) Begins) adds.middle (Ended ∷ []) tt
        (λ w inside. (tt, tt)) adds.each,
  );
}

begun_licensed : (P : Event → Type 0) → AreFree P → (more : List Event) (t : Tables)
    (middle : List Event) → more ≡ Began ∷ middle → All P middle →
    ObeysData (at_rest no_keys t) (deeds_of (more ++ []) [])
unfolding deeds_of Each
begun_licensed P free more t middle is each =
    subst (λ (es : List Event). ObeysData (at_rest no_keys t) (deeds_of (es ++ []) [])) (sym is)
    (tt, free_licensed P free (seen (at_rest no_keys t) Begins) middle [] tt (λ w inside. tt) each)

idle_licensed : (more : List Event) (t : Tables) → more ≡ [] →
    ObeysData (at_rest no_keys t) (deeds_of (more ++ []) [])
unfolding deeds_of Each
idle_licensed more t is =
    subst (λ (es : List Event). ObeysData (at_rest no_keys t) (deeds_of (es ++ []) [])) (sym is) tt

open_licensed : (P : Event → Type 0) → AreFree P → (client : List ℕ) (old new : List Event) →
    AddsBegun P client old new → AddsLicensed old new
open_licensed P free client old new adds = record {
  more = adds.more;
  is = adds.trail;
  licensed = λ t.
      subst (λ (es : List Event). ObeysData (at_rest no_keys t) (deeds_of es [])) (append-nil adds.more)
      (elim adds.begun [
        | inl none ↦ idle_licensed adds.more t none
        | inr begun ↦ begun_licensed P free adds.more t begun.0 begun.1 begun.2
      ]);
}

session_licensed : {T : Type 0} (P : Event → Type 0) → AreFree P →
    (Because : List Event → Result T SessionErr → Type 0) (client : List ℕ) (old new : List Event)
    (result : Result T SessionErr) → AddsSession P Because client old new result →
    AddsLicensed old new
session_licensed P free Because client old new (Ok done) adds =
    whole_licensed P free client old new adds.whole
session_licensed P free Because client old new (Err (Busy lock now)) adds =
    whole_licensed P free client old new adds.whole
session_licensed P free Because client old new (Err (LeaseLost seen)) adds =
    whole_licensed P free client old new adds.whole
session_licensed P free Because client old new (Err (Refused why)) adds =
    whole_licensed P free client old new adds.whole
session_licensed P free Because client old new (Err TargetFault) adds =
    whole_licensed P free client old new adds.whole
session_licensed P free Because client old new (Err NoMemory) adds =
    open_licensed P free client old new adds.begun

-- ---- a check

one_lock : (client : List ℕ) (v : View) (call : Call) (reply : Option Reply) → IsInside v.stage →
    IsLeaseCall client call → MayDo v (Asks call reply)
unfolding AreLocks Each
one_lock client v call reply inside own =
    (obeys-locks client v (Asks call reply ∷ []) inside (own, tt)).0

locks_free : (client : List ℕ) → AreFree (IsLeaseEvent client)
locks_free client = record {
  sent = λ v call inside own. one_lock client v call None inside own;
  called = λ v call reply inside own. one_lock client v call (Some reply) inside own;
  unbegun = λ own. own;
  unmade = λ number own. own;
  unended = λ own. own;
}

pub check_licensed : (client : List ℕ) (old new : List Event)
    (result : Result (Unit {0}) SessionErr) → AddsCheck client old new result →
    AddsLicensed old new
check_licensed client old new result adds =
    session_licensed (IsLeaseEvent client) (locks_free client) (CheckAnswers client) client old new
    result adds

-- ---- an upgrade

leaving_licensed : (v : View) (call : Call) → leaves_items call ≡ true → MayCall v call
leaving_licensed v (Put (Item id) content) leaves = cc (leaves)
leaving_licensed v (Delete (Item id)) leaves = cc (leaves)
leaving_licensed v (Delete (Blob id)) leaves = cc (leaves)
leaving_licensed v (PutBlob id len) leaves = cc (leaves)
leaving_licensed v call leaves = tt

upgrade_free : AreFree IsCall
upgrade_free = record {
  sent = λ v call inside leaves. (inside, leaving_licensed v call leaves);
  called = λ v call reply inside leaves. (inside, leaving_licensed v call leaves);
  unbegun = λ none. none;
  unmade = λ number none. none;
  unended = λ none. none;
}

pub upgrade_licensed : (client : List ℕ) (old new : List Event) (result : Result ℕ SessionErr) →
    AddsUpgrade client old new result → AddsLicensed old new
upgrade_licensed client old new result adds =
    session_licensed IsCall upgrade_free (UpgradeAnswers client) client old new result adds
