-- An upgrade gives the refusal that its calls call for.
use Rattle.std.proofs.Common.{◌≡◌, ◌<◌, ◌≤◌, ◌∙◌, refl, sym, ap, subst, inl, inr, arith, ℕ, Bool, List, [], ◌∷◌, ◌++◌, append_assoc, append-nil, true, false, if◌then◌else◌, Some, Result, Ok, Err}
use Rattle.std.specs.Prelude.{nat_lt}
use Rattle.std.proofs.lemmas.Bool.Decides.{nat_tests}
use Rattle.std.proofs.lemmas.List.{append_cancel_left}
use Rattle.conflicts.specs.declared.refusal.Refusal.{Refusal}
use Rattle.conflicts.specs.declared.refusal.Refusal.TheVariants.{TargetNewer, BadInfo}
use Rattle.jop_target.specs.declared.event.Event.{Event}
use Rattle.jop_target.specs.declared.event.Event.TheVariants.{Began, Ended}
use Rattle.jop_target.specs.Trail.{LineNow}
use Rattle.lease.proofs.WholeSessions.{at_seam}
use Rattle.lease.specs.Calls.{LeaseGoesOn}
use Rattle.lease.specs.declared.error.LeaseErr.{LeaseErr}
use Rattle.lease.specs.declared.error.LeaseErr.TheVariants as lease_errors
use Rattle.target_upgrade.proofs.Judged.{can_goes, can_stops, verdict_from-append, verdict_locks}
use Rattle.target_upgrade.specs.Answers.{WorkGoesOn}
use Rattle.target_upgrade.specs.Steps.{SUPPORTED}
use Rattle.target_upgrade.specs.Verdict.{UpgradeVerdict, AwaitsInfo, CanUpgrade, IsNewer, IsUnreadable, Unanswered, Disordered, StopsInOrder, judged_version, is_in_order, is_refusing, upgrade_verdict_from, upgrade_verdict_of}
use Rattle.sync_run.specs.Ordering.{AddsTaskInOrder, ComesInOrder, GivesDueRefusal, GoesInOrder, HeedsUpgradeVerdict, RunsTaskInOrder, due_by}
use Rattle.sync_run.specs.Sessions.{session_err_of}
use Rattle.sync_run.specs.Upgrades.{answer_released}
use Rattle.sync_run.specs.declared.outcome.Outcome.{Outcome}
use Rattle.sync_run.specs.declared.outcome.Outcome.TheVariants.{Upgraded, Refused}
use Rattle.sync_run.specs.declared.session_err.SessionErr.{SessionErr}
use Rattle.sync_run.specs.declared.session_err.SessionErr.TheVariants as session_errors

-- ---- what is owed

heeds_as : (Given : Refusal → Type 0) (v w : UpgradeVerdict) → w ≡ v
    → HeedsUpgradeVerdict Given v → HeedsUpgradeVerdict Given w
heeds_as Given v w is h = subst (HeedsUpgradeVerdict Given) (sym is) h

-- a session that has called nothing owes no refusal
pub unread_in_order : (Given : Refusal → Type 0) (v : UpgradeVerdict) → v ≡ AwaitsInfo
    → HeedsUpgradeVerdict Given v
unread_in_order Given v is = heeds_as Given AwaitsInfo v is (record {
  ordered = refl;
  given = λ why no. absurd cc;
})

-- nor does one whose target can be upgraded
can_in_order : (Given : Refusal → Type 0) (v : UpgradeVerdict) → v ≡ CanUpgrade
    → HeedsUpgradeVerdict Given v
can_in_order Given v is = heeds_as Given CanUpgrade v is (record {
  ordered = refl;
  given = λ why no. absurd cc;
})

due_refuses : (v : UpgradeVerdict) (why : Refusal) → due_by v ≡ Some why → is_refusing v ≡ true
due_refuses (IsNewer version) why is = refl
due_refuses IsUnreadable why is = refl
due_refuses AwaitsInfo why is = absurd cc
due_refuses CanUpgrade why is = absurd cc
due_refuses Unanswered why is = absurd cc
due_refuses Disordered why is = absurd cc

due_ordered : (v : UpgradeVerdict) (why : Refusal) → due_by v ≡ Some why → is_in_order v ≡ true
due_ordered (IsNewer version) why is = refl
due_ordered IsUnreadable why is = refl
due_ordered AwaitsInfo why is = absurd cc
due_ordered CanUpgrade why is = absurd cc
due_ordered Unanswered why is = absurd cc
due_ordered Disordered why is = absurd cc

due_once : (v : UpgradeVerdict) (why other : Refusal) → due_by v ≡ Some why
    → due_by v ≡ Some other → other ≡ why
due_once v why other one two =
    let same : Some other ≡ Some why = sym two ∙ one in
    cc

-- it gave nothing, and so for want of memory, if a refusal is due
pub stops_in_order : (e : LeaseErr) (v : UpgradeVerdict) → StopsInOrder e v
    → HeedsUpgradeVerdict (GivesDueRefusal {T = ℕ} (Err (session_err_of e))) v
stops_in_order e v h = record {
  ordered = h.ordered;
  given = λ why due. inr (ap session_err_of (h.starved (due_refuses v why due)));
}

-- ---- what was found

newer_found : (version : ℕ) → SUPPORTED < version → judged_version version ≡ IsNewer version
newer_found version more =
    let newer : nat_lt SUPPORTED version ≡ true = grind (arith, nat_tests) in
    ap (λ (b : Bool). if b then IsNewer version else CanUpgrade) newer

known_found : (version : ℕ) → version ≤ SUPPORTED → judged_version version ≡ CanUpgrade
known_found version less =
    let not_newer : nat_lt SUPPORTED version ≡ false = grind (arith, nat_tests) in
    ap (λ (b : Bool). if b then IsNewer version else CanUpgrade) not_newer

-- its version is newer
pub newer_comes : (v : UpgradeVerdict) (version : ℕ) → SUPPORTED < version
    → v ≡ judged_version version → ComesInOrder (Ok (Refused (TargetNewer version))) v
newer_comes v version more is = ap due_by (is ∙ newer_found version more)

-- it isn't, and then the steps were made
pub upgraded_comes : (client : List ℕ) (old new : LineNow) (version : ℕ) → version ≤ SUPPORTED
    → upgrade_verdict_of old.trail ≡ judged_version version → WorkGoesOn client old new
    → upgrade_verdict_of new.trail ≡ CanUpgrade
upgraded_comes client old new version less is goes =
    can_goes client old new (is ∙ known_found version less) goes

pub stopped_comes : (client : List ℕ) (old new : LineNow) (version : ℕ) (e : LeaseErr)
    → version ≤ SUPPORTED → upgrade_verdict_of old.trail ≡ judged_version version
    → WorkGoesOn client old new → StopsInOrder e (upgrade_verdict_of new.trail)
stopped_comes client old new version e less is goes =
    can_stops e (upgrade_verdict_of new.trail)
    (upgraded_comes client old new version less is goes)

-- the info can't be read
pub unreadable_comes : (v : UpgradeVerdict) → v ≡ IsUnreadable
    → ComesInOrder (Ok (Refused BadInfo)) v
unreadable_comes v is = ap due_by is

-- ---- the lease was given up

answer_in_order : (released : Result (Unit {0}) LeaseErr) (outcome : Outcome)
    (v : UpgradeVerdict) → ComesInOrder (Ok outcome) v
    → HeedsUpgradeVerdict (GivesDueRefusal (answer_released released outcome)) v
answer_in_order (Ok done) Upgraded v h = can_in_order _ v h
answer_in_order (Err e) Upgraded v h = can_in_order _ v h
answer_in_order (Ok done) (Refused cause) v h = record {
  ordered = due_ordered v cause h;
  given = λ why due. inl (ap (λ (r : Refusal). session_errors.Refused r) (due_once v why cause due h));
}
answer_in_order (Err lease_errors.NoMemory) (Refused cause) v h =
    record { ordered = due_ordered v cause h; given = λ why due. inr refl }
answer_in_order (Err lease_errors.TargetFault) (Refused cause) v h = record {
  ordered = due_ordered v cause h;
  given = λ why due. inl (ap (λ (r : Refusal). session_errors.Refused r) (due_once v why cause due h));
}
answer_in_order (Err (lease_errors.Lost seen)) (Refused cause) v h = record {
  ordered = due_ordered v cause h;
  given = λ why due. inl (ap (λ (r : Refusal). session_errors.Refused r) (due_once v why cause due h));
}
answer_in_order (Err (lease_errors.Busy lock now)) (Refused cause) v h = record {
  ordered = due_ordered v cause h;
  given = λ why due. inl (ap (λ (r : Refusal). session_errors.Refused r) (due_once v why cause due h));
}

pub left_in_order : (client : List ℕ) (released : Result (Unit {0}) LeaseErr) (outcome : Outcome)
    (old new : LineNow) → LeaseGoesOn client old new
    → ComesInOrder (Ok outcome) (upgrade_verdict_of old.trail)
    → RunsTaskInOrder (answer_released released outcome) new.trail
left_in_order client released outcome old new goes h =
    heeds_as (GivesDueRefusal (answer_released released outcome)) (upgrade_verdict_of old.trail)
    (upgrade_verdict_of new.trail) (verdict_locks client old new goes)
    (answer_in_order released outcome (upgrade_verdict_of old.trail) h)

-- ---- nothing was called but by the lease

pub still_unread : {T : Type 0} (client : List ℕ) (old new : LineNow) (result : Result T SessionErr)
    → LeaseGoesOn client old new → GoesInOrder old.trail result new.trail
still_unread client old new result goes unread =
    unread_in_order (GivesDueRefusal result) (upgrade_verdict_of new.trail)
    (verdict_locks client old new goes ∙ unread)

-- once the lease is taken, the info is still to be got
pub read_under : (client : List ℕ) (old new : LineNow) → LeaseGoesOn client old new
    → upgrade_verdict_of old.trail ≡ AwaitsInfo → upgrade_verdict_of new.trail ≡ AwaitsInfo
read_under client old new goes unread = verdict_locks client old new goes ∙ unread

pub twice_unread : {T : Type 0} (client other : List ℕ) (old mid new : LineNow)
    (result : Result T SessionErr) → LeaseGoesOn client old mid → LeaseGoesOn other mid new
    → GoesInOrder old.trail result new.trail
twice_unread client other old mid new result goes more unread =
    unread_in_order (GivesDueRefusal result) (upgrade_verdict_of new.trail)
    (verdict_locks other mid new more ∙ (verdict_locks client old mid goes ∙ unread))

-- ---- in a trail

-- a session that has begun has called nothing
pub begins_unread : (old new : List Event) → new ≡ old ++ Began ∷ []
    → upgrade_verdict_of new ≡ AwaitsInfo
unfolding upgrade_verdict_from
begins_unread old new is =
    ap upgrade_verdict_of is ∙ verdict_from-append AwaitsInfo old (Began ∷ [])

-- what it has called then is what was added
since_begun : (old start mid more : List Event) → start ≡ old ++ Began ∷ []
    → mid ≡ start ++ more → upgrade_verdict_of mid ≡ upgrade_verdict_of (Began ∷ more)
unfolding upgrade_verdict_from
since_begun old start mid more begun is =
    ap upgrade_verdict_of is
    ∙ (verdict_from-append AwaitsInfo start more
    ∙ ap (λ (v : UpgradeVerdict). upgrade_verdict_from v more) (begins_unread old start begun))

-- its end says nothing
once_ended : (es : List Event) → upgrade_verdict_of (es ++ Ended ∷ []) ≡ upgrade_verdict_of es
unfolding upgrade_verdict_from
once_ended es = verdict_from-append AwaitsInfo es (Ended ∷ [])

-- the session hasn't ended
pub open_in_order : {T : Type 0} (old start mid more : List Event) (result : Result T SessionErr)
    → start ≡ old ++ Began ∷ [] → mid ≡ start ++ more → RunsTaskInOrder result mid
    → AddsTaskInOrder old result mid
open_in_order old start mid more result begun is h added trail =
    let same : added ≡ Began ∷ more =
    append_cancel_left old added (Began ∷ more) (sym trail ∙ at_seam old more start mid begun is) in
    heeds_as (GivesDueRefusal result) (upgrade_verdict_of mid) (upgrade_verdict_of added)
    (ap upgrade_verdict_of same ∙ sym (since_begun old start mid more begun is)) h

-- or it has
pub whole_in_order : {T : Type 0} (old start mid more new : List Event)
    (result : Result T SessionErr) → start ≡ old ++ Began ∷ [] → mid ≡ start ++ more
    → new ≡ mid ++ Ended ∷ [] → RunsTaskInOrder result mid → AddsTaskInOrder old result new
whole_in_order old start mid more new result begun is ended h added trail =
    let whole : new ≡ old ++ Began ∷ (more ++ Ended ∷ []) =
    ended
    ∙ (ap (λ (es : List Event). es ++ Ended ∷ []) (at_seam old more start mid begun is)
    ∙ append_assoc old (Began ∷ more) (Ended ∷ [])) in
    let same : added ≡ Began ∷ (more ++ Ended ∷ []) =
    append_cancel_left old added (Began ∷ (more ++ Ended ∷ [])) (sym trail ∙ whole) in
    heeds_as (GivesDueRefusal result) (upgrade_verdict_of mid) (upgrade_verdict_of added)
    (ap upgrade_verdict_of same
    ∙ (once_ended (Began ∷ more) ∙ sym (since_begun old start mid more begun is))) h

-- nothing was added
pub none_in_order : {T : Type 0} (old new : List Event) (result : Result T SessionErr) → new ≡ old
    → AddsTaskInOrder old result new
unfolding upgrade_verdict_from
none_in_order old new result is added trail =
    let none : added ≡ [] =
    append_cancel_left old added [] (sym trail ∙ (is ∙ sym (append-nil old))) in
    unread_in_order (GivesDueRefusal result) (upgrade_verdict_of added) (ap upgrade_verdict_of none)
