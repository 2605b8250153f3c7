-- Out of memory no call of a session was answered `Failed`.
use Rattle.std.proofs.Common.{Bool, true, ◌≡◌, ◌∙◌, refl, sym, subst, List, [], ◌∷◌, ◌++◌, append-nil, false, Result, Ok, Err}
use Rattle.std.proofs.lemmas.List.{append_cancel_left}
use Rattle.jop_target.specs.declared.call.Call.{Call}
use Rattle.jop_target.specs.declared.event.Event.{Event}
use Rattle.jop_target.specs.declared.event.Event.TheVariants.{Began}
use Rattle.jop_target.specs.Runs.{has_failed}
use Rattle.jop_target.specs.Trail.{LineNow}
use Rattle.lease.specs.Added.{Makes}
use Rattle.lease.specs.Work.{NoneFailed}
use Rattle.lease.specs.declared.error.LeaseErr.{LeaseErr}
use Rattle.lease.specs.declared.error.LeaseErr.TheVariants.{NoMemory}
use Rattle.lease.specs.declared.lease.Lease.{Lease}
use Rattle.lease.proofs.WholeSessions.{at_seam}
use Rattle.lease.proofs.Works.{none_failed}
use Rattle.target_upgrade.specs.Answers.{Stops, WorkGoesOn}
use Rattle.target_upgrade.proofs.Made.{none_failed_come}
use Rattle.sync_run.specs.Outcomes.{HasOutcome}
use Rattle.sync_run.specs.Sessions.{session_err_of}
use Rattle.sync_run.specs.Upgrades.{answer_by, answer_released}
use Rattle.sync_run.specs.declared.outcome.Outcome.{Outcome}
use Rattle.sync_run.specs.declared.outcome.Outcome.TheVariants.{Upgraded, Refused}
use Rattle.sync_run.specs.declared.session_err.SessionErr.{SessionErr}
use Rattle.sync_run.specs.declared.session_err.SessionErr.TheVariants as session_errors

-- ---- the calls of a lease

-- whose error was told as this one
pub none_failed_starved : {U : Type 0} (calls : List Call) (old new : List Event)
    (e : LeaseErr) (result : Result U SessionErr) → Makes {T = Unit {0}} calls old new (Err e) →
    result ≡ Err (session_err_of e) → result ≡ Err session_errors.NoMemory → NoneFailed old new
none_failed_starved calls old new NoMemory result h told is = none_failed calls h.0 old new h.1
none_failed_starved calls old new e result h told is = cc

-- the release, whatever the session came to
answered : (released : Bool) (outcome : Outcome) →
    answer_by released outcome ≡ Err session_errors.NoMemory → ⊥
answered true Upgraded is = cc
answered false Upgraded is = cc
answered released (Refused why) is = cc

pub none_failed_left : (calls : List Call) (old new : List Event)
    (released : Result (Unit {0}) LeaseErr) (outcome : Outcome) → Makes calls old new released →
    answer_released released outcome ≡ Err session_errors.NoMemory → NoneFailed old new
none_failed_left calls old new (Err NoMemory) outcome h is = none_failed calls h.0 old new h.1
none_failed_left calls old new (Ok done) outcome h is = absurd (answered true outcome is)
none_failed_left calls old new (Err e) outcome h is = absurd (answered false outcome is)

-- ---- what is done under it

-- an upgrade that gave nothing
pub none_failed_stopped : {U : Type 0} (lease : Lease) (old new : LineNow) (e : LeaseErr)
    (result : Result U SessionErr) → Stops lease old new e → result ≡ Err (session_err_of e) →
    result ≡ Err session_errors.NoMemory → NoneFailed old.trail new.trail
none_failed_stopped lease old new NoMemory result h told is = h
none_failed_stopped lease old new e result h told is = cc

-- one that came to something, whose lease is held
pub none_failed_outcome : (a b : Lease) (old mid : LineNow) (outcome : Outcome) →
    HasOutcome a b mid.trail outcome → WorkGoesOn a.client old mid →
    NoneFailed old.trail mid.trail
none_failed_outcome a b old mid outcome h goes =
    none_failed_come a b h.at.stage old mid (record { same = h.same; stands = h.at.stands }) goes

-- ---- the session that was added

-- behind the session's begin
pub none_failed_begun : (old start mid added : List Event) → start ≡ old ++ Began ∷ [] →
    NoneFailed start mid → mid ≡ old ++ added → has_failed added ≡ false
unfolding has_failed
none_failed_begun old start mid added begun none is =
    let same : Began ∷ none.more ≡ added =
    append_cancel_left old (Began ∷ none.more) added
    (sym (at_seam old none.more start mid begun none.trail) ∙ is) in
    subst (λ (es : List Event). has_failed es ≡ false) same none.heard

pub none_failed_unbegun : (old new added : List Event) → new ≡ old → new ≡ old ++ added →
    has_failed added ≡ false
unfolding has_failed
none_failed_unbegun old new added stays is =
    let same : [] ≡ added = append_cancel_left old [] added (append-nil old ∙ (sym stays ∙ is)) in
    subst (λ (es : List Event). has_failed es ≡ false) same refl
