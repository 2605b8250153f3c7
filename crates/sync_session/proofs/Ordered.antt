-- A sync gives the refusal that its calls call for.
use Rattle.std.specs.Prelude.{◌≡◌, ◌⊎◌, List, [], ◌∷◌, ◌++◌, All, Result, Ok, Err, refl}
use Rattle.std.proofs.Common.{ℕ, suc, arith, sym, ◌∙◌, ap, subst, inl, inr, append-nil, append_assoc}
use Rattle.std.proofs.lemmas.List.{append_cancel_left}
use Rattle.client.specs.Sites.{SiteNow}
use Rattle.conflicts.specs.declared.error.StepErr.{StepErr}
use Rattle.conflicts.specs.declared.error.StepErr.TheVariants as step_errors
use Rattle.conflicts.specs.declared.refusal.Refusal.{Refusal}
use Rattle.jop_target.specs.Trail.{LineNow}
use Rattle.jop_target.specs.declared.event.Event.{Event}
use Rattle.jop_target.specs.declared.event.Event.TheVariants.{Began, Sent, Called, Made, Ended}
use Rattle.law_licences.proofs.Told.{calls_from-append}
use Rattle.law_licences.specs.Trails.{calls_after, calls_from, session_calls}
use Rattle.law_licences.specs.Views.{Heard}
use Rattle.lease.proofs.WholeSessions.{at_seam}
use Rattle.lease.specs.Calls.{LeaseGoesOn}
use Rattle.lease.specs.WholeSession.{IsInner}
use Rattle.lease.specs.declared.error.LeaseErr.{LeaseErr}
use Rattle.lease.specs.declared.error.LeaseErr.TheVariants as lease_errors
use Rattle.lease.specs.declared.lease.Lease.{Lease}
use Rattle.session.proofs.Asked.{calls_locks}
use Rattle.session.specs.Work.{WorkNow}
use Rattle.session_opening.proofs.Judged.{begun_in_order}
use Rattle.session_opening.specs.Verdict.{AwaitsInfo, HeedsVerdict, Verdict, last_calls, last_calls_from, verdict_in, verdict_of}
use Rattle.sync_session.proofs.Whole.{inner_step}
use Rattle.sync_session.specs.Errors.{of_step}
use Rattle.sync_session.specs.Leaving.{LeavesLease, answer_once_left}
use Rattle.sync_session.specs.Ordering.{AddsInOrder, GivesDue, RunsInOrder}
use Rattle.sync_session.specs.Syncing.{SyncGoesOn, begun_at, ended_at}
use Rattle.sync_session.specs.Working.{SyncWorks}
use Rattle.sync_session.specs.declared.sync_err.SyncErr.{SyncErr}
use Rattle.sync_session.specs.declared.sync_err.SyncErr.TheVariants.{Busy, LeaseLost, Refused, TargetFault, KeeperFault, NoMemory}

-- ---- by another name of the answer

-- what gives no less gives what is due
pub in_order_as : (One Other : Refusal → Type 0) (verdict : Verdict)
    → ((why : Refusal) → One why → Other why) → HeedsVerdict One verdict → HeedsVerdict Other verdict
in_order_as One Other verdict also h = record {
  ordered = h.ordered;
  given = λ why due. also why (h.given why due);
}

-- an error of a step
pub of_step_in_order : (e : StepErr) (verdict : Verdict)
    → HeedsVerdict (λ why. (e ≡ step_errors.Refused why) ⊎ (e ≡ step_errors.NoMemory)) verdict
    → HeedsVerdict (λ why. (of_step e ≡ Refused why) ⊎ (of_step e ≡ NoMemory)) verdict
of_step_in_order e verdict h =
    in_order_as (λ why. (e ≡ step_errors.Refused why) ⊎ (e ≡ step_errors.NoMemory))
    (λ why. (of_step e ≡ Refused why) ⊎ (of_step e ≡ NoMemory)) verdict
    (λ why gives. elim gives [
      | inl refused ↦ inl (ap of_step refused)
      | inr starved ↦ inr (ap of_step starved)
    ]) h

-- ---- nothing was called

pub unread : (w : WorkNow) → session_calls w.site.line.trail ≡ [] → verdict_in w ≡ AwaitsInfo
unfolding verdict_of
unread w none = ap verdict_of none

pub idle_in_order : (Given : Refusal → Type 0) (client : List ℕ) (old new : SiteNow)
    (s t : LineNow) → old.line ≡ s → new.line ≡ t → session_calls old.line.trail ≡ []
    → LeaseGoesOn client s t → HeedsVerdict Given (verdict_of (session_calls new.line.trail))
unfolding verdict_of
idle_in_order Given client old new s t o n none goes =
    let line : LeaseGoesOn client old.line new.line =
    subst (λ (l : LineNow). LeaseGoesOn client l new.line) (sym o)
    (subst (λ (l : LineNow). LeaseGoesOn client s l) (sym n) goes) in
    begun_in_order Given (verdict_of (session_calls new.line.trail))
    (ap verdict_of (calls_locks client old new.line line ∙ none))

-- ---- the lease was given up

-- a refusal is answered behind any release, but for want of memory
still_given : (why : Refusal) (e : SyncErr) (released : Result (Unit {0}) LeaseErr)
    → GivesDue {R = Unit {0}} (Err e) why → GivesDue (answer_once_left released (Err e)) why
still_given why e (Ok done) gives = gives
still_given why e (Err lease_errors.NoMemory) gives = inr refl
still_given why e (Err lease_errors.TargetFault) gives = gives
still_given why e (Err (lease_errors.Lost seen)) gives = gives
still_given why e (Err (lease_errors.Busy lock now)) gives = gives

pub left_given : (lease : Lease) (worked result : Result (Unit {0}) SyncErr) (old new : SiteNow)
    → LeavesLease lease worked old result new → (why : Refusal) → GivesDue worked why
    → GivesDue result why
left_given lease (Ok done) result old new leaves why gives = absurd gives
left_given lease (Err (Busy lock now)) result old new leaves why gives =
    subst (λ (r : Result (Unit {0}) SyncErr). GivesDue r why) (sym leaves.0) gives
left_given lease (Err (LeaseLost seen)) result old new leaves why gives =
    subst (λ (r : Result (Unit {0}) SyncErr). GivesDue r why) (sym leaves.0) gives
left_given lease (Err TargetFault) result old new leaves why gives =
    subst (λ (r : Result (Unit {0}) SyncErr). GivesDue r why) (sym leaves.0) gives
left_given lease (Err NoMemory) result old new leaves why gives =
    subst (λ (r : Result (Unit {0}) SyncErr). GivesDue r why) (sym leaves.0) gives
left_given lease (Err (Refused cause)) result old new leaves why gives =
    subst (λ (r : Result (Unit {0}) SyncErr). GivesDue r why) (sym leaves.is)
    (still_given why (Refused cause) leaves.released gives)
left_given lease (Err KeeperFault) result old new leaves why gives =
    subst (λ (r : Result (Unit {0}) SyncErr). GivesDue r why) (sym leaves.is)
    (still_given why KeeperFault leaves.released gives)

pub left_calls : (lease : Lease) (worked result : Result (Unit {0}) SyncErr) (old new : SiteNow)
    → LeavesLease lease worked old result new
    → session_calls new.line.trail ≡ session_calls old.line.trail
left_calls lease (Ok done) result old new leaves =
    calls_locks lease.client old new.line leaves.goes
left_calls lease (Err (Busy lock now)) result old new leaves =
    ap (λ (d : SiteNow). session_calls d.line.trail) leaves.1
left_calls lease (Err (LeaseLost seen)) result old new leaves =
    ap (λ (d : SiteNow). session_calls d.line.trail) leaves.1
left_calls lease (Err TargetFault) result old new leaves =
    ap (λ (d : SiteNow). session_calls d.line.trail) leaves.1
left_calls lease (Err NoMemory) result old new leaves =
    ap (λ (d : SiteNow). session_calls d.line.trail) leaves.1
left_calls lease (Err (Refused cause)) result old new leaves =
    calls_locks lease.client old new.line leaves.goes
left_calls lease (Err KeeperFault) result old new leaves =
    calls_locks lease.client old new.line leaves.goes

left_in_order : (lease : Lease) (worked result : Result (Unit {0}) SyncErr)
    (old new : SiteNow) → LeavesLease lease worked old result new → RunsInOrder worked old
    → RunsInOrder result new
left_in_order lease worked result old new leaves h =
    subst (λ (calls : List Heard). HeedsVerdict (GivesDue result) (verdict_of calls))
    (sym (left_calls lease worked result old new leaves))
    (in_order_as (GivesDue worked) (GivesDue result) (verdict_of (session_calls old.line.trail))
    (left_given lease worked result old new leaves) h)

-- so is a session's lease
pub left_held : (a b : WorkNow) (worked result : Result (Unit {0}) SyncErr) (new : SiteNow)
    → SyncWorks a worked b → RunsInOrder worked b.site
    → LeavesLease b.lease worked b.site result new → RunsInOrder result new
left_held a b worked result new works h leaves =
    left_in_order b.lease worked result b.site new leaves h

-- ---- in a trail

rest_inner : (e : Event) (es : List Event) → All IsInner (e ∷ es) → All IsInner es
rest_inner e es h = λ i d lt. h (suc i) d (omega (arith, lt))

-- within a session its calls are those of the last one
last_within : (calls : List Heard) (es : List Event) → All IsInner es
    → last_calls_from calls es ≡ calls_from calls es
unfolding calls_from last_calls_from
last_within calls [] h = refl
last_within calls (Sent call ∷ es) h =
    last_within (calls_after calls (Sent call)) es (rest_inner (Sent call) es h)
last_within calls (Called call reply ∷ es) h =
    last_within (calls_after calls (Called call reply)) es (rest_inner (Called call reply) es h)
last_within calls (Made number ∷ es) h = last_within calls es (rest_inner (Made number) es h)
last_within calls (Began ∷ es) h = absurd (h 0 Began (omega arith))
last_within calls (Ended ∷ es) h = absurd (h 0 Began (omega arith))

-- its end leaves them
pub last_ended : (calls : List Heard) (es : List Event)
    → last_calls_from calls (es ++ Ended ∷ []) ≡ last_calls_from calls es
unfolding last_calls_from
last_ended calls [] = refl
last_ended calls (Sent call ∷ es) = last_ended (calls_after calls (Sent call)) es
last_ended calls (Called call reply ∷ es) = last_ended (calls_after calls (Called call reply)) es
last_ended calls (Made number ∷ es) = last_ended calls es
last_ended calls (Began ∷ es) = last_ended [] es
last_ended calls (Ended ∷ es) = last_ended calls es

pub last_begun : (es : List Event) → last_calls (Began ∷ es) ≡ last_calls es
unfolding last_calls_from
last_begun es = refl

-- what a session that has begun has called since
since_begun : (old mid more : List Event) → mid ≡ (old ++ Began ∷ []) ++ more
    → session_calls mid ≡ calls_from [] more
unfolding calls_from
since_begun old mid more is =
    ap session_calls is
    ∙ (calls_from-append [] (old ++ Began ∷ []) more
    ∙ ap (λ (calls : List Heard). calls_from calls more)
    (calls_from-append [] old (Began ∷ [])))

-- the calls of a session that was added are those that it made
pub added_calls : (client : List ℕ) (old begun mid : SiteNow) → begun ≡ begun_at old
    → (goes : SyncGoesOn client begun.line mid.line)
    → last_calls goes.goes.line.more ≡ session_calls mid.line.trail
added_calls client old begun mid is goes =
    let line = goes.goes.line in
    last_within [] line.more (λ i d lt. inner_step client _ (line.each i d lt))
    ∙ sym (since_begun old.line.trail mid.line.trail line.more
    (line.trail ∙ ap (λ (d : SiteNow). d.line.trail ++ line.more) is))

-- its end isn't written down
pub open_in_order : (client : List ℕ) (old begun mid : SiteNow) (Given : Refusal → Type 0)
    → begun ≡ begun_at old → SyncGoesOn client begun.line mid.line
    → HeedsVerdict Given (verdict_of (session_calls mid.line.trail)) → (added : List Event)
    → mid.line.trail ≡ old.line.trail ++ added → HeedsVerdict Given (verdict_of (last_calls added))
open_in_order client old begun mid Given is goes h added trail =
    let more = goes.goes.line.more in
    let at = at_seam old.line.trail more begun.line.trail mid.line.trail
    (ap (λ (d : SiteNow). d.line.trail) is) goes.goes.line.trail in
    let same : added ≡ Began ∷ more =
    append_cancel_left old.line.trail added (Began ∷ more) (sym trail ∙ at) in
    subst (λ (calls : List Heard). HeedsVerdict Given (verdict_of calls))
    (sym (ap last_calls same ∙ (last_begun more ∙ added_calls client old begun mid is goes))) h

-- and it is
pub whole_in_order : (client : List ℕ) (old begun mid new : SiteNow) (Given : Refusal → Type 0)
    → begun ≡ begun_at old → SyncGoesOn client begun.line mid.line → new ≡ ended_at mid
    → HeedsVerdict Given (verdict_of (session_calls mid.line.trail)) → (added : List Event)
    → new.line.trail ≡ old.line.trail ++ added → HeedsVerdict Given (verdict_of (last_calls added))
whole_in_order client old begun mid new Given is goes ended h added trail =
    let more = goes.goes.line.more in
    let at = at_seam old.line.trail more begun.line.trail mid.line.trail
    (ap (λ (d : SiteNow). d.line.trail) is) goes.goes.line.trail in
    let whole : new.line.trail ≡ old.line.trail ++ Began ∷ (more ++ Ended ∷ []) =
    ap (λ (d : SiteNow). d.line.trail) ended
    ∙ (ap (λ (es : List Event). es ++ Ended ∷ []) at
    ∙ append_assoc old.line.trail (Began ∷ more) (Ended ∷ [])) in
    let same : added ≡ Began ∷ (more ++ Ended ∷ []) =
    append_cancel_left old.line.trail added (Began ∷ (more ++ Ended ∷ [])) (sym trail ∙ whole) in
    subst (λ (calls : List Heard). HeedsVerdict Given (verdict_of calls))
    (sym (ap last_calls same
    ∙ (last_begun (more ++ Ended ∷ [])
    ∙ (last_ended [] more ∙ added_calls client old begun mid is goes)))) h

-- nothing was added
pub none_in_order : (old new : SiteNow) (Given : Refusal → Type 0) → new ≡ old
    → (added : List Event) → new.line.trail ≡ old.line.trail ++ added
    → HeedsVerdict Given (verdict_of (last_calls added))
unfolding last_calls_from verdict_of
none_in_order old new Given is added trail =
    let none : added ≡ [] =
    append_cancel_left old.line.trail added []
    (sym trail ∙ (ap (λ (d : SiteNow). d.line.trail) is ∙ sym (append-nil old.line.trail))) in
    begun_in_order Given (verdict_of (last_calls added))
    (ap (λ (es : List Event). verdict_of (last_calls es)) none)

-- by another name of what stands behind it
pub added_as : {R : Type 0} (old : List Event) (result : Result R SyncErr) (new same : SiteNow)
    → AddsInOrder old result new.line.trail → new ≡ same → AddsInOrder old result same.line.trail
added_as old result new same h is =
    subst (λ (d : SiteNow). AddsInOrder old result d.line.trail) is h
