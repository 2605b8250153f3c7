-- A session that has held a lease of one kind holds none of the other, so an upgrade that is done
-- has never held a sync lock.
use Rattle.std.proofs.Common.{◌≡◌, ◌+◌, ◌∙◌, refl, ap, ℕ, List, [], ◌∷◌, Bool, true, false, not, cond, Option, Some, None}
use Rattle.std.proofs.lemmas.Bool.{and_from}
use Rattle.jop_base.specs.declared.lock_name.LockKind.{LockKind}
use Rattle.jop_base.specs.declared.lock_name.LockKind.TheVariants.{Sync, Exclusive}
use Rattle.jop_target.specs.declared.call.Call.{Call}
use Rattle.jop_target.specs.declared.event.Event.{Event}
use Rattle.jop_target.specs.declared.event.Event.TheVariants.{Began, Sent, Called, Made, Ended}
use Rattle.jop_target.specs.declared.reply.Reply.{Reply}
use Rattle.jop_target.specs.declared.reply.Reply.TheVariants.{Listed, Done, Failed}
use Rattle.lease.specs.Idle.{is_work}
use Rattle.lease.specs.Locks.{LIFE, own_stamp, same_kind}
use Rattle.lease.specs.Phase.{Phase, Held, Renewing, Leaving, Over, Broken, Role, MakesLocks, ListsLocks, PutsOwn, DeletesOwn, Plain, Foreign, role_of, allows, heard, listed_phase, phase_after, phase_unheard, stamp_in_time}
use Rattle.target_upgrade.specs.Course.{Course, begun_course, course_after, course_from, stage_by, stage_lost}
use Rattle.law_exclusion.specs.Runs.{begins_none, is_sync_phase, is_upgrade_from}
use Rattle.target_upgrade.specs.Steps.{Reads, Upgraded}

-- ---- phases

-- the session has held a lease of this kind, or it is over
abbrev is_past : LockKind → Phase → Bool
is_past kind (Held own stamp) = same_kind kind own
is_past kind (Renewing own stamp) = same_kind kind own
is_past kind (Leaving own) = same_kind kind own
is_past kind Over = true
is_past kind Broken = true
is_past kind phase = false

past_listed : (kind own : LockKind) (shown : Option ℕ) → same_kind kind own ≡ true →
    is_past kind (listed_phase own shown None) ≡ true
past_listed kind own None h = h
past_listed kind own (Some stamp) h = h

past_heard : (kind : LockKind) (client : List ℕ) (p : Phase) (role : Role) (reply : Reply) →
    is_past kind p ≡ true → is_past kind (heard client p role reply) ≡ true
past_heard kind client p role Failed h = refl
past_heard kind client (Held own u) MakesLocks reply h = h
past_heard kind client (Held own u) Plain reply h = h
past_heard kind client (Held own u) (PutsOwn other) (Done now) h = h
past_heard kind client (Held own u) (PutsOwn other) reply h = refl
past_heard kind client (Held own u) (DeletesOwn other) reply h = refl
past_heard kind client (Held own u) ListsLocks reply h = refl
past_heard kind client (Held own u) Foreign reply h = refl
past_heard kind client (Renewing own u) ListsLocks (Listed l) h =
    past_listed kind own (stamp_in_time (Some (u + LIFE)) l.now (own_stamp own client l)) h
past_heard kind client (Renewing own u) ListsLocks reply h = refl
past_heard kind client (Renewing own u) role reply h = refl
past_heard kind client (Leaving own) (DeletesOwn other) reply h = refl
past_heard kind client (Leaving own) role reply h = refl
past_heard kind client Over role reply h = refl
past_heard kind client Broken role reply h = refl
past_heard kind client p role reply h = cc

past_if : (kind : LockKind) (b : Bool) (p : Phase) → is_past kind p ≡ true →
    is_past kind (cond b p Broken) ≡ true
past_if kind true p h = h
past_if kind false p h = refl

past_after : (kind : LockKind) (client : List ℕ) (p : Phase) (call : Call) (reply : Reply) →
    is_past kind p ≡ true → is_past kind (phase_after client p call reply) ≡ true
past_after kind client p call reply h =
    past_if kind (allows client p (role_of client call)) (heard client p (role_of client call)
    reply)
    (past_heard kind client p (role_of client call) reply h)

past_unheard : (kind : LockKind) (client : List ℕ) (p : Phase) (call : Call) →
    is_past kind (phase_unheard client p call) ≡ true
past_unheard kind client p call = past_if kind (allows client p (role_of client call)) Over refl

-- ---- stages

abbrev is_upgrading : Phase → Bool
is_upgrading (Held Exclusive stamp) = true
is_upgrading phase = false

same_if : {T : Type 0} (b : Bool) (x : T) → cond b x x ≡ x
same_if true x = refl
same_if false x = refl

still : (c : Course) (p : Phase) (role : Role) (reply : Reply) → is_upgrading p ≡ false →
    cond (is_work p role) (stage_by c p reply) c.stage ≡ c.stage
still c (Held Sync u) role reply h = same_if (is_work (Held Sync u) role) c.stage
still c (Held Exclusive u) role reply h = cc
still c p role reply h = refl

still_lost : (c : Course) (p : Phase) (role : Role) → is_upgrading p ≡ false →
    cond (is_work p role) (stage_lost c p) c.stage ≡ c.stage
still_lost c (Held Sync u) role h = same_if (is_work (Held Sync u) role) c.stage
still_lost c (Held Exclusive u) role h = cc
still_lost c p role h = refl

sync_apart : (p : Phase) → is_past Sync p ≡ true → is_upgrading p ≡ false
sync_apart (Held Exclusive u) h = cc
sync_apart p h = refl

open_apart : (p : Phase) → is_past Exclusive p ≡ false → is_upgrading p ≡ false
open_apart (Held Exclusive u) h = cc
open_apart p h = refl

-- ---- after a sync lease no step is made

sync_stays : (client : List ℕ) (c : Course) (es : List Event) → begins_none es ≡ true →
    is_past Sync c.lease.phase ≡ true → (course_from client c es).stage ≡ c.stage
unfolding course_from
sync_stays client c [] none past = refl
sync_stays client c (Began ∷ es) none past = cc
sync_stays client c (Sent call ∷ es) none past =
    sync_stays client (course_after client c (Sent call)) es none
    (past_unheard Sync client c.lease.phase call)
    ∙ still_lost c c.lease.phase (role_of client call) (sync_apart c.lease.phase past)
sync_stays client c (Called call reply ∷ es) none past =
    sync_stays client (course_after client c (Called call reply)) es none
    (past_after Sync client c.lease.phase call reply past)
    ∙ still c c.lease.phase (role_of client call) reply (sync_apart c.lease.phase past)
sync_stays client c (Made number ∷ es) none past = sync_stays client c es none past
sync_stays client c (Ended ∷ es) none past =
    sync_stays client (course_after client c Ended) es none past

-- ---- before an exclusive one none is made

-- unless an exclusive lease was held, nothing was read
abbrev HasNotRead : Course → Type 0
HasNotRead c = is_past Exclusive c.lease.phase ≡ false → c.stage ≡ Reads

never_back : (p q : Phase) → (is_past Exclusive p ≡ true → is_past Exclusive q ≡ true) →
    is_past Exclusive q ≡ false → is_past Exclusive p ≡ false
never_back p q on h = go (is_past Exclusive p) refl where
  go : (b : Bool) → is_past Exclusive p ≡ b → is_past Exclusive p ≡ false
  go true past = let next = on past in cc
  go false past = past

not_read_called : (client : List ℕ) (c : Course) (call : Call) (reply : Reply) → HasNotRead c →
    HasNotRead (course_after client c (Called call reply))
not_read_called client c call reply h = λ after.
    let before = never_back c.lease.phase (phase_after client c.lease.phase call reply)
    (past_after Exclusive client c.lease.phase call reply) after in
    still c c.lease.phase (role_of client call) reply (open_apart c.lease.phase before)
    ∙ h before

not_read_sent : (client : List ℕ) (c : Course) (call : Call) →
    HasNotRead (course_after client c (Sent call))
not_read_sent client c call = λ after.
    let past = past_unheard Exclusive client c.lease.phase call in cc

never_sync : (client : List ℕ) (c : Course) (es : List Event) → begins_none es ≡ true →
    HasNotRead c → (course_from client c es).stage ≡ Upgraded →
    is_sync_phase c.lease.phase ≡ false
never_sync client c es none h done = go c.lease.phase refl where
  go : (p : Phase) → c.lease.phase ≡ p → is_sync_phase p ≡ false
  go (Held Sync u) is =
      let reads : c.stage ≡ Reads = h (ap (is_past Exclusive) is) in
      let stays = sync_stays client c es none (ap (is_past Sync) is) in
      cc
  go (Held Exclusive u) is = refl
  go p is = refl

upgrade_from : (client : List ℕ) (c : Course) (es : List Event) → begins_none es ≡ true →
    HasNotRead c → (course_from client c es).stage ≡ Upgraded → is_upgrade_from client c es ≡ true
unfolding course_from is_upgrade_from
upgrade_from client c [] none h done = refl
upgrade_from client c (Began ∷ es) none h done = cc
upgrade_from client c (Sent call ∷ es) none h done =
    and_from _ _ (ap not (never_sync client c (Sent call ∷ es) none h done))
    (upgrade_from client (course_after client c (Sent call)) es none
    (not_read_sent client c call) done)
upgrade_from client c (Called call reply ∷ es) none h done =
    and_from _ _ (ap not (never_sync client c (Called call reply ∷ es) none h done))
    (upgrade_from client (course_after client c (Called call reply)) es none
    (not_read_called client c call reply h) done)
upgrade_from client c (Made number ∷ es) none h done =
    and_from _ _ (ap not (never_sync client c (Made number ∷ es) none h done))
    (upgrade_from client c es none h done)
upgrade_from client c (Ended ∷ es) none h done =
    and_from _ _ (ap not (never_sync client c (Ended ∷ es) none h done))
    (upgrade_from client (course_after client c Ended) es none h done)

-- a session that has made all steps is an upgrade
pub upgrade_done : (client : List ℕ) (es : List Event) → begins_none es ≡ true →
    (course_from client begun_course es).stage ≡ Upgraded →
    is_upgrade_from client begun_course es ≡ true
upgrade_done client es none done = upgrade_from client begun_course es none (λ unheld. refl) done
