-- The monitor of a session, over calls of its lease and over its own.
use Rattle.std.proofs.Common.{◌≡◌, ◌∙◌, refl, sym, ap, subst, ℕ, List, [], ◌∷◌, ◌++◌, Bool, true, false, ◌&&◌, ◌||◌, not, bytes_eq, Some}
use Rattle.std.proofs.lemmas.Bool.{and_parts, and_from, eq-eqb}
use Rattle.std.proofs.lemmas.Option.{same_Some}
use Rattle.std.proofs.lemmas.Slice.Eq.{bytes_eq-Decides}
use Rattle.jop_base.specs.declared.dir.Dir.{Dir}
use Rattle.jop_base.specs.declared.lock_name.LockKind.TheVariants.{Exclusive}
use Rattle.jop_target.specs.declared.call.Call.{Call}
use Rattle.jop_target.specs.declared.event.Event.{Event}
use Rattle.jop_target.specs.declared.event.Event.TheVariants.{Began, Sent, Called, Made, Ended}
use Rattle.jop_target.specs.declared.reply.Reply.{Reply}
use Rattle.jop_target.specs.Replies.{IsCallable}
use Rattle.jop_target.specs.Store.{is_same_dir, dir_number}
use Rattle.lease.specs.Discipline.{Session, session_of, session_from, session_after}
use Rattle.lease.specs.Idle.{is_working, is_work, is_idle_event, is_idle_from, IsIdle}
use Rattle.lease.specs.Phase.{Held, role_of}
use Rattle.lease.proofs.Works.{working_is_work}
use Rattle.sync_info.specs.Json.{info_text}
use Rattle.sync_info.specs.declared.info.Info.{Info}
use Rattle.target_upgrade.specs.Answers.{leaves_items}
use Rattle.target_upgrade.specs.Course.{Course, outside_course, course_after, course_from, course_of, is_call, puts_text, is_awaited, is_allowed, may_do}
use Rattle.target_upgrade.specs.Steps.{UpgradeStage, Reads, ReadsOld, At, Gets, Upgraded, Stuck, awaited, at_version, stage_after_reply, step_call}
use Rattle.target_upgrade.specs.declared.step.Step.{Step}
use Rattle.target_upgrade.specs.declared.step.Step.TheVariants.{MakesResources, MakesOldSync, PutsOne, MakesLocks as MakesLockFolder, MakesTemp, PutsTwo, PutsInfo, ListsRoot}

-- ---- the fold

pub course_from-append : (client : List ℕ) (c : Course) (xs ys : List Event) → course_from client c
    (xs ++ ys) ≡ course_from client (course_from client c xs) ys
unfolding course_from
course_from-append client c [] ys = refl
course_from-append client c (x ∷ xs) ys = course_from-append client (course_after client c x) xs ys

pub course_from-last : (client : List ℕ) (c : Course) (es : List Event) (e : Event) → course_from
    client c (es ++ e ∷ []) ≡ course_after client (course_from client c es) e
unfolding course_from
course_from-last client c es e = course_from-append client c es (e ∷ [])

lease_after : (client : List ℕ) (c : Course) (e : Event) → (course_after client c e).lease ≡
    session_after client c.lease e
lease_after client c Began = refl
lease_after client c (Sent call) = refl
lease_after client c (Called call reply) = refl
lease_after client c (Made number) = refl
lease_after client c Ended = refl

lease-from : (client : List ℕ) (c : Course) (es : List Event) → (course_from client c es).lease ≡
    session_from client c.lease es
unfolding course_from session_from
lease-from client c [] = refl
lease-from client c (e ∷ es) = lease-from client (course_after client c e) es ∙ ap
    (λ (s : Session). session_from client s es) (lease_after client c e)

-- it carries the monitor of the lock discipline
pub lease-is : (client : List ℕ) (trail : List Event) → (course_of client trail).lease ≡ session_of
    client trail
lease-is client trail = lease-from client outside_course trail

-- ---- no work

-- all but the lease is the same
pub record IsSameWork (c d : Course) : Type 0 where
  pub told : d.told ≡ c.told
  pub stage : d.stage ≡ c.stage
  pub lawful : d.lawful ≡ c.lawful

pub same_work_on : (c d e : Course) → IsSameWork c d → IsSameWork d e → IsSameWork c e
same_work_on c d e h k = record {
  told = k.told ∙ h.told;
  stage = k.stage ∙ h.stage;
  lawful =
      k.lawful ∙ h.lawful;
}

is_none_of : (b : Bool) → not b ≡ true → b ≡ false
is_none_of true h = sym h
is_none_of false h = refl

and_or_true : (a b : Bool) → (a && (true || b)) ≡ a
and_or_true true b = refl
and_or_true false b = refl

idle_step : (client : List ℕ) (c : Course) (e : Event) → is_idle_event client c.lease e ≡ true →
    IsSameWork c (course_after client c e)
idle_step client c (Sent call) h =
    let none : is_work c.lease.phase (role_of client call) ≡ false = is_none_of _ h in
    record {
      told = refl;
      stage = rw none refl;
      lawful = rw none
          (and_or_true c.lawful (may_do c c.lease.phase call));
    }
idle_step client c (Called call reply) h =
    let none : is_work c.lease.phase (role_of client call) ≡ false = is_none_of _ h in
    record {
      told = rw none refl;
      stage = rw none refl;
      lawful = rw none
          (and_or_true c.lawful (may_do c c.lease.phase call));
    }
idle_step client c Began h = cc
idle_step client c (Made number) h = cc
idle_step client c Ended h = cc

idle_from : (client : List ℕ) (c : Course) (es : List Event) → is_idle_from client c.lease es ≡
    true → IsSameWork c (course_from client c es)
unfolding is_idle_from course_from
idle_from client c [] h = record { told = refl; stage = refl; lawful = refl }
idle_from client c (e ∷ es) h =
    let parts = and_parts (is_idle_event client c.lease e) (is_idle_from client
    (session_after client c.lease e) es) h in
    let rest = idle_from client (course_after client c e) es
    (subst (λ (s : Session). is_idle_from client s es ≡ true) (sym (lease_after client c e))
    parts.1) in
    same_work_on c (course_after client c e) (course_from client (course_after client c e) es)
    (idle_step client c e parts.0) rest

pub idle_work : (client : List ℕ) (old new : List Event) → IsIdle client old new → IsSameWork
    (course_of client old) (course_of client new)
idle_work client old new h =
    let whole : course_of client new ≡ course_from client (course_of client old) h.more = ap
    (course_of client) h.trail ∙ course_from-append client outside_course old h.more in
    subst (λ (d : Course). IsSameWork (course_of client old) d) (sym whole)
    (idle_from client (course_of client old) h.more (subst
    (λ (s : Session). is_idle_from client s h.more ≡ true) (sym (lease-is client old)) h.idle))

-- ---- the awaited call

same_dir : (d : Dir) → is_same_dir d d ≡ true
same_dir d = eq-eqb (dir_number d) (dir_number d) refl

same_bytes : (bytes : List ℕ) → bytes_eq bytes bytes ≡ true
same_bytes bytes = (bytes_eq-Decides bytes bytes).1 refl

step_is : (step : Step) (info : Info) → is_call (step_call step info) (step_call step info) ≡ true
step_is MakesResources info = refl
step_is MakesOldSync info = refl
step_is PutsOne info = refl
step_is MakesLockFolder info = refl
step_is MakesTemp info = refl
step_is PutsTwo info = refl
step_is PutsInfo info = same_bytes (info_text (at_version 2 info))
step_is ListsRoot info = refl

is_itself : (stage : UpgradeStage) (call : Call) → awaited stage ≡ Some call
    → is_call call call ≡ true
is_itself Reads call h = subst (λ (c : Call). is_call c c ≡ true) (same_Some _ _ h) refl
is_itself ReadsOld call h = subst (λ (c : Call). is_call c c ≡ true) (same_Some _ _ h) refl
is_itself (At step info) call h = subst (λ (c : Call). is_call c c ≡ true) (same_Some _ _ h)
    (step_is step info)
is_itself (Gets (id ∷ ids) info) call h = subst (λ (c : Call). is_call c c ≡ true) (same_Some _ _ h)
    (same_bytes id)
is_itself (Gets [] info) call h = subst (λ (c : Call). is_call c c ≡ true) (same_Some _ _ h)
    (same_bytes (info_text info))
is_itself Upgraded call h = cc
is_itself Stuck call h = cc

awaited_is : (stage : UpgradeStage) (call : Call) → awaited stage ≡ Some call
    → puts_text call ≡ true →
    is_awaited (awaited stage) call ≡ true
awaited_is stage call h text =
    rw h (and_from (is_call call call) (puts_text call) (is_itself stage call h) text)

-- an awaited call has to do neither with locks nor with temporary files, or makes the folder of locks
pub awaited_works : (client : List ℕ) (stage : UpgradeStage) (call : Call)
    → awaited stage ≡ Some call →
    is_working (role_of client call) ≡ true
awaited_works client Reads call h = subst (λ (c : Call). is_working (role_of client c) ≡ true)
    (same_Some _ _ h) refl
awaited_works client ReadsOld call h = subst (λ (c : Call). is_working (role_of client c) ≡ true)
    (same_Some _ _ h) refl
awaited_works client (At step info) call h = subst (λ (c : Call). is_working (role_of client c) ≡
    true) (same_Some _ _ h) (step_works step) where
      step_works : (step : Step) → is_working (role_of client (step_call step info)) ≡ true
      step_works MakesResources = refl
      step_works MakesOldSync = refl
      step_works PutsOne = refl
      step_works MakesLockFolder = refl
      step_works MakesTemp = refl
      step_works PutsTwo = refl
      step_works PutsInfo = refl
      step_works ListsRoot = refl
awaited_works client (Gets (id ∷ ids) info) call h = subst (λ (c : Call). is_working
    (role_of client c) ≡ true) (same_Some _ _ h) refl
awaited_works client (Gets [] info) call h = subst (λ (c : Call). is_working (role_of client c) ≡
    true) (same_Some _ _ h) refl
awaited_works client Upgraded call h = cc
awaited_works client Stuck call h = cc

-- and it names no blob
pub awaited_callable : (stage : UpgradeStage) (call : Call) (blob : List ℕ)
    → awaited stage ≡ Some call →
    IsCallable call blob
awaited_callable Reads call blob h = subst (λ (c : Call). IsCallable c blob) (same_Some _ _ h) refl
awaited_callable ReadsOld call blob h = subst (λ (c : Call). IsCallable c blob) (same_Some _ _ h)
    refl
awaited_callable (At step info) call blob h = subst (λ (c : Call). IsCallable c blob)
    (same_Some _ _ h) (step_callable step) where
      step_callable : (step : Step) → IsCallable (step_call step info) blob
      step_callable MakesResources = tt
      step_callable MakesOldSync = tt
      step_callable PutsOne = refl
      step_callable MakesLockFolder = tt
      step_callable MakesTemp = tt
      step_callable PutsTwo = refl
      step_callable PutsInfo = refl
      step_callable ListsRoot = tt
awaited_callable (Gets (id ∷ ids) info) call blob h = subst (λ (c : Call). IsCallable c blob)
    (same_Some _ _ h) refl
awaited_callable (Gets [] info) call blob h = subst (λ (c : Call). IsCallable c blob)
    (same_Some _ _ h) refl
awaited_callable Upgraded call blob h = cc
awaited_callable Stuck call blob h = cc

-- and it leaves all items as they are
pub awaited_leaves : (stage : UpgradeStage) (call : Call) → awaited stage ≡ Some call
    → leaves_items call ≡
    true
awaited_leaves Reads call h = subst (λ (c : Call). leaves_items c ≡ true) (same_Some _ _ h) refl
awaited_leaves ReadsOld call h = subst (λ (c : Call). leaves_items c ≡ true) (same_Some _ _ h)
    refl
awaited_leaves (At step info) call h = subst (λ (c : Call). leaves_items c ≡ true)
    (same_Some _ _ h) (step_leaves step) where
      step_leaves : (step : Step) → leaves_items (step_call step info) ≡ true
      step_leaves MakesResources = refl
      step_leaves MakesOldSync = refl
      step_leaves PutsOne = refl
      step_leaves MakesLockFolder = refl
      step_leaves MakesTemp = refl
      step_leaves PutsTwo = refl
      step_leaves PutsInfo = refl
      step_leaves ListsRoot = refl
awaited_leaves (Gets (id ∷ ids) info) call h = subst (λ (c : Call). leaves_items c ≡ true)
    (same_Some _ _ h) refl
awaited_leaves (Gets [] info) call h = subst (λ (c : Call). leaves_items c ≡ true)
    (same_Some _ _ h) refl
awaited_leaves Upgraded call h = cc
awaited_leaves Stuck call h = cc

-- ---- the monitor behind an awaited call

-- what a session is before its next call
pub record IsReady (client : List ℕ) (stamp : ℕ) (trail : List Event) (stage : UpgradeStage)
    : Type 0 where
  pub phase : (session_of client trail).phase ≡ Held Exclusive stamp
  pub lawful : (course_of client trail).lawful ≡ true
  pub at : (course_of client trail).stage ≡ stage

lease_phase : (client : List ℕ) (stamp : ℕ) (trail : List Event) (stage : UpgradeStage)
    → IsReady client
    stamp trail stage → (course_of client trail).lease.phase ≡ Held Exclusive stamp
lease_phase client stamp trail stage r = ap (λ (s : Session). s.phase) (lease-is client trail) ∙
    r.phase

allowed_now : (client : List ℕ) (stamp : ℕ) (trail : List Event) (stage : UpgradeStage)
    (call : Call) →
    IsReady client stamp trail stage → awaited stage ≡ Some call → puts_text call ≡ true →
    is_allowed client (course_of client trail) call ≡ true
allowed_now client stamp trail stage call r next text =
    let phase = lease_phase client stamp trail stage r in
    let work : is_work (Held Exclusive stamp) (role_of client call) ≡ true = working_is_work
    Exclusive stamp (role_of client call) (awaited_works client stage call next) in
    rw (phase, work, r.at) (awaited_is stage call next text)

pub lawful_called : (client : List ℕ) (stamp : ℕ) (old new : List Event) (stage : UpgradeStage)
    (call : Call) (reply : Reply) → IsReady client stamp old stage → awaited stage ≡ Some call →
    puts_text call ≡ true → new ≡ old ++ Called call reply ∷ [] → (course_of client new).lawful ≡
    true
lawful_called client stamp old new stage call reply r next text is =
    let whole : course_of client new ≡ course_after client (course_of client old)
    (Called call reply) = ap (course_of client) is ∙ course_from-last client outside_course old
    (Called call reply) in
    ap (λ (c : Course). c.lawful) whole ∙ and_from (course_of client old).lawful
    (is_allowed client (course_of client old) call) r.lawful
    (allowed_now client stamp old stage call r next text)

pub lawful_sent : (client : List ℕ) (stamp : ℕ) (old new : List Event) (stage : UpgradeStage)
    (call : Call) → IsReady client stamp old stage → awaited stage ≡ Some call → puts_text call ≡
    true → new ≡ old ++ Sent call ∷ [] → (course_of client new).lawful ≡ true
lawful_sent client stamp old new stage call r next text is =
    let whole : course_of client new ≡ course_after client (course_of client old) (Sent call) = ap
    (course_of client) is ∙ course_from-last client outside_course old (Sent call) in
    ap (λ (c : Course). c.lawful) whole ∙ and_from (course_of client old).lawful
    (is_allowed client (course_of client old) call) r.lawful
    (allowed_now client stamp old stage call r next text)

pub stage_called : (client : List ℕ) (stamp : ℕ) (old new : List Event) (stage : UpgradeStage)
    (call : Call) (reply : Reply) → IsReady client stamp old stage → awaited stage ≡ Some call → new
    ≡ old ++ Called call reply ∷ [] → (course_of client new).stage ≡ stage_after_reply stage reply
stage_called client stamp old new stage call reply r next is =
    let whole : course_of client new ≡ course_after client (course_of client old)
    (Called call reply) = ap (course_of client) is ∙ course_from-last client outside_course old
    (Called call reply) in
    let phase = lease_phase client stamp old stage r in
    let work : is_work (Held Exclusive stamp) (role_of client call) ≡ true = working_is_work
    Exclusive stamp (role_of client call) (awaited_works client stage call next) in
    ap (λ (c : Course). c.stage) whole ∙ rw (phase, work, r.at) refl
