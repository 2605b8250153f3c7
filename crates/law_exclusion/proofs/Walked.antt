-- One event of the client that upgrades.
use Rattle.std.proofs.Common.{◌≡◌, ◌≤◌, ◌⊎◌, ◌∙◌, refl, sym, ap, subst, inl, inr, ℕ, List, [], ◌∷◌, Bool, true, false, not, cond, Option, Some, None}
use Rattle.std.proofs.lemmas.Bool.{and_parts, false≢true}
use Rattle.jop_base.specs.declared.lock_name.LockKind.TheVariants.{Exclusive}
use Rattle.jop_target.specs.declared.call.Call.{Call}
use Rattle.jop_target.specs.declared.event.Event.{Event}
use Rattle.jop_target.specs.declared.event.Event.TheVariants.{Began, Sent, Called, Made, Ended}
use Rattle.jop_target.specs.declared.reply.Reply.{Reply}
use Rattle.jop_target.specs.declared.reply.Reply.TheVariants.{Listed, Got, GotBlob, Absent, Done, Failed, TooLarge}
use Rattle.jop_target.specs.declared.tree.Tree.{Tree}
use Rattle.jop_target.specs.History.{Answered, Unheard, IsHonestReply, landed_call, tree_with}
use Rattle.jop_target.specs.Store.{reply_of, tree_after}
use Rattle.lease.specs.Exclusion.{is_began}
use Rattle.lease.specs.Discipline.{session_after, keeps_lock_order, lawful_from}
use Rattle.lease.specs.Idle.{is_work}
use Rattle.lease.specs.Phase.{Phase, Held, role_of, allows, heard, phase_after, phase_unheard}
use Rattle.lease.proofs.World.{lawful_so_far}
use Rattle.target_upgrade.specs.Course.{Course, course_after, allowed_from, is_awaited, is_allowed}
use Rattle.law_exclusion.specs.Runs.{is_aside, lands_aside, is_sync_phase, is_upgrade_from}
use Rattle.target_upgrade.specs.Steps.{UpgradeStage, Reads, ReadsOld, At, Gets, Upgraded, Stuck, awaited, stage_after_reply}
use Rattle.target_upgrade.specs.declared.step.Step.{Step as UpgradeStep}
use Rattle.target_upgrade.specs.declared.step.Step.TheVariants.{MakesResources, MakesOldSync, PutsOne, MakesLocks as MakesLockFolder, MakesTemp, PutsTwo, PutsInfo, ListsRoot}
use Rattle.law_exclusion.proofs.InTune.{ComesToSame, same_tree, IsInTune}
use Rattle.law_exclusion.proofs.Redo.{done_call}
use Rattle.law_exclusion.proofs.Aside.{like_landed, same_like, tuned_like}
use Rattle.law_exclusion.proofs.Allowed.{quiet_role, role_aside, allowed_if, exclusive_work, IsNext, awaited-is}

-- ---- one event of the client that upgrades

-- the tree is in tune with the session
abbrev pub Fits : Course → Tree → Type 0
Fits c t = IsInTune c.stage t

-- and comes to the same as before
pub record HasWalked (d : Course) (t u : Tree) : Type 0 where
  pub fits : Fits d u
  pub same : ComesToSame t u

-- what the monitors say of a call
pub record IsAllowed (client : List ℕ) (c : Course) (call : Call) (next : Phase) : Type 0 where
  pub work : is_allowed client c call ≡ true
  pub order : keeps_lock_order next ≡ true

-- the call landed, or it didn't
landed_aside : (call : Call) (landed : Bool) (reply : Reply) → is_aside call ≡ true → lands_aside
    (landed_call (Answered call reply landed)) ≡ true
landed_aside call true reply h = h
landed_aside call false reply h = refl

sent_aside : (call : Call) (landed : Bool) → is_aside call ≡ true → lands_aside
    (landed_call (Unheard call landed)) ≡ true
sent_aside call true h = h
sent_aside call false h = refl

-- a call that isn't work leaves the session with what it knows
quiet : (client : List ℕ) (c d : Course) (t : Tree) (m : ℕ) (call : Call) (o : Option Call) → allows
    client c.lease.phase (role_of client call) ≡ true → is_work c.lease.phase (role_of client call)
    ≡ false → d.stage ≡ c.stage → (is_aside call ≡ true → lands_aside o ≡ true) → Fits c t →
    HasWalked d t (tree_with t m o)
quiet client c d t m call o allowed none stage aside fits =
    let like = like_landed t m o (aside (role_aside client call
    (quiet_role client c.lease.phase (role_of client call) allowed none))) in
    let u = tree_with t m o in
    record {
      fits = subst (λ (s : UpgradeStage). IsInTune s u) (sym stage)
          (tuned_like t u like c.stage fits);
      same = same_like t u like;
    }

-- the call that was made is the awaited one
pub next_call : (client : List ℕ) (c : Course) (call : Call) (stamp : ℕ) → c.lease.phase ≡ Held
    Exclusive stamp → is_work c.lease.phase (role_of client call) ≡ true → is_allowed client c call
    ≡ true → IsNext (awaited c.stage) call
next_call client c call stamp phase work allowed =
    let may : is_awaited (awaited c.stage) call ≡ true = rw (work, phase) at allowed in
    awaited-is (awaited c.stage) call may

-- a call whose reply says nothing of whether it landed
lost : (d : Course) (t : Tree) (m : ℕ) (stage : UpgradeStage) (call : Call) (landed : Bool) →
    IsNext (awaited stage) call → IsInTune stage t → d.stage ≡ Stuck →
    HasWalked d t (tree_with t m (cond landed (Some call) None))
lost d t m stage call true next tuned stuck = record {
  fits = subst (λ (s : UpgradeStage). IsInTune s (tree_after t m call)) (sym stuck) tt;
  same = (done_call stage t 0 m call next.next next.text tuned).same;
}
lost d t m stage call false next tuned stuck = record {
  fits = subst (λ (s : UpgradeStage). IsInTune s t) (sym stuck) tt;
  same = same_tree t;
}

failed_stuck : (stage : UpgradeStage) → stage_after_reply stage Failed ≡ Stuck
failed_stuck Reads = refl
failed_stuck ReadsOld = refl
failed_stuck (At step info) = step_stuck step where
  step_stuck : (step : UpgradeStep) → stage_after_reply (At step info) Failed ≡ Stuck
  step_stuck MakesResources = refl
  step_stuck MakesOldSync = refl
  step_stuck PutsOne = refl
  step_stuck MakesLockFolder = refl
  step_stuck MakesTemp = refl
  step_stuck PutsTwo = refl
  step_stuck PutsInfo = refl
  step_stuck ListsRoot = refl
failed_stuck (Gets (id ∷ ids) info) = refl
failed_stuck (Gets [] info) = refl
failed_stuck Upgraded = refl
failed_stuck Stuck = refl

landed_if : (call : Call) (landed : Bool) (reply : Reply) → landed_call (Answered call reply landed)
    ≡ cond landed (Some call) None
landed_if call true reply = refl
landed_if call false reply = refl

sent_if : (call : Call) (landed : Bool) → landed_call (Unheard call landed) ≡ cond landed
    (Some call) None
sent_if call true = refl
sent_if call false = refl

honest_or_failed : (t : Tree) (m : ℕ) (call : Call) (reply : Reply) (landed : Bool) → IsHonestReply
    t m (Answered call reply landed) → (reply ≡ Failed) ⊎ ((landed ≡ true) ×
    ((now : ℕ) × (now ≤ m) × (reply ≡ reply_of t now call)))
honest_or_failed t m call Failed landed h = inl refl
honest_or_failed t m call (Listed l) landed h = inr (h.0, h.1)
honest_or_failed t m call (Got now content) landed h = inr (h.0, h.1)
honest_or_failed t m call (GotBlob now len) landed h = inr (h.0, h.1)
honest_or_failed t m call (Absent now) landed h = inr (h.0, h.1)
honest_or_failed t m call (Done now) landed h = inr (h.0, h.1)
honest_or_failed t m call (TooLarge len) landed h = inr (h.0, h.1)

pub own_called : (client : List ℕ) (c : Course) (t : Tree) (m : ℕ) (call : Call) (reply : Reply)
    (landed : Bool) → IsHonestReply t m (Answered call reply landed) → IsAllowed client c call
    (phase_after client c.lease.phase call reply) → is_sync_phase c.lease.phase ≡ false → Fits c t →
    HasWalked (course_after client c (Called call reply)) t (tree_with t m
    (landed_call (Answered call reply landed)))
own_called client c t m call reply landed honest may never fits = by_work
    (is_work c.lease.phase (role_of client call)) refl where
      by_work : (b : Bool) → is_work c.lease.phase (role_of client call) ≡ b → HasWalked
          (course_after client c (Called call reply)) t (tree_with t m
          (landed_call (Answered call reply landed)))
      by_work false none = quiet client c (course_after client c (Called call reply)) t m call
          (landed_call (Answered call reply landed)) (allowed_if _ _ may.order) none (rw none refl)
          (landed_aside call landed reply) fits
      by_work true work =
          let held = exclusive_work c.lease.phase (role_of client call) work never in
          let next = next_call client c call held.0 held.1 work may.work in
          let stage : (course_after client c (Called call reply)).stage ≡ stage_after_reply c.stage reply = rw
          (work, held.1) refl in
          elim (honest_or_failed t m call reply landed honest) [
            | inl failed ↦
                let stuck : (course_after client c (Called call reply)).stage ≡ Stuck = stage ∙
                (ap (stage_after_reply c.stage) failed ∙ failed_stuck c.stage) in
                subst (λ (o : Option Call). HasWalked (course_after client c (Called call reply)) t
                (tree_with t m o)) (sym (landed_if call landed reply))
                (lost (course_after client c (Called call reply)) t m c.stage call landed next fits
                stuck)
            | inr heard ↦
                let on = done_call c.stage t heard.1.0 m call next.next next.text fits in
                let there : landed_call (Answered call reply landed) ≡ Some call = landed_if call landed
                reply ∙ ap (λ (b : Bool). cond b (Some call) None) heard.0 in
                let at : IsInTune (course_after client c (Called call reply)).stage
                (tree_after t m call) =
                subst (λ (s : UpgradeStage). IsInTune s (tree_after t m call))
                (sym (stage ∙ ap (stage_after_reply c.stage) heard.1.2)) on.tuned in
                subst (λ (o : Option Call). HasWalked (course_after client c (Called call reply)) t
                (tree_with t m o)) (sym there) (record { fits = at; same = on.same })
          ]

pub own_sent : (client : List ℕ) (c : Course) (t : Tree) (m : ℕ) (call : Call) (landed : Bool) →
    IsAllowed client c call (phase_unheard client c.lease.phase call) → is_sync_phase c.lease.phase
    ≡ false → Fits c t → HasWalked (course_after client c (Sent call)) t
    (tree_with t m (landed_call (Unheard call landed)))
own_sent client c t m call landed may never fits = by_work (is_work c.lease.phase
    (role_of client call)) refl where
      by_work : (b : Bool) → is_work c.lease.phase (role_of client call) ≡ b → HasWalked
          (course_after client c (Sent call)) t (tree_with t m (landed_call (Unheard call landed)))
      by_work false none = quiet client c (course_after client c (Sent call)) t m call
          (landed_call (Unheard call landed)) (allowed_if _ _ may.order) none (rw none refl)
          (sent_aside call landed) fits
      by_work true work =
          let held = exclusive_work c.lease.phase (role_of client call) work never in
          let next = next_call client c call held.0 held.1 work may.work in
          let stuck : (course_after client c (Sent call)).stage ≡ Stuck = rw (work, held.1) refl in
          subst (λ (o : Option Call). HasWalked (course_after client c (Sent call)) t (tree_with t m o))
          (sym (sent_if call landed)) (lost (course_after client c (Sent call)) t m c.stage call
          landed next fits stuck)

-- ---- the monitors, event by event

pub allowed_so_far : (client : List ℕ) (c : Course) (es : List Event) → allowed_from client c es ≡
    true → c.lawful ≡ true
unfolding allowed_from
allowed_so_far client c [] h = h
allowed_so_far client c (Began ∷ es) h = (and_parts c.lawful _ h).0
allowed_so_far client c (Sent call ∷ es) h = (and_parts c.lawful _
    (allowed_so_far client (course_after client c (Sent call)) es h)).0
allowed_so_far client c (Called call reply ∷ es) h = (and_parts c.lawful _
    (allowed_so_far client (course_after client c (Called call reply)) es h)).0
allowed_so_far client c (Made number ∷ es) h = allowed_so_far client c es h
allowed_so_far client c (Ended ∷ es) h = allowed_so_far client (course_after client c Ended) es h

-- what is asked of the events that are still to come
pub record Obeys (client : List ℕ) (c : Course) (es : List Event) : Type 0 where
  pub work : allowed_from client c es ≡ true
  pub locks : lawful_from client c.lease es ≡ true
  pub upgrade : is_upgrade_from client c es ≡ true

pub record ObeysNext (client : List ℕ) (c : Course) (e : Event) (es : List Event) : Type 0 where
  pub rest : Obeys client (course_after client c e) es
  pub begun : is_began e ≡ false
  pub never : is_sync_phase c.lease.phase ≡ false

is_none_of : (b : Bool) → not b ≡ true → b ≡ false
is_none_of true h = sym h
is_none_of false h = refl

next_parts : (client : List ℕ) (c : Course) (e : Event) (es : List Event) → is_upgrade_from client c
    (e ∷ es) ≡ true → (is_began e ≡ false) × (is_sync_phase c.lease.phase ≡ false) ×
    (is_upgrade_from client (course_after client c e) es ≡ true)
unfolding is_upgrade_from
next_parts client c e es h =
    let a = and_parts (not (is_began e)) _ h in
    let b = and_parts (not (is_sync_phase c.lease.phase)) _ a.1 in
    (is_none_of _ a.0, is_none_of _ b.0, b.1)

pub obeys_next : (client : List ℕ) (c : Course) (e : Event) (es : List Event) → Obeys client c
    (e ∷ es) → ObeysNext client c e es
unfolding allowed_from lawful_from
obeys_next client c Began es h = absurd (false≢true (sym (next_parts client c Began es
    h.upgrade).0))
obeys_next client c (Sent call) es h = let p = next_parts client c (Sent call) es h.upgrade in
    record {
      rest = record { work = h.work; locks = h.locks; upgrade = p.2 };
      begun = p.0;
      never =
          p.1;
    }
obeys_next client c (Called call reply) es h = let p = next_parts client c (Called call reply) es
    h.upgrade in record {
      rest = record { work = h.work; locks = h.locks; upgrade = p.2 };
      begun =
          p.0;
      never = p.1;
    }
obeys_next client c (Made number) es h = let p = next_parts client c (Made number) es h.upgrade in
    record {
      rest = record { work = h.work; locks = h.locks; upgrade = p.2 };
      begun = p.0;
      never =
          p.1;
    }
obeys_next client c Ended es h = let p = next_parts client c Ended es h.upgrade in record
    { rest = record { work = h.work; locks = h.locks; upgrade = p.2 }; begun = p.0; never = p.1 }

pub may_called : (client : List ℕ) (c : Course) (call : Call) (reply : Reply) (es : List Event) → Obeys
    client (course_after client c (Called call reply)) es → IsAllowed client c call
    (phase_after client c.lease.phase call reply)
may_called client c call reply es h =
    let work = and_parts c.lawful _ (allowed_so_far client (course_after client c
    (Called call reply)) es h.work) in
    let locks = and_parts c.lease.lawful _ (lawful_so_far client
    (session_after client c.lease (Called call reply)) es h.locks) in
    let running = and_parts c.lease.running _ locks.1 in
    record { work = work.1; order = (and_parts _ _ running.1).1 }

pub may_sent : (client : List ℕ) (c : Course) (call : Call) (es : List Event) → Obeys client
    (course_after client c (Sent call)) es → IsAllowed client c call
    (phase_unheard client c.lease.phase call)
may_sent client c call es h =
    let work = and_parts c.lawful _ (allowed_so_far client (course_after client c (Sent call)) es
    h.work) in
    let locks = and_parts c.lease.lawful _ (lawful_so_far client
    (session_after client c.lease (Sent call)) es h.locks) in
    let running = and_parts c.lease.running _ locks.1 in
    record { work = work.1; order = (and_parts _ _ running.1).1 }
