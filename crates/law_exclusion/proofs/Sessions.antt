-- At every place of a history in which all do what is allowed: what a client's session may call,
-- and that it has read what its course goes by.
use Rattle.std.proofs.Common.{◌≡◌, ◌∙◌, sym, ap, ℕ, suc, List, ◌++◌, drop, true, Some}
use Rattle.std.specs.Prelude.{take, slice_get}
use Rattle.jop_base.specs.declared.lock_name.LockKind.TheVariants.{Sync}
use Rattle.jop_target.specs.History.{History, Step, is_guarded_call, landed_call, noted, part_of}
use Rattle.jop_target.specs.declared.call.Call.{Call}
use Rattle.jop_target.specs.declared.event.Event.{Event}
use Rattle.lease.specs.Discipline.{Session}
use Rattle.lease.specs.Exclusion.{phase_at}
use Rattle.lease.specs.Phase.{Held}
use Rattle.target_upgrade.specs.Course.{Course, allowed_from, course_of, is_allowed, outside_course}
use Rattle.target_upgrade.proofs.Courses.{lease-is}
use Rattle.law_exclusion.specs.Exclusive.{AllKeepVersions}
use Rattle.law_exclusion.specs.Learnt.{learnt_of, nothing_learnt}
use Rattle.law_exclusion.proofs.Learning.{Matches, allowed_from-append, matches_from, none_told}
use Rattle.law_exclusion.proofs.Places.{part-front, part-own, take_next}
use Rattle.law_exclusion.proofs.Landed.{IsToldCall, landed_may, sync_keeps, told_call}

module _ (h : History) (versions : AllKeepVersions h) where
  abbrev pub part_at : ℕ → List ℕ → List Event
  part_at place client = part_of client (take place h.steps)

  abbrev pub course_at : ℕ → List ℕ → Course
  course_at place client = course_of client (part_at place client)

  pub course_phase : (place : ℕ) (client : List ℕ) →
      (course_at place client).lease.phase ≡ phase_at client (take place h.steps)
  course_phase place client =
      ap (λ (s : Session). s.phase) (lease-is client (part_at place client))

  front : (place : ℕ) (client : List ℕ) →
      (allowed_from client outside_course (part_at place client) ≡ true)
      × (allowed_from client (course_at place client) (part_of client (drop place h.steps)) ≡ true)
  front place client =
      allowed_from-append client outside_course (part_at place client)
      (part_of client (drop place h.steps))
      (ap (allowed_from client outside_course) (sym (part-front client h.steps place))
      ∙ versions.each client)

  pub matched : (place : ℕ) (client : List ℕ) →
      Matches (course_at place client) (learnt_of (part_at place client))
  matched place client =
      matches_from client outside_course nothing_learnt (part_at place client)
      (record { told = none_told nothing_learnt; stage = tt }) (front place client).0

  pub part-next : (place : ℕ) (s : Step) → slice_get h.steps place ≡ Some s →
      part_at (suc place) s.client ≡ part_at place s.client ++ noted s.happens
  part-next place s here =
      ap (part_of s.client) (take_next h.steps place s here) ∙ part-own (take place h.steps) s

  allowed_here : (place : ℕ) (s : Step) → slice_get h.steps place ≡ Some s →
      allowed_from s.client (course_at place s.client) (noted s.happens) ≡ true
  allowed_here place s here =
      (allowed_from-append s.client outside_course (part_at place s.client) (noted s.happens)
      (ap (allowed_from s.client outside_course) (sym (part-next place s here))
      ∙ (front (suc place) s.client).0)).1

  pub may_call : (place : ℕ) (s : Step) (call : Call) → slice_get h.steps place ≡ Some s →
      landed_call s.happens ≡ Some call → is_allowed s.client (course_at place s.client) call ≡ true
  may_call place s call here landed =
      landed_may s.client (course_at place s.client) s.happens call (allowed_here place s here)
      landed

  pub sync_told : (place : ℕ) (s : Step) (call : Call) (stamp : ℕ) →
      slice_get h.steps place ≡ Some s → landed_call s.happens ≡ Some call →
      is_guarded_call call ≡ true → phase_at s.client (take place h.steps) ≡ Held Sync stamp →
      IsToldCall (course_at place s.client).told call
  sync_told place s call stamp here landed guarded held =
      told_call (course_at place s.client).told call guarded
      (sync_keeps s.client (course_at place s.client) stamp call guarded
      (course_phase place s.client ∙ held) (may_call place s call here landed))
