-- What a call that lands says of its session: what it may be, and that no session begins by it.
use Rattle.std.proofs.Common.{◌≡◌, ◌+◌, ◌∙◌, refl, ap, subst, arith, ℕ, List, [], ◌∷◌, ◌++◌, true, cond, Option, Some, None}
use Rattle.std.specs.Prelude.{count_by}
use Rattle.std.proofs.lemmas.Bool.{and_parts}
use Rattle.std.proofs.lemmas.List.Sums.{sum_by-append}
use Rattle.jop_base.specs.declared.lock_name.LockKind.{LockKind}
use Rattle.jop_base.specs.declared.lock_name.LockKind.TheVariants.{Sync, Exclusive}
use Rattle.jop_base.specs.declared.path.Path.TheVariants.{Info as InfoFile, OldVersion}
use Rattle.jop_target.specs.History.{Step, Happening, Begins, Answered, Unheard, is_guarded_call, landed_call, noted, part_of}
use Rattle.jop_target.specs.declared.call.Call.{Call}
use Rattle.jop_target.specs.declared.call.Call.TheVariants.{Put, Delete, PutBlob}
use Rattle.jop_target.specs.declared.event.Event.{Event}
use Rattle.lease.specs.Exclusion.{is_began, session_at}
use Rattle.lease.specs.Locks.{excludes}
use Rattle.lease.specs.Phase.{Held}
use Rattle.lease.proofs.Law.{guarded_plain}
use Rattle.target_upgrade.specs.Course.{Course, allowed_from, is_allowed, keeps_version}
use Rattle.law_exclusion.proofs.Places.{part-other, part-own}

-- ---- what a session of these steps may call

pub landed_may : (client : List ℕ) (c : Course) (x : Happening) (call : Call) →
    allowed_from client c (noted x) ≡ true → landed_call x ≡ Some call →
    is_allowed client c call ≡ true
unfolding allowed_from
landed_may client c (Answered made reply true) call h landed =
    let same : made ≡ call = cc in
    subst (λ (d : Call). is_allowed client c d ≡ true) same (and_parts c.lawful _ h).1
landed_may client c (Unheard made true) call h landed =
    let same : made ≡ call = cc in
    subst (λ (d : Call). is_allowed client c d ≡ true) same (and_parts c.lawful _ h).1
landed_may client c x call h landed = cc

-- a write under a sync lease keeps the version that was told
pub sync_keeps : (client : List ℕ) (c : Course) (stamp : ℕ) (call : Call) →
    is_guarded_call call ≡ true → c.lease.phase ≡ Held Sync stamp →
    is_allowed client c call ≡ true → keeps_version c.told call ≡ true
sync_keeps client c stamp call guarded phase allowed =
    rw (phase, guarded_plain client call guarded) at allowed

-- the session that makes it was told a version
pub record IsToldCall (told : Option ℕ) (call : Call) : Type 0 where
  pub version : ℕ
  pub is : told ≡ Some version
  pub keeps : keeps_version (Some version) call ≡ true

pub told_call : (told : Option ℕ) (call : Call) → is_guarded_call call ≡ true →
    keeps_version told call ≡ true → IsToldCall told call
told_call (Some version) call guarded h = record { version = version; is = refl; keeps = h }
told_call None (Put InfoFile content) guarded h = cc
told_call None (Put OldVersion content) guarded h = cc
told_call None (Put path content) guarded h = cc
told_call None (Delete InfoFile) guarded h = cc
told_call None (Delete OldVersion) guarded h = cc
told_call None (Delete path) guarded h = cc
told_call None (PutBlob id len) guarded h = cc
told_call None call guarded h = cc

pub excludes_none : (k l : LockKind) → ¬ (excludes k l ≡ true) → l ≡ Sync
excludes_none Sync Sync n = refl
excludes_none Sync Exclusive n = absurd (n refl)
excludes_none Exclusive l n = absurd (n refl)

pub not_exclusive : Sync ≡ Exclusive → ⊥
not_exclusive e = cc

-- ---- how many sessions were begun

begins_no : (x : Happening) → ¬ (x ≡ Begins) → count_by is_began (noted x) ≡ 0
begins_no Begins n = absurd (n refl)
begins_no x n = refl

pub session-own : (ss : List Step) (s : Step) → ¬ (s.happens ≡ Begins) →
    session_at s.client (ss ++ s ∷ []) ≡ session_at s.client ss
session-own ss s n =
    let sum : count_by is_began (part_of s.client ss ++ noted s.happens)
    ≡ count_by is_began (part_of s.client ss) + count_by is_began (noted s.happens) =
    sum_by-append (λ (e : Event). cond (is_began e) 1 0) (part_of s.client ss) (noted s.happens) in
    let none = begins_no s.happens n in
    ap (count_by is_began) (part-own ss s) ∙ omega (arith, sum, none)

pub session-other : (client : List ℕ) (ss : List Step) (s : Step) → ¬ (s.client ≡ client) →
    session_at client (ss ++ s ∷ []) ≡ session_at client ss
session-other client ss s n = ap (count_by is_began) (part-other client ss s n)

pub landed_begins : (x : Happening) (call : Call) → landed_call x ≡ Some call → ¬ (x ≡ Begins)
landed_begins x call landed e = let none = ap landed_call e in cc
