-- What whole sessions have done under their leases.
use Rattle.std.proofs.Common.{◌≡◌, ◌∙◌, refl, sym, ap, arith, ℕ, suc, List, [], ◌∷◌, ◌++◌, append-nil, true}
use Rattle.std.specs.Prelude.{All}
use Rattle.jop_base.specs.declared.lock_name.LockKind.TheVariants.{Exclusive}
use Rattle.jop_base.specs.declared.path.Path.TheVariants.{Lock as LockFile}
use Rattle.jop_target.specs.declared.call.Call.TheVariants.{Delete}
use Rattle.jop_target.specs.declared.event.Event.{Event}
use Rattle.jop_target.specs.declared.event.Event.TheVariants.{Began, Called, Ended}
use Rattle.jop_target.specs.declared.reply.Reply.{Reply}
use Rattle.lease.specs.Discipline.{Session}
use Rattle.lease.specs.Locks.{own_name}
use Rattle.lease.specs.Phase.{Held, DeletesOwn, role_of}
use Rattle.lease.specs.Standing.{StandsIn}
use Rattle.lease.specs.WholeSession.{IsInner}
use Rattle.jop_base.proofs.KeyedLaws.{bytes_eq-refl}
use Rattle.target_upgrade.specs.Course.{Course, KeepsVersions, allowed_from, begun_course, course_after, course_from, course_of, outside_course}
use Rattle.target_upgrade.proofs.Courses.{course_from-append, course_from-last, lease-is}

-- what stands before a session doesn't matter to it
pub course_of-begun : (client : List ℕ) (old middle : List Event) →
    course_of client (old ++ Began ∷ middle) ≡ course_from client begun_course middle
unfolding course_from
course_of-begun client old middle =
    course_from-append client outside_course old (Began ∷ middle)

allowed_from-inner : (client : List ℕ) (middle tail : List Event) (c : Course) →
    All IsInner middle →
    allowed_from client c (middle ++ tail)
    ≡ allowed_from client (course_from client c middle) tail
unfolding course_from allowed_from
allowed_from-inner client [] tail c each = refl
allowed_from-inner client (Began ∷ es) tail c each = absurd (each 0 Began (omega arith))
allowed_from-inner client (e ∷ es) tail c each =
    allowed_from-inner client es tail (course_after client c e)
    (λ i d lt. each (suc i) d (omega arith))

pub keeps_whole : (client : List ℕ) (old middle : List Event) → All IsInner middle →
    (course_of client (old ++ Began ∷ middle)).lawful ≡ true →
    KeepsVersions client (Began ∷ (middle ++ Ended ∷ []))
unfolding allowed_from
keeps_whole client old middle each lawful =
    allowed_from-inner client middle (Ended ∷ []) begun_course each
    ∙ (ap (λ (c : Course). c.lawful) (sym (course_of-begun client old middle)) ∙ lawful)

-- one that hasn't ended
pub keeps_begun : (client : List ℕ) (old middle : List Event) → All IsInner middle →
    (course_of client (old ++ Began ∷ middle)).lawful ≡ true →
    KeepsVersions client (Began ∷ middle)
unfolding allowed_from
keeps_begun client old middle each lawful =
    ap (allowed_from client begun_course) (sym (append-nil middle))
    ∙ (allowed_from-inner client middle [] begun_course each
    ∙ (ap (λ (c : Course). c.lawful) (sym (course_of-begun client old middle)) ∙ lawful))

pub keeps_none : (client : List ℕ) → KeepsVersions client []
unfolding allowed_from
keeps_none client = refl

role_of-own : (client : List ℕ) →
    role_of client (Delete (LockFile (own_name Exclusive client))) ≡ DeletesOwn Exclusive
role_of-own client = rw (bytes_eq-refl client) refl

-- the delete of its own lock is no step
pub stage_left : (client : List ℕ) (stamp : ℕ) (before : List Event) (reply : Reply) →
    StandsIn client before (Held Exclusive stamp) →
    (course_of client
    (before ++ Called (Delete (LockFile (own_name Exclusive client))) reply ∷ [])).stage
    ≡ (course_of client before).stage
stage_left client stamp before reply held =
    let call = Delete (LockFile (own_name Exclusive client)) in
    let phase : (course_of client before).lease.phase ≡ Held Exclusive stamp =
    ap (λ (s : Session). s.phase) (lease-is client before) ∙ held.phase in
    ap (λ (c : Course). c.stage)
    (course_from-last client outside_course before (Called call reply))
    ∙ rw (phase, role_of-own client) refl
