-- A session that has got an info of the supported version is told of it.
use Rattle.std.specs.Prelude.{ℕ, ◌≡◌, List, true, if◌then◌else◌, Option, Some, nat_eq, option_and_then, option_map}
use Rattle.std.proofs.Common.{◌∙◌, sym, ap}
use Rattle.client.specs.Sites.{SiteNow}
use Rattle.jop_base.specs.declared.lock_name.LockKind.{LockKind}
use Rattle.jop_base.specs.declared.lock_name.LockKind.TheVariants.{Sync}
use Rattle.jop_base.specs.declared.path.Path.TheVariants.{Info as InfoFile}
use Rattle.jop_target.specs.Trail.{EndsWith}
use Rattle.jop_target.specs.declared.call.Call.TheVariants.{Get}
use Rattle.jop_target.specs.declared.event.Event.TheVariants.{Called}
use Rattle.jop_target.specs.declared.reply.Reply.{Reply}
use Rattle.jop_target.specs.declared.reply.Reply.TheVariants.{Listed, Got, GotBlob, Absent, Done, Failed, TooLarge}
use Rattle.lease.specs.Discipline.{Session}
use Rattle.lease.specs.Phase.{Phase, Held, Broken, Plain, allows, heard}
use Rattle.lease.specs.Standing.{IsHeld}
use Rattle.lease.specs.declared.lease.Lease.{Lease}
use Rattle.session_opening.specs.Opening.{KnowsVersion}
use Rattle.sync_info.specs.Read.{info_in}
use Rattle.sync_info.specs.declared.info.Info.{Info}
use Rattle.target_upgrade.proofs.Courses.{course_from-last, lease-is}
use Rattle.target_upgrade.specs.Course.{Course, course_after, course_of, if_known, is_info_at, is_version, known_in, outside_course}
use Rattle.target_upgrade.specs.Reading.{GivesInfo}
use Rattle.target_upgrade.specs.Steps.{SUPPORTED}

pub is_info_at-supported : (content : List ℕ) (info : Info) → info_in content ≡ Some info
    → info.version ≡ SUPPORTED → is_info_at SUPPORTED content ≡ true
is_info_at-supported content info holds version =
    ap (λ (o : Option Info). is_version SUPPORTED (option_map (λ (i : Info). i.version) o)) holds
    ∙ ap (λ (n : ℕ). nat_eq n SUPPORTED) version

known_in-supported : (content : List ℕ) (info : Info) → info_in content ≡ Some info
    → info.version ≡ SUPPORTED → known_in content ≡ Some SUPPORTED
known_in-supported content info holds version =
    ap (λ (o : Option Info). option_and_then if_known (option_map (λ (i : Info). i.version) o)) holds
    ∙ ap if_known version

-- a call that isn't of the lease's own leaves a lease that was held before it
was_held : (client : List ℕ) (p : Phase) (kind : LockKind) (stamp : ℕ) (reply : Reply)
    → (if allows client p Plain then heard client p Plain reply else Broken) ≡ Held kind stamp
    → p ≡ Held kind stamp
was_held client (Held own at) kind stamp Failed is = absurd cc
was_held client (Held own at) kind stamp reply is = is
was_held client p kind stamp reply is = absurd cc

told_now : (client : List ℕ) (c : Course) (stamp now : ℕ) (content : List ℕ)
    → c.lease.phase ≡ Held Sync stamp → known_in content ≡ Some SUPPORTED
    → (course_after client c (Called (Get InfoFile) (Got now content))).told ≡ Some SUPPORTED
told_now client c stamp now content phase is = rw (phase, is)

by_reply : (client : List ℕ) (c : Course) (stamp : ℕ) (info : Info) (reply : Reply)
    → c.lease.phase ≡ Held Sync stamp → GivesInfo info reply → info.version ≡ SUPPORTED
    → (course_after client c (Called (Get InfoFile) reply)).told ≡ Some SUPPORTED
by_reply client c stamp info (Got now content) phase gives version =
    told_now client c stamp now content phase (known_in-supported content info gives version)
by_reply client c stamp info (Listed listing) phase gives version = absurd gives
by_reply client c stamp info (GotBlob now len) phase gives version = absurd gives
by_reply client c stamp info (Absent now) phase gives version = absurd gives
by_reply client c stamp info (Done now) phase gives version = absurd gives
by_reply client c stamp info Failed phase gives version = absurd gives
by_reply client c stamp info (TooLarge len) phase gives version = absurd gives

pub informed : (lease : Lease) (d : SiteNow) (info : Info) (reply : Reply)
    → EndsWith d.line.trail (Get InfoFile) reply → IsHeld lease d.line.trail → lease.kind ≡ Sync
    → GivesInfo info reply → info.version ≡ SUPPORTED → KnowsVersion lease d
informed lease d info reply ends held sync gives version =
    let client = lease.client in
    let before = ends.0 in
    let last = Called (Get InfoFile) reply in
    let whole : course_of client d.line.trail ≡ course_after client (course_of client before) last =
    ap (course_of client) ends.1 ∙ course_from-last client outside_course before last in
    let now : (course_after client (course_of client before) last).lease.phase
    ≡ Held Sync lease.stamp =
    ap (λ (c : Course). c.lease.phase) (sym whole)
    ∙ (ap (λ (s : Session). s.phase) (lease-is client d.line.trail)
    ∙ (held.stands.phase ∙ ap (λ (kind : LockKind). Held kind lease.stamp) sync)) in
    ap (λ (c : Course). c.told) whole
    ∙ by_reply client (course_of client before) lease.stamp info reply
    (was_held client (course_of client before).lease.phase Sync lease.stamp reply now)
    gives version
