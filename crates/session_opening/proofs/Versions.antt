-- The course of a session under a sync lease, over parts all of whose calls a synchroniser may make.
use Rattle.std.specs.Prelude.{ℕ, ◌≡◌, List, [], ◌∷◌, Bool, true, false, ◌||◌, not, if◌then◌else◌, length, Option, Some, None, refl}
use Rattle.std.proofs.Common.{◌∙◌, sym, ap, subst}
use Rattle.std.proofs.lemmas.Bool.{and_parts, and_from}
use Rattle.jop_base.specs.declared.lock_name.LockKind.{LockKind}
use Rattle.jop_base.specs.declared.lock_name.LockKind.TheVariants.{Sync, Exclusive}
use Rattle.jop_base.specs.declared.path.Path.TheVariants.{Info as InfoFile, OldVersion}
use Rattle.jop_target.specs.declared.call.Call.{Call}
use Rattle.jop_target.specs.declared.call.Call.TheVariants.{Get, Put, Delete, MakeDir, PutBlob}
use Rattle.jop_target.specs.declared.event.Event.{Event}
use Rattle.jop_target.specs.declared.event.Event.TheVariants.{Began, Sent, Called, Made, Ended}
use Rattle.jop_target.specs.declared.reply.Reply.{Reply}
use Rattle.jop_target.specs.declared.reply.Reply.TheVariants.{Listed, Done, Failed}
use Rattle.lease.specs.Discipline.{Session}
use Rattle.lease.specs.Idle.{is_work}
use Rattle.lease.specs.Locks.{same_kind}
use Rattle.lease.specs.Phase.{Phase, Held, Renewing, Leaving, Over, Broken, Role, MakesLocks, ListsLocks, PutsOwn, DeletesOwn, Plain, Foreign, allows, heard, listed_phase, role_of}
use Rattle.lease.specs.Standing.{IsHeld}
use Rattle.law_licences.specs.Deeds.{events_of}
use Rattle.session_opening.specs.Opening.{IsLawful}
use Rattle.session.proofs.Joins.{client_is}
use Rattle.session.specs.Doing.{Went}
use Rattle.session.specs.Steps.{is_sorted, works_by}
use Rattle.session.specs.Work.{WorkNow}
use Rattle.target_upgrade.proofs.Courses.{course_from-append, lease-is}
use Rattle.target_upgrade.specs.Course.{Course, course_after, course_from, course_of, is_allowed, is_told, keeps_version, may_do, outside_course, told_after, told_by}

-- ---- phases

-- where a session may stand that has held a sync lease: it holds it still, renews it, or has it no more
abbrev is_sync : Phase → Bool
is_sync (Held Sync stamp) = true
is_sync (Renewing Sync stamp) = true
is_sync (Leaving kind) = true
is_sync Over = true
is_sync Broken = true
is_sync phase = false

sync_if : (allowed : Bool) (p : Phase) → is_sync p ≡ true
    → is_sync (if allowed then p else Broken) ≡ true
sync_if true p h = h
sync_if false p h = refl

listed_sync : (stamp : Option ℕ) → is_sync (listed_phase Sync stamp None) ≡ true
listed_sync None = refl
listed_sync (Some stamp) = refl

heard_renewing : (client : List ℕ) (stamp : ℕ) (reply : Reply)
    → is_sync (heard client (Renewing Sync stamp) ListsLocks reply) ≡ true
heard_renewing client stamp Failed = refl
heard_renewing client stamp (Listed listing) = listed_sync _
heard_renewing client stamp reply = refl

heard_put : (client : List ℕ) (stamp : ℕ) (own : LockKind) (reply : Reply)
    → is_sync (heard client (Held Sync stamp) (PutsOwn own) reply) ≡ true
heard_put client stamp own Failed = refl
heard_put client stamp own (Done now) = refl
heard_put client stamp own reply = refl

heard_gone : (client : List ℕ) (stamp : ℕ) (own : LockKind) (reply : Reply)
    → is_sync (heard client (Held Sync stamp) (DeletesOwn own) reply) ≡ true
heard_gone client stamp own Failed = refl
heard_gone client stamp own reply = refl

heard_left : (client : List ℕ) (kind own : LockKind) (reply : Reply)
    → is_sync (heard client (Leaving kind) (DeletesOwn own) reply) ≡ true
heard_left client kind own Failed = refl
heard_left client kind own reply = refl

heard_made : (client : List ℕ) (stamp : ℕ) (reply : Reply)
    → is_sync (heard client (Held Sync stamp) MakesLocks reply) ≡ true
heard_made client stamp Failed = refl
heard_made client stamp reply = refl

heard_plain : (client : List ℕ) (stamp : ℕ) (reply : Reply)
    → is_sync (heard client (Held Sync stamp) Plain reply) ≡ true
heard_plain client stamp Failed = refl
heard_plain client stamp reply = refl

-- no call brings it a lease of another kind
stays_sync : (client : List ℕ) (p : Phase) (role : Role) (reply : Reply) → is_sync p ≡ true
    → is_sync (if allows client p role then heard client p role reply else Broken) ≡ true
stays_sync client (Held Sync stamp) (PutsOwn own) reply h =
    sync_if (same_kind Sync own) _ (heard_put client stamp own reply)
stays_sync client (Held Sync stamp) (DeletesOwn own) reply h =
    sync_if (same_kind Sync own) _ (heard_gone client stamp own reply)
stays_sync client (Held Sync stamp) MakesLocks reply h = heard_made client stamp reply
stays_sync client (Held Sync stamp) Plain reply h = heard_plain client stamp reply
stays_sync client (Held Sync stamp) ListsLocks reply h = refl
stays_sync client (Held Sync stamp) Foreign reply h = refl
stays_sync client (Renewing Sync stamp) ListsLocks reply h = heard_renewing client stamp reply
stays_sync client (Renewing Sync stamp) role reply h = refl
stays_sync client (Leaving kind) (DeletesOwn own) reply h =
    sync_if (same_kind kind own) _ (heard_left client kind own reply)
stays_sync client (Leaving kind) role reply h = refl
stays_sync client Over role reply h = refl
stays_sync client Broken role reply h = refl
stays_sync client p role reply h = cc

-- ---- what may be called

-- what a session may do that wasn't told the version, one that was told any may do
keeps_any : (more : Option ℕ) (call : Call) → keeps_version None call ≡ true
    → keeps_version more call ≡ true
keeps_any more (Put InfoFile content) h = cc
keeps_any more (Put OldVersion content) h = cc
keeps_any more (Put path content) h = cc
keeps_any more (Delete InfoFile) h = cc
keeps_any more (Delete OldVersion) h = cc
keeps_any more (Delete path) h = cc
keeps_any more (PutBlob id len) h = cc
keeps_any more (MakeDir dir) h = cc
keeps_any more call h = refl

keeps_more : (told more : Option ℕ) (call : Call)
    → ((version : ℕ) → told ≡ Some version → more ≡ Some version)
    → keeps_version told call ≡ true → keeps_version more call ≡ true
keeps_more None more call le h = keeps_any more call h
keeps_more (Some version) more call le h =
    subst (λ (t : Option ℕ). keeps_version t call ≡ true) (sym (le version refl)) h

allowed_by : (c : Course) (p : Phase) (call : Call) (work sorted : Bool) → is_sync p ≡ true
    → (sorted ≡ true → keeps_version c.told call ≡ true) → (not work || sorted) ≡ true
    → (not work || may_do c p call) ≡ true
allowed_by c p call false sorted h may is = refl
allowed_by c (Held Sync stamp) call true sorted h may is = may is
allowed_by c (Held Exclusive stamp) call true sorted h may is = cc
allowed_by c p call true sorted h may is = refl

-- only the reply to this call tells a version
abbrev pub asks_version : Call → Bool
asks_version (Get InfoFile) = true
asks_version call = false

still_told : (told : Option ℕ) (call : Call) (reply : Reply) → asks_version call ≡ false
    → told_after told call reply ≡ told
still_told told (Get InfoFile) reply other = cc
still_told told call reply other = refl

told_on : (c : Course) (p : Phase) (call : Call) (reply : Reply) (work sorted : Bool)
    → (sorted ≡ true → asks_version call ≡ false) → (not work || sorted) ≡ true
    → (if work then told_by c p call reply else c.told) ≡ c.told
told_on c p call reply false sorted other is = refl
told_on c (Held Sync stamp) call reply true sorted other is =
    still_told c.told call reply (other is)
told_on c p call reply true sorted other is = refl

-- Who was told this version may make the call, and is told no other by it. If no version is named,
-- each session may make it.
pub record MayOnceTold (told : Option ℕ) (call : Call) : Type 0 where
  pub keeps : keeps_version told call ≡ true
  pub asks_none : is_told told ≡ true → asks_version call ≡ false

abbrev MayAll : Option ℕ → (Call → Bool) → Type 0
MayAll told sort = (call : Call) → sort call ≡ true → MayOnceTold told call

-- ---- the course

-- the session was told this version, if one is named
abbrev pub WasTold : Option ℕ → Course → Type 0
WasTold told c = (version : ℕ) → told ≡ Some version → c.told ≡ Some version

-- it has done what it may under a sync lease, and was told this
record IsGood (told : Option ℕ) (c : Course) : Type 0 where
  sync : is_sync c.lease.phase ≡ true
  lawful : c.lawful ≡ true
  informed : WasTold told c

good_sent : (sort : Call → Bool) (told : Option ℕ) (client : List ℕ) (c : Course) (call : Call)
    → MayAll told sort → is_sorted sort client c.lease (Sent call) ≡ true → IsGood told c
    → IsGood told (course_after client c (Sent call))
good_sent sort told client c call may sorted good = record {
  sync = sync_if (allows client c.lease.phase (role_of client call)) Over refl;
  lawful = and_from c.lawful (is_allowed client c call) good.lawful
      (allowed_by c c.lease.phase call (is_work c.lease.phase (role_of client call)) (sort call)
      good.sync (λ is. keeps_more told c.told call good.informed (may call is).keeps) sorted);
  informed = good.informed;
}

good_called : (sort : Call → Bool) (told : Option ℕ) (client : List ℕ) (c : Course) (call : Call)
    (reply : Reply)
    → MayAll told sort → is_sorted sort client c.lease (Called call reply) ≡ true → IsGood told c
    → IsGood told (course_after client c (Called call reply))
good_called sort told client c call reply may sorted good = record {
  sync = stays_sync client c.lease.phase (role_of client call) reply good.sync;
  lawful = and_from c.lawful (is_allowed client c call) good.lawful
      (allowed_by c c.lease.phase call (is_work c.lease.phase (role_of client call)) (sort call)
      good.sync (λ is. keeps_more told c.told call good.informed (may call is).keeps) sorted);
  informed = λ version is.
      told_on c c.lease.phase call reply (is_work c.lease.phase (role_of client call)) (sort call)
      (λ of. (may call of).asks_none (ap is_told is)) sorted
      ∙ good.informed version is;
}

good_from : (sort : Call → Bool) (told : Option ℕ) (client : List ℕ) (c : Course) (es : List Event)
    → MayAll told sort → works_by sort client c.lease es ≡ true → IsGood told c
    → IsGood told (course_from client c es)
unfolding works_by course_from
good_from sort told client c [] may sorted good = good
good_from sort told client c (Sent call ∷ es) may sorted good =
    let parts = and_parts (is_sorted sort client c.lease (Sent call)) _ sorted in
    good_from sort told client (course_after client c (Sent call)) es may parts.1
    (good_sent sort told client c call may parts.0 good)
good_from sort told client c (Called call reply ∷ es) may sorted good =
    let parts = and_parts (is_sorted sort client c.lease (Called call reply)) _ sorted in
    good_from sort told client (course_after client c (Called call reply)) es may parts.1
    (good_called sort told client c call reply may parts.0 good)
good_from sort told client c (Made number ∷ es) may sorted good =
    good_from sort told client c es may sorted good
good_from sort told client c (Began ∷ es) may sorted good = absurd cc
good_from sort told client c (Ended ∷ es) may sorted good = absurd cc

-- ---- the law

pub record StaysLawful (told : Option ℕ) (new : WorkNow) : Type 0 where
  pub lawful : IsLawful new.lease new.site
  pub informed : WasTold told (course_of new.lease.client new.site.line.trail)

good_held : (told : Option ℕ) (a : WorkNow) → IsHeld a.lease a.site.line.trail
    → a.lease.kind ≡ Sync → IsLawful a.lease a.site
    → WasTold told (course_of a.lease.client a.site.line.trail)
    → IsGood told (course_of a.lease.client a.site.line.trail)
good_held told a held sync lawful informed =
    let client = a.lease.client in
    let phase : (course_of client a.site.line.trail).lease.phase ≡ Held Sync a.lease.stamp =
    ap (λ (s : Session). s.phase) (lease-is client a.site.line.trail)
    ∙ (held.stands.phase ∙ ap (λ (kind : LockKind). Held kind a.lease.stamp) sync) in
    record { sync = ap is_sync phase; lawful = lawful; informed = informed }

course_behind : (sort : Call → Bool) (a b : WorkNow) (w : Went sort a b)
    → course_of a.lease.client b.site.line.trail
    ≡ course_from a.lease.client (course_of a.lease.client a.site.line.trail)
    (events_of (length a.site.made) w.deeds)
course_behind sort a b w =
    ap (course_of a.lease.client) w.trail
    ∙ course_from-append a.lease.client outside_course a.site.line.trail
    (events_of (length a.site.made) w.deeds)

-- A session under a sync lease goes on by work all of whose calls it may make: whatever it was told of
-- the version, or as it was told of it, and then that stays so.
pub stays_lawful : (sort : Call → Bool) (told : Option ℕ) (a b : WorkNow)
    → ((call : Call) → sort call ≡ true → MayOnceTold told call)
    → IsHeld a.lease a.site.line.trail → a.lease.kind ≡ Sync → IsLawful a.lease a.site
    → WasTold told (course_of a.lease.client a.site.line.trail)
    → Went sort a b → StaysLawful told b
stays_lawful sort told a b may held sync lawful informed w =
    let client = a.lease.client in
    let before = course_of client a.site.line.trail in
    let sorted : works_by sort client before.lease (events_of (length a.site.made) w.deeds) ≡ true =
    subst (λ (s : Session).
    works_by sort client s (events_of (length a.site.made) w.deeds) ≡ true)
    (sym (lease-is client a.site.line.trail)) w.sorted in
    let good : IsGood told (course_of client b.site.line.trail) =
    subst (IsGood told) (sym (course_behind sort a b w))
    (good_from sort told client before (events_of (length a.site.made) w.deeds) may sorted
    (good_held told a held sync lawful informed)) in
    let same : b.lease.client ≡ client = client_is a.lease b.lease w.same in
    record {
      lawful = subst (λ (x : List ℕ). (course_of x b.site.line.trail).lawful ≡ true) (sym same)
          good.lawful;
      informed = subst (λ (x : List ℕ). WasTold told (course_of x b.site.line.trail)) (sym same)
          good.informed;
    }
