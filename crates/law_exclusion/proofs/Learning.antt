-- What a session has read, beside what the monitor of its course says of it.
use Rattle.std.proofs.Common.{◌≡◌, ◌≢◌, ◌∙◌, refl, sym, subst, ℕ, zero, suc, List, [], ◌∷◌, ◌++◌, Bool, true, false, cond, Option, Some, None, option_map, option_and_then}
use Rattle.std.specs.Option.{option_or}
use Rattle.std.proofs.lemmas.Bool.{and_from, and_parts, eq-eqb}
use Rattle.std.proofs.lemmas.Option.{same_Some}
use Rattle.jop_base.specs.declared.lock_name.LockKind.TheVariants.{Sync, Exclusive}
use Rattle.jop_base.specs.declared.path.Path.TheVariants.{Info as InfoFile, OldVersion}
use Rattle.jop_target.specs.declared.call.Call.{Call}
use Rattle.jop_target.specs.declared.call.Call.TheVariants.{Get}
use Rattle.jop_target.specs.declared.event.Event.{Event}
use Rattle.jop_target.specs.declared.event.Event.TheVariants.{Began, Sent, Called, Made, Ended}
use Rattle.jop_target.specs.declared.reply.Reply.{Reply}
use Rattle.jop_target.specs.declared.reply.Reply.TheVariants.{Got, Absent, TooLarge}
use Rattle.lease.specs.Idle.{is_work}
use Rattle.lease.specs.Phase.{Phase, Held, role_of}
use Rattle.sync_info.specs.Read.{info_in}
use Rattle.sync_info.specs.declared.info.Info.{Info}
use Rattle.target_upgrade.specs.Course.{Course, begun_course, is_allowed, is_known, if_known, known_in, course_after, course_from, allowed_from, told_after, told_by, stage_by, stage_lost}
use Rattle.target_upgrade.specs.Steps.{UpgradeStage, Reads, ReadsOld, At, Gets, Upgraded, Stuck, awaited, starts_from, starts_with, after_info, after_old, stage_after_reply}
use Rattle.law_exclusion.proofs.UnderWay.{is_under_way, under_way_on}
use Rattle.law_exclusion.proofs.Walked.{next_call, allowed_so_far}
use Rattle.law_exclusion.specs.Learnt.{Learnt, nothing_learnt, with_info, learnt_of_info, learnt_of_old, learnt_by, learnt_after, learnt_from}
use Rattle.law_exclusion.proofs.Growth.{Grows, grows, has_version, not_empty}

-- ---- the monitors beside each other

-- a stage of an upgrade that goes on stands behind what was read
abbrev pub IsReadAt : UpgradeStage → Learnt → Type 0
IsReadAt ReadsOld l = l.no_info ≡ true
IsReadAt (At step info) l = l.versions ≢ []
IsReadAt (Gets ids info) l = l.versions ≢ []
IsReadAt stage l = Unit {0}

-- some client may work at this version, and it was read
pub record IsTold (version : ℕ) (versions : List ℕ) : Type 0 where
  pub known : is_known version ≡ true
  pub read : has_version version versions ≡ true

-- the version that a session was told is such a one
abbrev pub HasRead : Option ℕ → Learnt → Type 0
HasRead told l = (version : ℕ) → told ≡ Some version → IsTold version l.versions

pub record Matches (c : Course) (l : Learnt) : Type 0 where
  pub told : HasRead c.told l
  pub stage : IsReadAt c.stage l

read_grows : (s : UpgradeStage) (l m : Learnt) → Grows l m → IsReadAt s l → IsReadAt s m
read_grows ReadsOld l m g h = g.none h
read_grows (At step info) l m g h = g.read h
read_grows (Gets ids info) l m g h = g.read h
read_grows s l m g h = tt

-- ---- a synchroniser is told

pub none_told : (l : Learnt) → HasRead None l
none_told l version is = cc

told_grows : (told : Option ℕ) (l m : Learnt) → Grows l m → HasRead told l → HasRead told m
told_grows told l m g h version is = record {
  known = (h version is).known;
  read = g.version version (h version is).read;
}

-- what is told of a version is that version, if it is known
known_is : (v version : ℕ) → if_known v ≡ Some version → (is_known v ≡ true) × (v ≡ version)
known_is v version h = go (is_known v) refl where
  go : (b : Bool) → is_known v ≡ b → (is_known v ≡ true) × (v ≡ version)
  go true is = (is, same_Some v version (rw is at h))
  go false is = let none : None ≡ Some version = rw is at h in cc

told_with : (o : Option Info) (vs : List ℕ) (version : ℕ) →
    option_and_then if_known (option_map (λ (i : Info). i.version) o) ≡ Some version →
    IsTold version (with_info o vs)
told_with None vs version h = cc
told_with (Some info) vs version h =
    let parts = known_is info.version version h in
    record {
      known = subst (λ (v : ℕ). is_known v ≡ true) parts.1 parts.0;
      read = rw (eq-eqb info.version version parts.1) refl;
    }

-- what was told before stays told where an info tells nothing
told_last : (told last : Option ℕ) (l m : Learnt) → Grows l m → HasRead told l → HasRead last m →
    HasRead (option_or last told) m
told_last told None l m g before h = told_grows told l m g before
told_last told (Some version) l m g before h = h

told_next : (told : Option ℕ) (l : Learnt) (call : Call) (reply : Reply) → HasRead told l →
    HasRead (told_after told call reply) (learnt_by l call reply)
told_next told l (Get InfoFile) (Got now content) h =
    let m = learnt_by l (Get InfoFile) (Got now content) in
    told_last told (known_in content) l m (grows l (Get InfoFile) (Got now content)) h
    (told_with (info_in content) l.versions)
told_next told l call reply h =
    told_grows told l (learnt_by l call reply) (grows l call reply) h

-- ---- an upgrade makes its steps behind what it has read

starts_read : (v : ℕ) (info : Info) (l : Learnt) → l.versions ≢ [] →
    IsReadAt (starts_from v info) l
starts_read zero info l h = h
starts_read (suc zero) info l h = h
starts_read (suc (suc zero)) info l h = h
starts_read (suc (suc (suc zero))) info l h = tt
starts_read (suc (suc (suc (suc n)))) info l h = tt

info_with : (l : Learnt) (o : Option Info) →
    IsReadAt (starts_with o) (record { no_info = l.no_info; versions = with_info o l.versions })
info_with l None = tt
info_with l (Some info) =
    starts_read info.version info
    (record { no_info = l.no_info; versions = info.version ∷ l.versions })
    (not_empty info.version l.versions)

info_read : (l : Learnt) (reply : Reply) → IsReadAt (after_info reply) (learnt_of_info l reply)
info_read l (Got now content) = info_with l (info_in content)
info_read l (Absent now) = refl
info_read l reply = tt

old_read : (versions : List ℕ) (reply : Reply) →
    IsReadAt (after_old reply) (learnt_of_old (record { no_info = true; versions = versions }) reply)
old_read versions (Got now content) = not_empty 1 versions
old_read versions (TooLarge len) = not_empty 1 versions
old_read versions (Absent now) = not_empty 0 versions
old_read versions reply = tt

-- whoever is under way has read
way_read : (s : UpgradeStage) (l : Learnt) → l.versions ≢ [] → is_under_way s ≡ true → IsReadAt s l
way_read (At step info) l h on = h
way_read (Gets ids info) l h on = h
way_read s l h on = cc

on_read : (s : UpgradeStage) (reply : Reply) (l : Learnt) → is_under_way s ≡ true →
    l.versions ≢ [] →
    IsReadAt (stage_after_reply s reply) l
on_read s reply l on h =
    under_way_on (λ (t : UpgradeStage). IsReadAt t l) s reply tt tt (λ t way. way_read t l h way) on

next_read : (s : UpgradeStage) (call : Call) (reply : Reply) (l : Learnt) → awaited s ≡ Some call →
    IsReadAt s l → IsReadAt (stage_after_reply s reply) (learnt_by l call reply)
next_read Reads call reply l next h =
    let same : Get InfoFile ≡ call = cc in
    subst (λ (c : Call). IsReadAt (after_info reply) (learnt_by l c reply)) same (info_read l reply)
next_read ReadsOld call reply l next h =
    let same : Get OldVersion ≡ call = cc in
    subst (λ (c : Call). IsReadAt (after_old reply) (learnt_by l c reply)) same
    (subst (λ (b : Bool). IsReadAt (after_old reply)
    (learnt_of_old (record { no_info = b; versions = l.versions }) reply)) (sym h)
    (old_read l.versions reply))
next_read (At step info) call reply l next h =
    on_read (At step info) reply (learnt_by l call reply) refl ((grows l call reply).read h)
next_read (Gets ids info) call reply l next h =
    on_read (Gets ids info) reply (learnt_by l call reply) refl ((grows l call reply).read h)
next_read Upgraded call reply l next h = cc
next_read Stuck call reply l next h = cc

-- ---- event by event

still_matches : (c d : Course) (l m : Learnt) → d.told ≡ c.told → d.stage ≡ c.stage → Grows l m →
    Matches c l → Matches d m
still_matches c d l m told stage g h = record {
  told = λ version is. told_grows c.told l m g h.told version (sym told ∙ is);
  stage = subst (λ (s : UpgradeStage). IsReadAt s m) (sym stage) (read_grows c.stage l m g h.stage);
}

-- a course that has come on to this
abbrev Comes : Learnt → Option ℕ → UpgradeStage → Type 0
Comes l told stage = HasRead told l × IsReadAt stage l

worked : (c : Course) (p : Phase) (call : Call) (reply : Reply) (l : Learnt) → Matches c l →
    ((stamp : ℕ) → p ≡ Held Exclusive stamp → awaited c.stage ≡ Some call) →
    Comes (learnt_by l call reply) (told_by c p call reply) (stage_by c p reply)
worked c (Held Sync stamp) call reply l h next =
    (told_next c.told l call reply h.told, read_grows c.stage l _ (grows l call reply) h.stage)
worked c (Held Exclusive stamp) call reply l h next = (
  told_grows c.told l (learnt_by l call reply) (grows l call reply) h.told,
  next_read c.stage call reply l (next stamp refl) h.stage,
)
worked c p call reply l h next = (
  told_grows c.told l (learnt_by l call reply) (grows l call reply) h.told,
  read_grows c.stage l _ (grows l call reply) h.stage,
)

matches_called : (client : List ℕ) (c : Course) (call : Call) (reply : Reply) (l : Learnt) →
    Matches c l → is_allowed client c call ≡ true →
    Matches (course_after client c (Called call reply)) (learnt_by l call reply)
matches_called client c call reply l h allowed =
    go (is_work c.lease.phase (role_of client call)) refl
  where
    go : (b : Bool) → is_work c.lease.phase (role_of client call) ≡ b →
        Matches (course_after client c (Called call reply)) (learnt_by l call reply)
    go false none =
        still_matches c (course_after client c (Called call reply)) l (learnt_by l call reply)
        (rw none refl) (rw none refl) (grows l call reply) h
    go true work =
        let both = worked c c.lease.phase call reply l h
        (λ stamp phase. (next_call client c call stamp phase work allowed).next) in
        record { told = rw work both.0; stage = rw work both.1 }

lost_read : (c : Course) (p : Phase) (l : Learnt) → IsReadAt c.stage l →
    IsReadAt (stage_lost c p) l
lost_read c (Held Exclusive stamp) l h = tt
lost_read c p l h = h

lost_if : (c : Course) (p : Phase) (l : Learnt) (b : Bool) → IsReadAt c.stage l →
    IsReadAt (cond b (stage_lost c p) c.stage) l
lost_if c p l true h = lost_read c p l h
lost_if c p l false h = h

matches_after : (client : List ℕ) (c : Course) (e : Event) (l : Learnt) → Matches c l →
    (course_after client c e).lawful ≡ true → Matches (course_after client c e) (learnt_after l e)
matches_after client c Began l h lawful = record { told = none_told nothing_learnt; stage = tt }
matches_after client c (Sent call) l h lawful = record {
  told = h.told;
  stage = lost_if c c.lease.phase l (is_work c.lease.phase (role_of client call)) h.stage;
}
matches_after client c (Called call reply) l h lawful =
    matches_called client c call reply l h (and_parts c.lawful _ lawful).1
matches_after client c (Made number) l h lawful = h
matches_after client c Ended l h lawful = record { told = h.told; stage = h.stage }

pub matches_from : (client : List ℕ) (c : Course) (l : Learnt) (es : List Event) → Matches c l →
    allowed_from client c es ≡ true → Matches (course_from client c es) (learnt_from l es)
unfolding allowed_from course_from learnt_from
matches_from client c l [] h allowed = h
matches_from client c l (Began ∷ es) h allowed =
    matches_from client begun_course nothing_learnt es
    (record { told = none_told nothing_learnt; stage = tt })
    (and_parts c.lawful (allowed_from client begun_course es) allowed).1
matches_from client c l (e ∷ es) h allowed =
    matches_from client (course_after client c e) (learnt_after l e) es
    (matches_after client c e l h (allowed_so_far client (course_after client c e) es allowed))
    allowed

pub allowed_from-append : (client : List ℕ) (c : Course) (es fs : List Event) →
    allowed_from client c (es ++ fs) ≡ true →
    (allowed_from client c es ≡ true) × (allowed_from client (course_from client c es) fs ≡ true)
unfolding allowed_from course_from
allowed_from-append client c [] fs h = (allowed_so_far client c fs h, h)
allowed_from-append client c (Began ∷ es) fs h =
    let parts = and_parts c.lawful (allowed_from client begun_course (es ++ fs)) h in
    let rest = allowed_from-append client begun_course es fs parts.1 in
    (and_from c.lawful (allowed_from client begun_course es) parts.0 rest.0, rest.1)
allowed_from-append client c (e ∷ es) fs h =
    allowed_from-append client (course_after client c e) es fs h
