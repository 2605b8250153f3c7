-- Tests that decide of a history that is written out whether the laws speak of it.
use Rattle.std.proofs.Common.{◌≡◌, ◌+◌, ◌∙◌, ◌⊎◌, refl, sym, ap, subst, arith, inl, inr, ℕ, zero, suc, List, [], ◌∷◌, ◌++◌, append_assoc, append-nil, Bool, true, false, cond, ◌&&◌, nat_eq, nat_le, nat_lt, Option, Some, None}
use Rattle.std.specs.Prelude.{bytes_eq, take, slice_get}
use Rattle.std.proofs.lemmas.Bool.{and_parts, ltb-true, leb-true, eqb-true}
use Rattle.std.proofs.lemmas.Slice.Eq.{bytes_eq-Decides}
use Rattle.jop_base.specs.LockNames.{Name}
use Rattle.jop_base.specs.declared.path.Path.{Path}
use Rattle.jop_base.specs.declared.path.Path.TheVariants.{Info, OldVersion, Item, Lock as LockFile}
use Rattle.jop_target.specs.History.{History, Step, Happening, Answered, IsHonest, IsHonestFrom, IsHonestReply, IsOrderly, is_guarded_call, landed_call, tree_with, noted, part_of}
use Rattle.jop_target.specs.Store.{reply_of}
use Rattle.jop_target.specs.Trail.{told}
use Rattle.jop_target.specs.declared.call.Call.{Call}
use Rattle.jop_target.specs.declared.event.Event.{Event}
use Rattle.jop_target.specs.declared.reply.Entry.{Entry}
use Rattle.jop_target.specs.declared.reply.Reply.{Reply}
use Rattle.jop_target.specs.declared.reply.Reply.TheVariants.{Listed, Got, Absent, Done, Failed}
use Rattle.jop_target.specs.declared.tree.Tree.{Tree}
use Rattle.lease.specs.Discipline.{outside, lawful_from, KeepsLocks}
use Rattle.lease.specs.Exclusion.{IsTimely, AllKeepLocks, phase_at}
use Rattle.lease.specs.Locks.{LIFE, same_kind}
use Rattle.lease.specs.Phase.{Phase, Held}
use Rattle.lease.proofs.LockFiles.{same_kind-same}

-- ---- replies that are the same

abbrev same_name : Name → Name → Bool
same_name a b =
    same_kind a.kind b.kind && (nat_eq a.client_type b.client_type && bytes_eq a.client b.client)

-- paths as stories have them
abbrev same_path : Path → Path → Bool
same_path Info Info = true
same_path OldVersion OldVersion = true
same_path (Item id) (Item other) = bytes_eq id other
same_path (LockFile name) (LockFile other) = same_name name other
same_path path other = false

abbrev same_entries : List Entry → List Entry → Bool
same_entries [] [] = true
same_entries (e ∷ es) (f ∷ fs) =
    same_path e.path f.path && (nat_eq e.stamp f.stamp && same_entries es fs)
same_entries es fs = false

abbrev same_reply : Reply → Reply → Bool
same_reply (Listed l) (Listed m) = nat_eq l.now m.now && same_entries l.entries m.entries
same_reply (Got now content) (Got at bytes) = nat_eq now at && bytes_eq content bytes
same_reply (Absent now) (Absent at) = nat_eq now at
same_reply (Done now) (Done at) = nat_eq now at
same_reply reply other = false

same_bytes : (a b : List ℕ) → bytes_eq a b ≡ true → a ≡ b
same_bytes a b h = (bytes_eq-Decides a b).0 h

name_same : (a b : Name) → same_name a b ≡ true → a ≡ b
name_same a b h =
    let parts = and_parts (same_kind a.kind b.kind)
    (nat_eq a.client_type b.client_type && bytes_eq a.client b.client) h in
    let rest = and_parts (nat_eq a.client_type b.client_type) (bytes_eq a.client b.client)
    parts.1 in
    let k = same_kind-same a.kind b.kind parts.0 in
    let t = eqb-true a.client_type b.client_type rest.0 in
    let c = same_bytes a.client b.client rest.1 in
    λ i. record { kind = k i; client_type = t i; client = c i }

path_same : (p q : Path) → same_path p q ≡ true → p ≡ q
path_same Info Info h = refl
path_same OldVersion OldVersion h = refl
path_same (Item id) (Item other) h = ap Item (same_bytes id other h)
path_same (LockFile name) (LockFile other) h = ap LockFile (name_same name other h)
path_same p q h = cc

entries_same : (es fs : List Entry) → same_entries es fs ≡ true → es ≡ fs
entries_same [] [] h = refl
entries_same (e ∷ es) (f ∷ fs) h =
    let parts = and_parts (same_path e.path f.path) (nat_eq e.stamp f.stamp && same_entries es fs)
    h in
    let rest = and_parts (nat_eq e.stamp f.stamp) (same_entries es fs) parts.1 in
    let p = path_same e.path f.path parts.0 in
    let s = eqb-true e.stamp f.stamp rest.0 in
    let more = entries_same es fs rest.1 in
    λ i. record { path = p i; stamp = s i } ∷ more i
entries_same es fs h = cc

reply_same : (a b : Reply) → same_reply a b ≡ true → a ≡ b
reply_same (Listed l) (Listed m) h =
    let parts = and_parts (nat_eq l.now m.now) (same_entries l.entries m.entries) h in
    let n = eqb-true l.now m.now parts.0 in
    let es = entries_same l.entries m.entries parts.1 in
    λ i. Listed (record { now = n i; entries = es i })
reply_same (Got now content) (Got at bytes) h =
    let parts = and_parts (nat_eq now at) (bytes_eq content bytes) h in
    let n = eqb-true now at parts.0 in
    let c = same_bytes content bytes parts.1 in
    λ i. Got (n i) (c i)
reply_same (Absent now) (Absent at) h = ap (λ (n : ℕ). Absent n) (eqb-true now at h)
reply_same (Done now) (Done at) h = ap (λ (n : ℕ). Done n) (eqb-true now at h)
reply_same a b h = cc

-- ---- honest

abbrev answers_truly : Tree → ℕ → Call → Reply → Bool → Bool
answers_truly tree moment call Failed landed = true
answers_truly tree moment call reply landed =
    landed && (nat_le (told 0 reply) moment && same_reply reply (reply_of tree (told 0 reply) call))

abbrev happens_truly : Tree → ℕ → Happening → Bool
happens_truly tree moment (Answered call reply landed) = answers_truly tree moment call reply landed
happens_truly tree moment happening = true

abbrev pub is_honest_from : Tree → ℕ → List Step → Bool
is_honest_from tree now [] = true
is_honest_from tree now (s ∷ ss) = nat_le now s.moment && (happens_truly tree s.moment s.happens
    && is_honest_from (tree_with tree s.moment (landed_call s.happens)) s.moment ss)

answered_truly : (tree : Tree) (moment : ℕ) (call : Call) (reply : Reply) (landed : Bool) →
    answers_truly tree moment call reply landed ≡ true →
    IsHonestReply tree moment (Answered call reply landed)
answered_truly tree moment call Failed landed h = tt
answered_truly tree moment call reply landed h =
    let parts = and_parts landed (nat_le (told 0 reply) moment && same_reply reply
    (reply_of tree (told 0 reply) call)) h in
    let rest = and_parts (nat_le (told 0 reply) moment)
    (same_reply reply (reply_of tree (told 0 reply) call)) parts.1 in (
      parts.0,
      (
        told 0 reply,
        leb-true _ _ rest.0,
        reply_same reply (reply_of tree (told 0 reply) call) rest.1,
      ),
    )

happened_truly : (tree : Tree) (moment : ℕ) (x : Happening) → happens_truly tree moment x ≡ true →
    IsHonestReply tree moment x
happened_truly tree moment (Answered call reply landed) h =
    answered_truly tree moment call reply landed h
happened_truly tree moment x h = tt

honest_from : (tree : Tree) (now : ℕ) (ss : List Step) → is_honest_from tree now ss ≡ true →
    IsHonestFrom tree now ss
honest_from tree now [] h = tt
honest_from tree now (s ∷ ss) h =
    let next = tree_with tree s.moment (landed_call s.happens) in
    let parts = and_parts (nat_le now s.moment)
    (happens_truly tree s.moment s.happens && is_honest_from next s.moment ss) h in
    let rest = and_parts (happens_truly tree s.moment s.happens) (is_honest_from next s.moment ss)
    parts.1 in (
      leb-true _ _ parts.0,
      happened_truly tree s.moment s.happens rest.0,
      honest_from next s.moment ss rest.1,
    )

-- a store in which nothing stands is in order
pub orderly_empty : IsOrderly (record { files = []; folders = [] })
orderly_empty = record {
  paths = λ i f within. absurd (omega arith);
  ordered = tt;
}

pub is_honest : (h : History) → IsOrderly h.opening → is_honest_from h.opening 0 h.steps ≡ true →
    IsHonest h
is_honest h orderly told =
    record { opening = orderly; steps = honest_from h.opening 0 h.steps told }

-- ---- timely

abbrev writes_early : ℕ → Phase → Bool → Bool
writes_early moment (Held kind stamp) true = nat_lt moment (stamp + LIFE)
writes_early moment phase writes = true

abbrev writes_in : Option Call → Bool
writes_in None = false
writes_in (Some call) = is_guarded_call call

abbrev pub is_timely_from : List Step → List Step → Bool
is_timely_from before [] = true
is_timely_from before (s ∷ ss) =
    writes_early s.moment (phase_at s.client before) (writes_in (landed_call s.happens))
    && is_timely_from (before ++ s ∷ []) ss

early_at : (before ss : List Step) (place : ℕ) (s : Step) → is_timely_from before ss ≡ true →
    slice_get ss place ≡ Some s →
    writes_early s.moment (phase_at s.client (before ++ take place ss))
    (writes_in (landed_call s.happens)) ≡ true
early_at before [] place s h e = cc
early_at before (t ∷ ss) zero s h e =
    let same : t ≡ s = cc in
    let first = (and_parts (writes_early t.moment (phase_at t.client before)
    (writes_in (landed_call t.happens)))
    (is_timely_from (before ++ t ∷ []) ss) h).0 in
    let at : before ≡ before ++ [] = sym (append-nil before) in
    subst (λ (r : Step). writes_early r.moment (phase_at r.client (before ++ []))
    (writes_in (landed_call r.happens)) ≡ true) same
    (subst (λ (b : List Step). writes_early t.moment (phase_at t.client b)
    (writes_in (landed_call t.happens)) ≡ true) at first)
early_at before (t ∷ ss) (suc place) s h e =
    let rest = (and_parts (writes_early t.moment (phase_at t.client before)
    (writes_in (landed_call t.happens)))
    (is_timely_from (before ++ t ∷ []) ss) h).1 in
    subst (λ (b : List Step). writes_early s.moment (phase_at s.client b)
    (writes_in (landed_call s.happens)) ≡ true)
    (append_assoc before (t ∷ []) (take place ss)) (early_at (before ++ t ∷ []) ss place s rest e)

pub is_timely : (h : History) → is_timely_from [] h.steps ≡ true → IsTimely h
is_timely h early = record {
  each = λ place client kind stamp write held.
      let s = write.step in
      let at = early_at [] h.steps place s early write.here in
      let writes : writes_in (landed_call s.happens) ≡ true = ap writes_in write.landed ∙
      write.guarded in
      let phase : phase_at s.client (take place h.steps) ≡ Held kind stamp =
      ap (λ (c : List ℕ). phase_at c (take place h.steps)) write.by ∙ held in
      ltb-true _ _ (rw (phase, writes) at at);
}

-- ---- obeying

abbrev pub all_keep : List Step → List Step → Bool
all_keep all [] = true
all_keep all (s ∷ ss) = lawful_from s.client outside (part_of s.client all) && all_keep all ss

-- a client has no part in these steps, or one of them is its own
has_part : (all ss : List Step) (client : List ℕ) → all_keep all ss ≡ true →
    (part_of client ss ≡ []) ⊎ KeepsLocks client (part_of client all)
has_part all [] client h = inl refl
has_part all (s ∷ ss) client h = go (bytes_eq s.client client) refl (has_part all ss client parts.1)
  where
    parts : (lawful_from s.client outside (part_of s.client all) ≡ true) × (all_keep all ss ≡ true)
    parts = and_parts (lawful_from s.client outside (part_of s.client all)) (all_keep all ss) h

    go : (b : Bool) → bytes_eq s.client client ≡ b →
        (part_of client ss ≡ []) ⊎ KeepsLocks client (part_of client all) →
        (cond b (noted s.happens ++ part_of client ss) (part_of client ss) ≡ [])
        ⊎ KeepsLocks client (part_of client all)
    go true e rest =
        inr (subst (λ (c : List ℕ). KeepsLocks c (part_of c all)) (same_bytes s.client client e)
        parts.0)
    go false e rest = rest

keeps_none : (client : List ℕ) (trail : List Event) → trail ≡ [] → KeepsLocks client trail
unfolding lawful_from
keeps_none client trail is = rw is refl

pub all_keep_locks : (h : History) → all_keep h.steps h.steps ≡ true → AllKeepLocks h
all_keep_locks h keep = record {
  each = λ client. elim (has_part h.steps h.steps client keep) [
    | inl none ↦ keeps_none client (part_of client h.steps) none
    | inr keeps ↦ keeps
  ];
}
