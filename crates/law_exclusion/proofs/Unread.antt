-- A write that doesn't land on the version that its session has read.
use Rattle.std.proofs.Common.{◌≡◌, ◌<◌, ◌≤◌, ◌∙◌, refl, sym, arith, ℕ, zero, suc, List, [], ◌∷◌, Bool, true, false, ◌&&◌, not, nat_eq, Option, Some, None}
use Rattle.std.specs.Prelude.{All, bytes_eq, take, slice_get}
use Rattle.std.proofs.lemmas.Bool.{and_parts, false≢true, eq-eqb}
use Rattle.std.proofs.lemmas.Option.{same_Some}
use Rattle.std.proofs.lemmas.Slice.Eq.{bytes_eq-Decides}
use Rattle.jop_target.specs.History.{History, Step, is_guarded_call, landed_call, part_of, tree_at}
use Rattle.jop_target.specs.declared.call.Call.{Call}
use Rattle.lease.specs.Exclusion.{Holds, Upgrades}
use Rattle.law_exclusion.specs.Target.{tree_version}
use Rattle.jop_base.specs.declared.lock_name.LockKind.TheVariants.{Sync}
use Rattle.jop_base.specs.declared.path.Path.TheVariants.{Item}
use Rattle.lease.specs.Stories.{one, puts_empty}
use Rattle.law_exclusion.proofs.Written.{put_writes}
use Rattle.law_exclusion.specs.Exclusive.{IsAsReadAt, IsExclusive, OpensUpgrade}
use Rattle.law_exclusion.specs.Learnt.{learnt_of}

-- what was read isn't what the tree has
pub record ReadsOther (h : History) (place : ℕ) (client : List ℕ) (read has : ℕ) : Type 0 where
  pub versions : (learnt_of (part_of client (take place h.steps))).versions ≡ read ∷ []
  pub tree : tree_version (tree_at h place) ≡ Some has
  pub other : nat_eq read has ≡ false

not_among : (h : History) (place read has : ℕ) (vs : List ℕ) →
    tree_version (tree_at h place) ≡ Some has → nat_eq read has ≡ false → vs ≡ read ∷ [] →
    All (λ (v : ℕ). tree_version (tree_at h place) ≡ Some v) vs → ⊥
not_among h place read has [] tree other is all = cc
not_among h place read has (v ∷ vs) tree other is all =
    let first : v ≡ read = cc in
    let same : v ≡ has = same_Some v has (sym (all 0 v (omega arith)) ∙ tree) in
    false≢true (sym other ∙ eq-eqb read has (sym first ∙ same))

pub reads_other : (h : History) (place : ℕ) (client : List ℕ) (read has : ℕ) →
    ReadsOther h place client read has → IsAsReadAt h place client → ⊥
reads_other h place client read has o as_read =
    not_among h place read has (learnt_of (part_of client (take place h.steps))).versions o.tree
    o.other o.versions as_read.each

-- the first client puts an item at this place, under a sync lock of moment 1
pub record PutsItem (h : History) (place moment : ℕ) : Type 0 where
  pub here : slice_get h.steps place ≡ Some (puts_empty one moment (Item one))
  pub holds : Holds h place one Sync 1

pub put_as_read : (h : History) (place moment : ℕ) → PutsItem h place moment → IsExclusive h →
    IsAsReadAt h place one
put_as_read h place moment puts exclusive =
    exclusive.as_read.sync place one 1
    (put_writes h place one moment (Item one) [] puts.here refl) puts.holds

-- ---- the first write of a client

abbrev writes_here : List ℕ → Step → Option Call → Bool
writes_here client s None = false
writes_here client s (Some call) = bytes_eq s.client client && is_guarded_call call

-- whether none of these steps is a write of the client
abbrev pub writes_none : List ℕ → List Step → Bool
writes_none client [] = true
writes_none client (s ∷ ss) =
    not (writes_here client s (landed_call s.happens)) && writes_none client ss

here_none : (client : List ℕ) (s t : Step) (call : Call) → t ≡ s → s.client ≡ client →
    landed_call s.happens ≡ Some call → is_guarded_call call ≡ true →
    not (writes_here client t (landed_call t.happens)) ≡ true → ⊥
here_none client s t call same by landed guarded h =
    let own : bytes_eq s.client client ≡ true = (bytes_eq-Decides s.client client).1 by in
    false≢true (rw (same, landed, own, guarded) at h)

none_at : (client : List ℕ) (ss : List Step) (place q : ℕ) (s : Step) (call : Call) →
    writes_none client (take place ss) ≡ true → q < place → slice_get ss q ≡ Some s →
    s.client ≡ client → landed_call s.happens ≡ Some call → is_guarded_call call ≡ true → ⊥
none_at client ss zero q s call none lt here by landed guarded = absurd (omega arith)
none_at client [] (suc place) q s call none lt here by landed guarded = cc
none_at client (t ∷ ss) (suc place) zero s call none lt here by landed guarded =
    let same : t ≡ s = cc in
    here_none client s t call same by landed guarded
    (and_parts _ (writes_none client (take place ss)) none).0
none_at client (t ∷ ss) (suc place) (suc q) s call none lt here by landed guarded =
    none_at client ss place q s call
    (and_parts _ (writes_none client (take place ss)) none).1 (omega arith) here by landed guarded

not_before : (place q : ℕ) → ¬ (q < place) → place ≤ q
not_before place q n = grind arith

pub opens : (h : History) (place : ℕ) (client : List ℕ) (session : ℕ) →
    Upgrades h place client session → writes_none client (take place h.steps) ≡ true →
    OpensUpgrade h place client session
opens h place client session upgrades none = record {
  upgrades = upgrades;
  first = λ q other. not_before place q (λ lt. none_at client h.steps place q other.writes.step
      other.writes.call none lt other.writes.here other.writes.by other.writes.landed
      other.writes.guarded);
}
