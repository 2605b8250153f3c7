-- What is known of a session after a step: its client's own, or another's.
use Rattle.std.proofs.Common.{◌≡◌, ◌≤◌, ◌∙◌, refl, sym, subst, arith, inl, inr, ℕ, List, Bool, true, false, Option, Some, None}
use Rattle.std.specs.Prelude.{count_by}
use Rattle.jop_base.specs.declared.lock_name.LockKind.{LockKind}
use Rattle.jop_base.specs.declared.path.Path.TheVariants.{OldVersion}
use Rattle.jop_target.specs.History.{Happening, Begins, Answered, IsHonestReply, is_guarded_call, landed_call, tree_with, noted}
use Rattle.jop_target.specs.Store.{tree_after}
use Rattle.jop_target.specs.declared.call.Call.{Call}
use Rattle.jop_target.specs.declared.call.Call.TheVariants.{Get}
use Rattle.jop_target.specs.declared.reply.Reply.{Reply}
use Rattle.jop_target.specs.declared.reply.Reply.TheVariants.{Failed}
use Rattle.jop_target.specs.declared.tree.Tree.{Tree}
use Rattle.lease.specs.Discipline.{Session, session_from, lawful_from}
use Rattle.lease.specs.Exclusion.{is_began}
use Rattle.lease.specs.Phase.{Phase}
use Rattle.lease.proofs.Invariant.{IsSpent, no_kind}
use Rattle.lease.proofs.Moves.{Move, kind_held}
use Rattle.lease.proofs.World.{landed_allowed, turn}
use Rattle.target_upgrade.specs.Course.{is_known, keeps_version}
use Rattle.law_exclusion.specs.Target.{tree_version}
use Rattle.law_exclusion.specs.Learnt.{Learnt, nothing_learnt, learnt_of_old, learnt_by, learnt_from}
use Rattle.law_exclusion.proofs.Growth.{leaseless_learns}
use Rattle.law_exclusion.proofs.Moved.{HasUnspent, IsUnheld, moved_early, moved_had}
use Rattle.law_exclusion.proofs.Trees.{IsSo, nothing_so, so_kept, so_learnt, so_unguarded}

-- ---- the words

-- What is known of a session at this phase, in this tree, that has read this: nothing was read
-- before the lease, and while the lease isn't spent, what was read is so. `Reliable` says for which
-- kind of lease.
pub record Knows (t : Tree) (now : ℕ) (client : List ℕ) (p : Phase) (l : Learnt)
    (Reliable : LockKind → Type 0) : Type 0 where
  pub early : IsUnheld p → l ≡ nothing_learnt
  pub so : (k : LockKind) → HasUnspent t.files now client p k → Reliable k → IsSo t l

-- the tree has the version that the call's session was told, and the call keeps it
pub record KeepsTold (t : Tree) (call : Call) : Type 0 where
  pub version : ℕ
  pub known : is_known version ≡ true
  pub keeps : keeps_version (Some version) call ≡ true
  pub at : tree_version t ≡ Some version

-- ---- the tree after a step

changed_by : (t : Tree) (m : ℕ) (call : Call) (l : Learnt) (guarded : Bool) →
    is_guarded_call call ≡ guarded → (guarded ≡ true → KeepsTold t call) → IsSo t l →
    IsSo (tree_after t m call) l
changed_by t m call l false is keeps so = so_unguarded t m call l is so
changed_by t m call l true is keeps so =
    let k = keeps refl in
    so_kept t m call l k.version k.known k.keeps k.at so

-- what lands is no write, or keeps the version
abbrev pub LandsKeeping : Tree → Option Call → Type 0
LandsKeeping t o =
    (call : Call) → o ≡ Some call → is_guarded_call call ≡ true → KeepsTold t call

changed : (t : Tree) (m : ℕ) (o : Option Call) (l : Learnt) → LandsKeeping t o → IsSo t l →
    IsSo (tree_with t m o) l
changed t m None l keeps so = so
changed t m (Some call) l keeps so =
    changed_by t m call l (is_guarded_call call) refl (λ guarded. keeps call refl guarded) so

-- ---- what is read by a step

old_failed : (b : Bool) (versions : List ℕ) →
    learnt_of_old (record { no_info = b; versions = versions }) Failed
    ≡ record { no_info = b; versions = versions }
old_failed true versions = refl
old_failed false versions = refl

failed_learns : (l : Learnt) (call : Call) → learnt_by l call Failed ≡ l
failed_learns l (Get OldVersion) = old_failed l.no_info l.versions
failed_learns l call = refl

so_answered : (t : Tree) (m : ℕ) (call : Call) (reply : Reply) (landed : Bool) (l : Learnt) →
    IsHonestReply t m (Answered call reply landed) → IsSo t l → IsSo t (learnt_by l call reply)
so_answered t m call Failed landed l h so = rw (failed_learns l call) so
so_answered t m call reply landed l h so =
    subst (λ (r : Reply). IsSo t (learnt_by l call r)) (sym h.1.2) (so_learnt t h.1.0 call l so)

so_read : (t : Tree) (m : ℕ) (x : Happening) (l : Learnt) → IsHonestReply t m x → IsSo t l →
    IsSo t (learnt_from l (noted x))
unfolding learnt_from
so_read t m Begins l h so = nothing_so t
so_read t m (Answered call reply landed) l h so = so_answered t m call reply landed l h so
so_read t m x l h so = so

-- a call that didn't land was answered `Failed`
unlanded_learns : (t : Tree) (m : ℕ) (call : Call) (reply : Reply) (l : Learnt) →
    IsHonestReply t m (Answered call reply false) → learnt_by l call reply ≡ l
unlanded_learns t m call Failed l h = failed_learns l call
unlanded_learns t m call reply l h = let landed = h.0 in cc

early_read : (client : List ℕ) (t : Tree) (m : ℕ) (s : Session) (x : Happening) (l : Learnt) →
    IsHonestReply t m x → lawful_from client s (noted x) ≡ true → kind_held s.phase ≡ None →
    l ≡ nothing_learnt → learnt_from l (noted x) ≡ nothing_learnt
unfolding learnt_from
early_read client t m s Begins l h lawful none is = refl
early_read client t m s (Answered call reply true) l h lawful none is =
    leaseless_learns client s.phase l call reply
    (landed_allowed client s (Answered call reply true) call lawful refl) none ∙ is
early_read client t m s (Answered call reply false) l h lawful none is =
    unlanded_learns t m call reply l h ∙ is
early_read client t m s x l h lawful none is = is

-- ---- the client's own step

begun_twice : (x : Happening) → ¬ (x ≡ Begins) → count_by is_began (noted x) ≡ 1 → ⊥
begun_twice Begins n h = n refl
begun_twice x n h = omega (arith, h)

-- within a session a step is a move
move_of : (client : List ℕ) (m : ℕ) (t : Tree) (s : Session) (x : Happening) → ¬ (x ≡ Begins) →
    IsHonestReply t m x → lawful_from client s (noted x) ≡ true →
    Move client m t.files (tree_with t m (landed_call x)).files s.phase
    (session_from client s (noted x)).phase
move_of client m t s x n h lawful = elim (turn client m t s x h lawful) [
  | inl begins ↦ absurd (begun_twice x n begins.1)
  | inr move ↦ move
]

-- what a step owes: who is reliable behind it was so before, unless it begins a session, and what
-- it lands keeps the version
pub record Owes (t : Tree) (p : Phase) (x : Happening) (Before After : LockKind → Type 0)
    : Type 0 where
  pub back : ¬ (x ≡ Begins) → (k : LockKind) → After k → Before k
  pub keeps : (k : LockKind) → After k → kind_held p ≡ Some k → LandsKeeping t (landed_call x)

module _ (client : List ℕ) (now m : ℕ) (t : Tree) (s : Session) (l : Learnt)
    (Before After : LockKind → Type 0) where
  own_moved : (x : Happening) → ¬ (x ≡ Begins) → now ≤ m → IsHonestReply t m x →
      lawful_from client s (noted x) ≡ true → Knows t now client s.phase l Before →
      Owes t s.phase x Before After →
      Knows (tree_with t m (landed_call x)) m client (session_from client s (noted x)).phase
      (learnt_from l (noted x)) After
  own_moved x n later honest lawful knows owes =
      let u = tree_with t m (landed_call x) in
      let q = (session_from client s (noted x)).phase in
      let move = move_of client m t s x n honest lawful in
      let first : IsUnheld s.phase → learnt_from l (noted x) ≡ nothing_learnt = λ e.
      early_read client t m s x l honest lawful e.none (knows.early e) in
      record {
        early = λ e. first (moved_early client m t.files u.files s.phase q move e);
        so = λ k has reliable.
            elim (moved_had client now m t.files u.files s.phase q k move later has) [
              | inl e ↦ rw (first e) (nothing_so u)
              | inr had ↦ changed t m (landed_call x) (learnt_from l (noted x))
                  (owes.keeps k reliable had.held)
                  (so_read t m x l honest (knows.so k had (owes.back n k reliable)))
            ];
      }

  pub own_knows : (x : Happening) → now ≤ m → IsHonestReply t m x →
      lawful_from client s (noted x) ≡ true → Knows t now client s.phase l Before →
      Owes t s.phase x Before After →
      Knows (tree_with t m (landed_call x)) m client (session_from client s (noted x)).phase
      (learnt_from l (noted x)) After
  unfolding session_from learnt_from
  own_knows Begins later honest lawful knows owes = record {
    early = λ e. refl;
    so = λ k has reliable. no_kind k has.held;
  }
  own_knows x later honest lawful knows owes =
      own_moved x (λ e. cc) later honest lawful knows owes

-- ---- the step of another

pub record OwesOther (t u : Tree) (now m : ℕ) (client : List ℕ) (p : Phase) (o : Option Call)
    (Before After : LockKind → Type 0) : Type 0 where
  pub back : (k : LockKind) → After k → Before k
  pub spent : IsSpent t.files now client p → IsSpent u.files m client p
  pub keeps : (k : LockKind) → HasUnspent t.files now client p k → LandsKeeping t o

pub other_knows : (t : Tree) (now m : ℕ) (client : List ℕ) (p : Phase) (l : Learnt)
    (o : Option Call) (Before After : LockKind → Type 0) → Knows t now client p l Before →
    OwesOther t (tree_with t m o) now m client p o Before After →
    Knows (tree_with t m o) m client p l After
other_knows t now m client p l o Before After knows owes = record {
  early = knows.early;
  so = λ k has reliable.
      let had : HasUnspent t.files now client p k =
      record { held = has.held; unspent = λ s. has.unspent (owes.spent s) } in
      changed t m o l (owes.keeps k had) (knows.so k had (owes.back k reliable));
}
