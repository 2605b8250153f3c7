-- A client's move, looked at from behind: who has a lease has had it, or has just taken it.
use Rattle.std.proofs.Common.{◌≡◌, ◌≤◌, ◌⊎◌, ◌∙◌, refl, sym, inl, inr, ℕ, List, false, Some, None}
use Rattle.std.proofs.lemmas.Bool.{false≢true}
use Rattle.jop_base.specs.declared.lock_name.LockKind.{LockKind}
use Rattle.jop_target.specs.declared.tree.File.{File}
use Rattle.lease.specs.Phase.{Phase}
use Rattle.lease.proofs.Invariant.{IsSpent, keeps, no_kind, past_none}
use Rattle.lease.proofs.Moves.{Move, Opens, Stays, Enters, Puts, Renews, Leaves, kind_held, is_past}

-- the client has had no lease in its session so far
pub record IsUnheld (p : Phase) : Type 0 where
  pub none : kind_held p ≡ None
  pub coming : is_past p ≡ false

-- whoever is there still was there before
pub moved_early : (client : List ℕ) (moment : ℕ) (old new : List File) (p q : Phase) →
    Move client moment old new p q → IsUnheld q → IsUnheld p
moved_early client moment old new p q (Opens a b c) h = record { none = a; coming = b }
moved_early client moment old new p q (Stays e f) h =
    record { none = rw e at h.none; coming = rw e at h.coming }
moved_early client moment old new p q (Enters kind stamp now b e n lock free m) h =
    no_kind kind (sym (rw e at h.none))
moved_early client moment old new p q (Puts kind stamp b e lock) h =
    no_kind kind (sym (rw e at h.none))
moved_early client moment old new p q (Renews kind stamp next b e n lock m) h =
    no_kind kind (sym (rw e at h.none))
moved_early client moment old new p q (Leaves e) h = absurd (false≢true (sym h.coming ∙ e))

-- a lease of this kind, which isn't spent
pub record HasUnspent (files : List File) (now : ℕ) (client : List ℕ) (p : Phase)
    (kind : LockKind) : Type 0 where
  pub held : kind_held p ≡ Some kind
  pub unspent : ¬ (IsSpent files now client p)

kept : (client : List ℕ) (now moment : ℕ) (old new : List File) (p q : Phase) (k : LockKind) →
    Move client moment old new p q → now ≤ moment → kind_held p ≡ Some k →
    HasUnspent new moment client q k → IsUnheld p ⊎ HasUnspent old now client p k
kept client now moment old new p q k move m held h =
    elim (keeps client now moment old new p q k move m held) [
      | inl d ↦ no_kind k (sym (past_none q d) ∙ h.held)
      | inr i ↦ inr (record { held = held; unspent = λ s. h.unspent (i.1 s) })
    ]

-- who has a lease that isn't spent had it before, or has just taken it
pub moved_had : (client : List ℕ) (now moment : ℕ) (old new : List File) (p q : Phase)
    (k : LockKind) → Move client moment old new p q → now ≤ moment →
    HasUnspent new moment client q k → IsUnheld p ⊎ HasUnspent old now client p k
moved_had client now moment old new p q k (Opens a b c) m h = no_kind k (sym c ∙ h.held)
moved_had client now moment old new p q k (Stays e f) m h =
    kept client now moment old new p q k (Stays e f) m (rw e at h.held) h
moved_had client now moment old new p q k (Enters kind stamp t b e n lock free z) m h =
    inl (record { none = rw b refl; coming = rw b refl })
moved_had client now moment old new p q k (Puts kind stamp b e lock) m h =
    kept client now moment old new p q k (Puts kind stamp b e lock) m (rw b (rw e at h.held)) h
moved_had client now moment old new p q k (Renews kind stamp next b e n lock z) m h =
    kept client now moment old new p q k (Renews kind stamp next b e n lock z) m
    (rw b (rw e at h.held)) h
moved_had client now moment old new p q k (Leaves e) m h = no_kind k (sym (past_none q e) ∙ h.held)
