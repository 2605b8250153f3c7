-- A lock that is in the way in an honest listing stands in the tree.
use Rattle.std.proofs.Common.{◌≡◌, refl, subst, arith, ℕ, List, [], ◌∷◌, Bool, true, false, cond, ◌&&◌, not, find, Some, None}
use Rattle.std.proofs.lemmas.Bool.{and_parts, not-true}
use Rattle.std.proofs.lemmas.List.Elements.{Contains-append_right}
use Rattle.std.proofs.lemmas.Option.{same_Some}
use Rattle.jop_base.specs.declared.dir.Dir.TheVariants.{Locks}
use Rattle.jop_base.specs.declared.lock_name.LockKind.{LockKind}
use Rattle.jop_base.specs.declared.path.Path.{Path}
use Rattle.jop_base.specs.declared.path.Path.TheVariants.{Lock as LockFile}
use Rattle.jop_target.specs.Store.{entries_in}
use Rattle.jop_target.specs.declared.tree.Content.{Content}
use Rattle.jop_target.specs.declared.tree.File.{File}
use Rattle.lease.specs.declared.lock.Lock.{Lock}
use Rattle.lease.specs.Blocked.{StandsInTheWay}
use Rattle.lease.specs.Locks.{excludes, is_in_way, is_live, is_own, locks_in}

further : (f : File) (fs : List File) (now : ℕ) (kind : LockKind) (client : List ℕ) (lock : Lock) →
    StandsInTheWay fs now kind client lock → StandsInTheWay (f ∷ fs) now kind client lock
further f fs now kind client lock b = record {
  content = b.content;
  stands =
      Contains-append_right (f ∷ []) fs
      (record { path = LockFile lock.name; content = b.content; stamp = lock.stamp }) b.stands;
  live = b.live;
  another = b.another;
  excluded = b.excluded;
}

here : (fs : List File) (content : Content) (now : ℕ) (kind : LockKind) (client : List ℕ)
    (lock : Lock) → is_in_way kind client now lock ≡ true →
    StandsInTheWay (record { path = LockFile lock.name; content = content; stamp = lock.stamp } ∷
    fs) now kind client lock
here fs content now kind client lock h =
    let parts = and_parts (excludes kind lock.name.kind && not (is_own client lock.name))
    (is_live lock now) h in
    let first = and_parts (excludes kind lock.name.kind) (not (is_own client lock.name)) parts.0 in
    record {
      content = content;
      stands = (0, omega arith, refl);
      live = parts.1;
      another = not-true (is_own client lock.name) first.1;
      excluded = first.0;
    }

stands_more : (p : Path) (content : Content) (at : ℕ) (fs : List File) (now : ℕ) (kind : LockKind)
    (client : List ℕ) (lock : Lock) → (find (is_in_way kind client now)
    (locks_in (entries_in fs Locks)) ≡ Some lock → StandsInTheWay fs now kind client lock) →
    find (is_in_way kind client now)
    (locks_in (entries_in (record { path = p; content = content; stamp = at } ∷ fs) Locks)) ≡ Some
    lock → StandsInTheWay (record { path = p; content = content; stamp = at } ∷ fs) now kind
    client lock
unfolding entries_in
stands_more (LockFile name) content at fs now kind client lock ih h =
    go (is_in_way kind client now first) refl h
  where
    first : Lock
    first = record { name = name; stamp = at }

    file : File
    file = record { path = LockFile name; content = content; stamp = at }

    go : (t : Bool) → is_in_way kind client now first ≡ t →
        cond t (Some first) (find (is_in_way kind client now)
        (locks_in (entries_in fs Locks))) ≡ Some lock →
        StandsInTheWay (file ∷ fs) now kind client lock
    go true e h =
        subst (λ (l : Lock). StandsInTheWay (file ∷ fs) now kind client l) (same_Some first lock h)
        (here fs content now kind client first e)
    go false e h = further file fs now kind client lock (ih h)
stands_more p content at fs now kind client lock ih h =
    further (record { path = p; content = content; stamp = at }) fs now kind client lock (ih h)

pub stands_in_the_way : (kind : LockKind) (client : List ℕ) (now : ℕ) (files : List File)
    (lock : Lock) → find (is_in_way kind client now)
    (locks_in (entries_in files Locks)) ≡ Some lock → StandsInTheWay files now kind client lock
stands_in_the_way kind client now [] lock h =
    let none : None ≡ Some lock = unfold entries_in in h in cc
stands_in_the_way kind client now (f ∷ fs) lock h =
    stands_more f.path f.content f.stamp fs now kind client lock
    (stands_in_the_way kind client now fs lock) h
