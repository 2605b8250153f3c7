-- Which lock files a call touches, by what it is for its client.
use Rattle.std.proofs.Common.{◌≡◌, ◌∙◌, refl, sym, ap, subst, ℕ, List, Bool, true, false, cond, option_map}
use Rattle.std.proofs.lemmas.Bool.{and_parts, false≢true}
use Rattle.jop_base.specs.LockNames.{Name}
use Rattle.jop_base.specs.declared.dir.Dir.TheVariants.{Locks}
use Rattle.jop_base.specs.declared.lock_name.LockKind.{LockKind}
use Rattle.jop_base.specs.declared.path.Path.{Path}
use Rattle.jop_base.specs.declared.path.Path.TheVariants.{Blob, Lock as LockFile}
use Rattle.jop_target.specs.Store.{with_file, without_file, tree_after}
use Rattle.jop_target.specs.declared.call.Call.{Call}
use Rattle.jop_target.specs.declared.call.Call.TheVariants.{List as ListDir, Get, Put, Delete, MakeDir, PutBlob}
use Rattle.jop_target.specs.declared.tree.Content.TheVariants.{Whole, Sized}
use Rattle.jop_target.specs.declared.tree.File.{File}
use Rattle.jop_target.specs.declared.tree.Tree.{Tree}
use Rattle.lease.specs.Idle.{is_working}
use Rattle.lease.specs.Locks.{own_name, is_own, same_kind}
use Rattle.lease.specs.Phase.{Phase, Free, Role, ListsLocks, PutsOwn, DeletesOwn, Foreign, role_of, allows}
use Rattle.lease.proofs.Calls.{same_kind-itself}
use Rattle.lease.proofs.LockFiles.{own_lock, is_own_path, is_same-own, own_one, own_is}
use Rattle.jop_target.proofs.Files.{file_at-other_put, file_at-other_delete}

-- ---- what calls of a role are

neither : (t : Bool) (a b role : Role) → cond t a b ≡ role → (a ≡ role → ⊥) → (b ≡ role → ⊥) → ⊥
neither true a b role e no_a no_b = no_a e
neither false a b role e no_a no_b = no_b e

pub lists_locks : (client : List ℕ) (call : Call) → role_of client call ≡ ListsLocks →
    call ≡ ListDir Locks
lists_locks client (ListDir Locks) e = refl
lists_locks client (MakeDir Locks) e = cc
lists_locks client (Get (LockFile name)) e = cc
lists_locks client (Put (LockFile name) content) e =
    absurd (neither (is_own client name) (PutsOwn name.kind) Foreign ListsLocks e (λ h. cc)
    (λ h. cc))
lists_locks client (Delete (LockFile name)) e =
    absurd (neither (is_own client name) (DeletesOwn name.kind) Foreign ListsLocks e (λ h. cc)
    (λ h. cc))
lists_locks client call e = cc

-- the call puts the client's own lock of a kind
abbrev pub PutsOwnLock : List ℕ → LockKind → Call → Type 0
PutsOwnLock client kind call =
    (content : List ℕ) × (call ≡ Put (LockFile (own_name kind client)) content)

own_put : (client : List ℕ) (kind : LockKind) (name : Name) (content : List ℕ) (t : Bool) →
    is_own client name ≡ t →
    cond t (PutsOwn name.kind) Foreign ≡ PutsOwn kind →
    PutsOwnLock client kind (Put (LockFile name) content)
own_put client kind name content false own e = cc
own_put client kind name content true own e =
    let same : name.kind ≡ kind = cc in
    let is : same_kind kind name.kind ≡ true = subst (λ (k : LockKind). same_kind kind k ≡ true)
    (sym same) (same_kind-itself kind) in
    (content, ap (λ (n : Name). Put (LockFile n) content) (own_is kind client name (rw own is)))

pub puts_own : (client : List ℕ) (kind : LockKind) (call : Call) → role_of client call ≡ PutsOwn kind →
    PutsOwnLock client kind call
puts_own client kind (Put (LockFile name) content) e =
    own_put client kind name content (is_own client name) refl e
puts_own client kind (ListDir Locks) e = cc
puts_own client kind (MakeDir Locks) e = cc
puts_own client kind (Get (LockFile name)) e = cc
puts_own client kind (Delete (LockFile name)) e =
    absurd (neither (is_own client name) (DeletesOwn name.kind) Foreign (PutsOwn kind) e (λ h. cc)
    (λ h. cc))
puts_own client kind call e = cc

never_foreign : (client : List ℕ) (phase : Phase) → allows client phase Foreign ≡ true → ⊥
never_foreign client Free a = false≢true a
never_foreign client phase a = false≢true a

-- ---- which lock files a call touches

lock_kept_by_put : (files : List File) (file : File) (kind : LockKind) (client : List ℕ) →
    is_own_path kind client file.path ≡ false →
    own_lock (with_file files file) kind client ≡ own_lock files kind client
lock_kept_by_put files file kind client h =
    ap (option_map (λ (f : File). f.stamp))
    (file_at-other_put files file (LockFile (own_name kind client))
    (is_same-own kind client file.path ∙ h))

lock_kept_by_delete : (files : List File) (path : Path) (kind : LockKind) (client : List ℕ) →
    is_own_path kind client path ≡ false → own_lock (without_file files path)
    kind client ≡ own_lock files kind client
lock_kept_by_delete files path kind client h =
    ap (option_map (λ (f : File). f.stamp))
    (file_at-other_delete files path (LockFile (own_name kind client))
    (is_same-own kind client path ∙ h))

others_lock : (client other : List ℕ) (kind : LockKind) (name : Name) (t : Bool) →
    ¬ (client ≡ other) →
    is_own client name ≡ true → is_own_path kind other (LockFile name) ≡ t → t ≡ false
others_lock client other kind name true n h k =
    absurd (n (own_one client other name h (and_parts _ _ k).0))
others_lock client other kind name false n h k = refl

-- a lock that is put or deleted is its client's own
own_allowed : (client : List ℕ) (phase : Phase) (role : Role) (t : Bool) →
    allows client phase (cond t role Foreign) ≡ true → t ≡ true
own_allowed client phase role true a = refl
own_allowed client phase role false a = absurd (never_foreign client phase a)

put_apart : (client other : List ℕ) (kind : LockKind) (phase : Phase) (path : Path)
    (content : List ℕ) → ¬ (client ≡ other) →
    allows client phase (role_of client (Put path content)) ≡ true →
    is_own_path kind other path ≡ false
put_apart client other kind phase (LockFile name) content n a =
    others_lock client other kind name (is_own_path kind other (LockFile name)) n
    (own_allowed client phase (PutsOwn name.kind) (is_own client name) a) refl
put_apart client other kind phase path content n a = refl

delete_apart : (client other : List ℕ) (kind : LockKind) (phase : Phase) (path : Path) →
    ¬ (client ≡ other) →
    allows client phase (role_of client (Delete path)) ≡ true → is_own_path kind other path ≡ false
delete_apart client other kind phase (LockFile name) n a =
    others_lock client other kind name (is_own_path kind other (LockFile name)) n
    (own_allowed client phase (DeletesOwn name.kind) (is_own client name) a) refl
delete_apart client other kind phase path n a = refl

-- no call of a client touches another's lock
pub others_kept : (client other : List ℕ) (kind : LockKind) (phase : Phase) (tree : Tree)
    (moment : ℕ) (call : Call) →
    ¬ (client ≡ other) → allows client phase (role_of client call) ≡ true →
    own_lock (tree_after tree moment call).files kind other ≡ own_lock tree.files kind other
unfolding tree_after
others_kept client other kind phase tree moment (Put path content) n a =
    lock_kept_by_put tree.files (record {
      path = path;
      content = Whole content;
      stamp = moment;
    }) kind other
    (put_apart client other kind phase path content n a)
others_kept client other kind phase tree moment (Delete path) n a =
    lock_kept_by_delete tree.files path kind other (delete_apart client other kind phase path n a)
others_kept client other kind phase tree moment (PutBlob id len) n a =
    lock_kept_by_put tree.files (record {
      path = Blob id;
      content = Sized len;
      stamp = moment;
    }) kind other refl
others_kept client other kind phase tree moment call n a = refl

untouched_put : (client : List ℕ) (kind : LockKind) (path : Path) (content : List ℕ) →
    is_working (role_of client (Put path content)) ≡ true → is_own_path kind client path ≡ false
untouched_put client kind (LockFile name) content h = absurd (go (is_own client name) h) where
  go : (t : Bool) → is_working (cond t (PutsOwn name.kind) Foreign) ≡ true → ⊥
  go true h = false≢true h
  go false h = false≢true h
untouched_put client kind path content h = refl

untouched_delete : (client : List ℕ) (kind : LockKind) (path : Path) →
    is_working (role_of client (Delete path)) ≡ true → is_own_path kind client path ≡ false
untouched_delete client kind (LockFile name) h = absurd (go (is_own client name) h) where
  go : (t : Bool) → is_working (cond t (DeletesOwn name.kind) Foreign) ≡ true → ⊥
  go true h = false≢true h
  go false h = false≢true h
untouched_delete client kind path h = refl

-- a call that has nothing to do with locks touches none of its client's
pub own_kept : (client : List ℕ) (kind : LockKind) (tree : Tree) (moment : ℕ) (call : Call) →
    is_working (role_of client call) ≡ true →
    own_lock (tree_after tree moment call).files kind client ≡ own_lock tree.files kind client
unfolding tree_after
own_kept client kind tree moment (Put path content) h =
    lock_kept_by_put tree.files (record {
      path = path;
      content = Whole content;
      stamp = moment;
    }) kind client
    (untouched_put client kind path content h)
own_kept client kind tree moment (Delete path) h =
    lock_kept_by_delete tree.files path kind client (untouched_delete client kind path h)
own_kept client kind tree moment (PutBlob id len) h =
    lock_kept_by_put tree.files (record {
      path = Blob id;
      content = Sized len;
      stamp = moment;
    }) kind client refl
own_kept client kind tree moment call h = refl
