-- What a call that the lease allows does to its client's phase and to the lock files.
use Rattle.std.proofs.Common.{◌≡◌, ◌≤◌, ◌<◌, ◌+◌, ◌∙◌, refl, sym, ap, subst, ℕ, List, Bool, true, false, option_map, Option, Some, None}
use Rattle.std.proofs.lemmas.Bool.{false≢true}
use Rattle.jop_base.specs.declared.dir.Dir.TheVariants.{Locks}
use Rattle.jop_base.specs.declared.lock_name.LockKind.{LockKind}
use Rattle.jop_base.specs.declared.path.Path.TheVariants.{Lock as LockFile}
use Rattle.jop_target.specs.Store.{with_file, entries_in, reply_of, tree_after}
use Rattle.jop_target.specs.Runs.{is_failed}
use Rattle.jop_target.specs.declared.call.Call.{Call}
use Rattle.jop_target.specs.declared.call.Call.TheVariants.{Put}
use Rattle.jop_target.specs.declared.reply.Listing.{Listing}
use Rattle.jop_target.specs.declared.reply.Reply.{Reply}
use Rattle.jop_target.specs.declared.reply.Reply.TheVariants.{Listed, Done, Failed}
use Rattle.jop_target.specs.declared.tree.Content.TheVariants.{Whole}
use Rattle.jop_target.specs.declared.tree.File.{File}
use Rattle.jop_target.specs.declared.tree.Tree.{Tree}
use Rattle.lease.specs.declared.lock.Lock.{Lock}
use Rattle.lease.specs.Locks.{LIFE, own_name, blocking_in}
use Rattle.lease.specs.Phase.{Phase, Free, Looked, Asked, Held, Renewing, Leaving, Over, Role, MakesLocks, ListsLocks, PutsOwn, DeletesOwn, Plain, role_of, allows, heard, stamp_in_time, listed_phase}
use Rattle.lease.proofs.Calls.{held_stays, over_deleted}
use Rattle.lease.proofs.LockFiles.{own_lock, same_kind-same, own_stamp-listed}
use Rattle.jop_target.proofs.Files.{file_at-put}
use Rattle.lease.proofs.Stamps.{stamp_is_in_time, in_time-before}
use Rattle.lease.proofs.Touched.{PutsOwnLock, lists_locks, own_kept, puts_own}

-- ---- moves

-- the kind of the lease that a client has, or is renewing
abbrev pub kind_held : Phase → Option LockKind
kind_held (Held kind stamp) = Some kind
kind_held (Renewing kind stamp) = Some kind
kind_held phase = None

-- a session that can get no lease any more
abbrev pub is_past : Phase → Bool
is_past (Leaving kind) = true
is_past Over = true
is_past phase = false

-- what one step of a client within a session does, between two trees
pub data Move (client : List ℕ) (moment : ℕ) (old new : List File)
    (before after : Phase) : Type 0 where
  -- the client comes no further than to ask for its lease
  Opens : kind_held before ≡ None → is_past before ≡ false → kind_held after ≡ None →
      Move client moment old new before after
  -- it goes on, and its locks stand as they stood
  Stays : after ≡ before →
      ((kind : LockKind) → own_lock new kind client ≡ own_lock old kind client) →
      Move client moment old new before after
  -- it takes a lease, having seen its own lock and none in the way
  Enters : (kind : LockKind) (stamp now : ℕ) → before ≡ Asked kind → after ≡ Held kind stamp →
      new ≡ old →
      own_lock old kind client ≡ Some stamp →
      blocking_in kind client (record {
        now = now;
        entries = entries_in old Locks;
      }) ≡ None → now ≤ moment →
      Move client moment old new before after
  -- it puts its lock anew
  Puts : (kind : LockKind) (stamp : ℕ) → before ≡ Held kind stamp → after ≡ Renewing kind stamp →
      own_lock new kind client ≡ Some moment → Move client moment old new before after
  -- it has seen its new lock in time
  Renews : (kind : LockKind) (stamp next : ℕ) → before ≡ Renewing kind stamp →
      after ≡ Held kind next → new ≡ old →
      own_lock old kind client ≡ Some next → next < stamp + LIFE →
      Move client moment old new before after
  -- it gives up, or its session is over
  Leaves : is_past after ≡ true → Move client moment old new before after

-- ---- the rows of a phase

free_none : (client : List ℕ) (role : Role) (reply : Reply) → allows client Free role ≡ true →
    kind_held (heard client Free role reply) ≡ None
free_none client MakesLocks Failed a = refl
free_none client MakesLocks reply a = refl
free_none client ListsLocks Failed a = refl
free_none client ListsLocks reply a = refl
free_none client role reply a = cc

looked_none : (client : List ℕ) (listing : Listing) (role : Role) (reply : Reply) →
    allows client (Looked listing) role ≡ true →
    kind_held (heard client (Looked listing) role reply) ≡ None
looked_none client listing (PutsOwn kind) Failed a = refl
looked_none client listing (PutsOwn kind) reply a = refl
looked_none client listing role reply a = cc

-- the second listing of an acquisition
second_listing : (client : List ℕ) (kind : LockKind) (moment now : ℕ) (files : List File)
    (own : Option ℕ)
    (blocking : Option Lock) → now ≤ moment → own_lock files kind client ≡ own →
    blocking_in kind client (record { now = now; entries = entries_in files Locks }) ≡ blocking →
    Move client moment files files (Asked kind)
    (listed_phase kind (stamp_in_time None now own) blocking)
second_listing client kind moment now files own blocking m e f =
    go (stamp_in_time None now own) blocking refl f
  where
    go : (shown : Option ℕ) (b : Option Lock) → stamp_in_time None now own ≡ shown →
        blocking_in kind client (record { now = now; entries = entries_in files Locks }) ≡ b →
        Move client moment files files (Asked kind) (listed_phase kind shown b)
    go None b s f = Leaves refl
    go (Some stamp) None s f =
        Enters kind stamp now refl refl refl (e ∙ (stamp_is_in_time None now own stamp s).own_is)
        f m
    go (Some stamp) (Some lock) s f = Leaves refl

-- the listing of a renewal
renewal_listing : (client : List ℕ) (kind : LockKind) (old moment now : ℕ) (files : List File)
    (own : Option ℕ) →
    own_lock files kind client ≡ own →
    Move client moment files files (Renewing kind old)
    (listed_phase kind (stamp_in_time (Some (old + LIFE)) now own) None)
renewal_listing client kind old moment now files own e =
    go (stamp_in_time (Some (old + LIFE)) now own) refl
  where
    go : (shown : Option ℕ) → stamp_in_time (Some (old + LIFE)) now own ≡ shown →
        Move client moment files files (Renewing kind old) (listed_phase kind shown None)
    go None s = Leaves refl
    go (Some stamp) s =
        let by = stamp_is_in_time (Some (old + LIFE)) now own stamp s in
        Renews kind old stamp refl refl refl (e ∙ by.own_is)
        (in_time-before (old + LIFE) now stamp by.in_time)

-- a lock of its own that is put has the moment as its stamp
put_move : (client : List ℕ) (kind : LockKind) (stamp now moment : ℕ) (tree : Tree) (call : Call)
    (reply : Reply) →
    PutsOwnLock client kind call → reply ≡ reply_of tree now call →
    Move client moment tree.files (tree_after tree moment call).files (Held kind stamp)
    (heard client (Held kind stamp) (PutsOwn kind) reply)
put_move client kind stamp now moment tree call reply put e =
    subst (λ (c : Call). Move client moment tree.files (tree_after tree moment c).files
    (Held kind stamp)
    (heard client (Held kind stamp) (PutsOwn kind) reply)) (sym put.1)
    (rw (answer, stands) (Puts kind stamp refl refl lock))
  where
    file : File
    file = record { path = LockFile (own_name kind client); content = Whole put.0; stamp = moment }

    answer : reply ≡ Done now
    answer = e ∙ ap (reply_of tree now) put.1 ∙ (unfold reply_of in refl)

    stands : tree_after tree moment (Put (LockFile (own_name kind client)) put.0)
        ≡ record tree { files = with_file tree.files file }
    stands = unfold tree_after in refl

    lock : own_lock (with_file tree.files file) kind client ≡ Some moment
    lock = ap (option_map (λ (f : File). f.stamp)) (file_at-put tree.files file)

-- ---- an answered call

held_move : (client : List ℕ) (kind : LockKind) (stamp now moment : ℕ) (tree : Tree) (call : Call)
    (reply : Reply)
    (role : Role) → role_of client call ≡ role → allows client (Held kind stamp) role ≡ true →
    is_failed reply ≡ false →
    reply ≡ reply_of tree now call →
    Move client moment tree.files (tree_after tree moment call).files (Held kind stamp)
    (heard client (Held kind stamp) role reply)
held_move client kind stamp now moment tree call reply (PutsOwn own) is a f e =
    let same : kind ≡ own = same_kind-same kind own a in
    subst (λ (k : LockKind). Move client moment tree.files (tree_after tree moment call).files
    (Held kind stamp)
    (heard client (Held kind stamp) (PutsOwn k) reply)) same
    (put_move client kind stamp now moment tree call reply
    (puts_own client kind call (is ∙ ap PutsOwn (sym same))) e)
held_move client kind stamp now moment tree call reply (DeletesOwn own) is a f e =
    Leaves (rw (over_deleted own client (Held kind stamp) reply a) refl)
held_move client kind stamp now moment tree call reply MakesLocks is a f e =
    Stays (held_stays client kind stamp MakesLocks reply refl f)
    (λ k. own_kept client k tree moment call (rw is refl))
held_move client kind stamp now moment tree call reply Plain is a f e =
    Stays (held_stays client kind stamp Plain reply refl f)
    (λ k. own_kept client k tree moment call (rw is refl))
held_move client kind stamp now moment tree call reply role is a f e = absurd (false≢true a)

listed_reply : (client : List ℕ) (now : ℕ) (tree : Tree) (call : Call) (reply : Reply) →
    role_of client call ≡ ListsLocks →
    reply ≡ reply_of tree now call → reply ≡ Listed (record {
      now = now;
      entries = entries_in tree.files Locks;
    })
listed_reply client now tree call reply is e =
    e ∙ ap (reply_of tree now) (lists_locks client call is) ∙ (unfold reply_of in refl)

listed_tree : (client : List ℕ) (moment : ℕ) (tree : Tree) (call : Call) →
    role_of client call ≡ ListsLocks →
    tree_after tree moment call ≡ tree
listed_tree client moment tree call is =
    ap (tree_after tree moment) (lists_locks client call is) ∙ (unfold tree_after in refl)

asked_move : (client : List ℕ) (kind : LockKind) (now moment : ℕ) (tree : Tree) (call : Call)
    (reply : Reply) (role : Role) →
    now ≤ moment → role_of client call ≡ role → allows client (Asked kind) role ≡ true →
    reply ≡ reply_of tree now call →
    Move client moment tree.files (tree_after tree moment call).files (Asked kind)
    (heard client (Asked kind) role reply)
asked_move client kind now moment tree call reply ListsLocks m is a e =
    rw (
      listed_reply client now tree call reply is e,
      listed_tree client moment tree call is,
      own_stamp-listed kind client now tree.files,
    )
    (second_listing client kind moment now tree.files (own_lock tree.files kind client)
    _ m refl refl)
asked_move client kind now moment tree call reply role m is a e = absurd (false≢true a)

renewing_move : (client : List ℕ) (kind : LockKind) (stamp now moment : ℕ) (tree : Tree)
    (call : Call) (reply : Reply)
    (role : Role) → role_of client call ≡ role → allows client (Renewing kind stamp) role ≡ true →
    reply ≡ reply_of tree now call →
    Move client moment tree.files (tree_after tree moment call).files (Renewing kind stamp)
    (heard client (Renewing kind stamp) role reply)
renewing_move client kind stamp now moment tree call reply ListsLocks is a e =
    rw (
      listed_reply client now tree call reply is e,
      listed_tree client moment tree call is,
      own_stamp-listed kind client now tree.files,
    )
    (renewal_listing client kind stamp moment now tree.files (own_lock tree.files kind client) refl)
renewing_move client kind stamp now moment tree call reply role is a e = absurd (false≢true a)

leaving_move : (client : List ℕ) (kind : LockKind) (moment : ℕ) (old new : List File)
    (reply : Reply) (role : Role) →
    allows client (Leaving kind) role ≡ true →
    Move client moment old new (Leaving kind) (heard client (Leaving kind) role reply)
leaving_move client kind moment old new reply (DeletesOwn own) a =
    Leaves (rw (over_deleted own client (Leaving kind) reply a) refl)
leaving_move client kind moment old new reply role a = absurd (false≢true a)

-- what a call does that is allowed and answered as the store answers
pub answered_move : (client : List ℕ) (now moment : ℕ) (tree : Tree) (phase : Phase) (call : Call)
    (reply : Reply) →
    now ≤ moment → allows client phase (role_of client call) ≡ true → is_failed reply ≡ false →
    reply ≡ reply_of tree now call →
    Move client moment tree.files (tree_after tree moment call).files phase
    (heard client phase (role_of client call) reply)
answered_move client now moment tree Free call reply m a f e =
    Opens refl refl (free_none client (role_of client call) reply a)
answered_move client now moment tree (Looked listing) call reply m a f e =
    Opens refl refl (looked_none client listing (role_of client call) reply a)
answered_move client now moment tree (Asked kind) call reply m a f e =
    asked_move client kind now moment tree call reply (role_of client call) m refl a e
answered_move client now moment tree (Held kind stamp) call reply m a f e =
    held_move client kind stamp now moment tree call reply (role_of client call) refl a f e
answered_move client now moment tree (Renewing kind stamp) call reply m a f e =
    renewing_move client kind stamp now moment tree call reply (role_of client call) refl a e
answered_move client now moment tree (Leaving kind) call reply m a f e =
    leaving_move client kind moment _ _ reply (role_of client call) a
answered_move client now moment tree phase call reply m a f e = absurd (false≢true a)
