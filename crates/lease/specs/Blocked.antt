-- The lock that a busy answer names, in a history of all clients.
use Rattle.std.specs.Prelude.{ℕ, ◌≤◌, ◌≡◌, List, length, Bool, true, false, Some, take, slice_get, Contains}
use Rattle.jop_base.specs.declared.dir.Dir.TheVariants.{Locks}
use Rattle.jop_base.specs.declared.lock_name.LockKind.{LockKind}
use Rattle.jop_base.specs.declared.path.Path.TheVariants.{Lock as LockFile}
use Rattle.jop_target.specs.History.{History, Step, Answered, IsHonest, part_of, tree_at}
use Rattle.jop_target.specs.declared.call.Call.TheVariants.{List as ListDir}
use Rattle.jop_target.specs.declared.event.Event.{Event}
use Rattle.jop_target.specs.declared.reply.Listing.{Listing}
use Rattle.jop_target.specs.declared.reply.Reply.TheVariants.{Listed}
use Rattle.jop_target.specs.declared.tree.Content.{Content}
use Rattle.jop_target.specs.declared.tree.File.{File}
use Rattle.lease.specs.declared.lock.Lock.{Lock}
use Rattle.lease.specs.Exclusion.{EndsIn}
use Rattle.lease.specs.Locks.{excludes, is_live, is_own}

-- The lock stands among the files with its stamp; at this moment it is live; it is another's; and
-- it keeps the client from a lease of this kind.
pub record StandsInTheWay (files : List File) (now : ℕ) (kind : LockKind) (client : List ℕ)
    (lock : Lock) : Type 0 where
  pub content : Content
  pub stands : Contains files (record {
    path = LockFile lock.name;
    content = content;
    stamp = lock.stamp;
  })
  pub live : is_live lock now ≡ true
  pub another : is_own client lock.name ≡ false
  pub excluded : excludes kind lock.name.kind ≡ true

-- at this place, counted from 0, the client is answered a listing of the locks
pub record IsShown (h : History) (place : ℕ) (client : List ℕ) (listing : Listing) : Type 0 where
  pub step : Step
  pub landed : Bool
  pub here : slice_get h.steps place ≡ Some step
  pub by : step.client ≡ client
  pub listed : step.happens ≡ Answered (ListDir Locks) (Listed listing) landed

-- Behind so many of its events the client was shown the locks at this moment, and the lock stood in
-- its way.
pub record WasInTheWay (h : History) (behind : ℕ) (kind : LockKind) (client : List ℕ) (lock : Lock)
    (now : ℕ) : Type 0 where
  pub place : ℕ
  pub listing : Listing
  pub shown : IsShown h place client listing
  pub at : listing.now ≡ now
  pub in_trail : behind ≤ length (part_of client (take place h.steps))
  pub stood : StandsInTheWay (tree_at h place).files now kind client lock

-- Whatever honest history this trail is a client's last part of: the lock stood in its way, at a
-- listing of the trail.
abbrev pub NamesALiveLock : LockKind → List ℕ → List Event → Lock → ℕ → Type 0
NamesALiveLock kind client trail lock now =
    (h : History) → IsHonest h → (ends : EndsIn h client trail) →
    WasInTheWay h (length ends.earlier) kind client lock now
