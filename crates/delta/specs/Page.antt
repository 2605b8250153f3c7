-- What a listing asks of a client.
use Rattle.std.specs.Prelude.{ℕ, ◌≡◌, ◌<◌, List, [], true, Contains, length, Option, Some, None, if◌then◌else◌, nat_lt}
use Rattle.jop_base.specs.declared.context.Context.{Context}
use Rattle.jop_target.specs.declared.reply.Listing.{Listing}
use Rattle.delta.specs.Marks.{ids_of, is_new, lacks, latest, marks_of}
use Rattle.delta.specs.Order.{Lists, id_cmp, mark_cmp}
use Rattle.delta.specs.Tombs.{counts_as_deleted, recorded_by}
use Rattle.delta.specs.declared.mark.Mark.{Mark}
use Rattle.delta.specs.declared.page.Page.{Page}

abbrev pub IsNewAmong : Context → List Mark → Mark → Type 0
IsNewAmong context marks m = Contains marks m × (is_new context m ≡ true)

-- the ids of the new files, in the order in which they were written
pub record IsTaken (context : Context) (marks : List Mark) (taken : List (List ℕ)) : Type 0 where
  pub new : List Mark
  pub lists : Lists mark_cmp (IsNewAmong context marks) new
  pub ids : taken ≡ ids_of new

-- the client has a base of an item, whose file is absent, and which counts as deleted
abbrev pub IsGoneOf : List (List ℕ) → List Mark → Option Listing → List ℕ → Type 0
IsGoneOf synced marks tombs id =
    Contains synced id × (lacks marks id ≡ true) × (counts_as_deleted tombs id ≡ true)

-- An item of the last moment counts as seen only where the listing is later than that: at the moment itself another may
-- still be written.
abbrev pub IsSeenAt : ℕ → ℕ → List Mark → List ℕ → Type 0
IsSeenAt now moment marks id =
    (moment < now) × Contains marks (record { stamp = moment; id = id })

-- how far a client has read the target that has read what a listing of this moment shows
pub record IsNext (now : ℕ) (before : Context) (marks : List Mark) (next : Context) : Type 0 where
  pub moment : next.moment ≡ latest before.moment marks
  pub seen : Lists id_cmp (IsSeenAt now next.moment marks) next.seen

-- The page of a listing of the root, and of one of the folder of deletions where they are recorded,
-- for a client that has read the target so far, and has a base of these items.
pub record IsPageOf (listing : Listing) (tombs : Option Listing) (context : Context)
    (synced : List (List ℕ)) (page : Page) : Type 0 where
  pub taken : IsTaken context (marks_of listing.entries) page.taken
  pub gone : Lists id_cmp (IsGoneOf synced (marks_of listing.entries) tombs) page.gone
  pub next : IsNext listing.now context (marks_of listing.entries) page.next

-- a listing shows an item's file, written at this moment
abbrev pub ShowsFile : Listing → Mark → Type 0
ShowsFile listing m = Contains (marks_of listing.entries) m

-- How many items a client has a base of, where there are some, and the target shows none at all,
-- nor records that one was deleted.
abbrev pub fail_safe_of : List Mark → List (List ℕ) → List (List ℕ) → Option ℕ
fail_safe_of [] [] synced = if nat_lt 0 (length synced) then Some (length synced) else None
fail_safe_of marks recorded synced = None

abbrev pub fail_safe : Listing → Option Listing → List (List ℕ) → Option ℕ
fail_safe listing tombs synced = fail_safe_of (marks_of listing.entries) (recorded_by tombs) synced
