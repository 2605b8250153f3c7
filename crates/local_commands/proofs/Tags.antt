-- The changes that tag a note are those of a user.
use Rattle.std.specs.Prelude.{ℕ, ◌≡◌, List, [], ◌∷◌, ◌++◌, Bool, true, false, map, if◌then◌else◌, Option, Some, None, Ok, Err}
use Rattle.std.specs.List.{find, list_any}
use Rattle.std.proofs.Common.{subst}
use Rattle.item_kinds.specs.Made.{note_tag}
use Rattle.local_changes.specs.Lookup.{is_row_of, note_kind}
use Rattle.local_changes.specs.Tagging.{all_changes, is_link, is_tag_of, link_changes, tag_changes, tag_id, tagged, unlinking, unlinking_one}
use Rattle.local_changes.specs.declared.store_err.StoreErr.{StoreErr}
use Rattle.local_changes.specs.declared.store_err.StoreErr.TheVariants.{NotFound}
use Rattle.local_store.specs.Tables.{row_at}
use Rattle.local_store.specs.declared.change.Change.{Change}
use Rattle.local_store.specs.declared.change.Change.TheVariants.{Saved, Removed}
use Rattle.local_store.specs.declared.row.Row.{Row}
use Rattle.local_store.specs.declared.tables.Tables.{Tables}
use Rattle.local_commands.specs.Keeping.{AreLocal}
use Rattle.local_commands.specs.declared.act.Act.TheVariants.{MakeChange}

abbrev OfUser : List Change → Type 0
OfUser changes = AreLocal false (map MakeChange changes)

both_local : (changes others : List Change) → OfUser changes → OfUser others
    → OfUser (changes ++ others)
both_local [] others one other = other
both_local (change ∷ changes) others one other = (one.0, both_local changes others one.1 other)

tag_local : (id title : List ℕ) (now : ℕ) (found : Option Row)
    → OfUser (tag_changes id title now found)
tag_local id title now None = (tt, tt)
tag_local id title now (Some r) = tt

link_local : (rows : List Row) (link note tag : List ℕ) (now : ℕ)
    → OfUser (link_changes rows link note tag now)
link_local rows link note tag now = by (list_any (is_link note tag) rows) where
  by : (b : Bool) → OfUser (if b then [] else Saved link (note_tag link note tag now) ∷ [])
  by true = tt
  by false = (tt, tt)

all_local : (rows : List Row) (tag link note title : List ℕ) (now : ℕ) (found : Option Row)
    → OfUser (all_changes rows tag link note title now found)
all_local rows tag link note title now found =
    both_local (tag_changes tag title now found)
    (link_changes rows link note (tag_id tag found) now) (tag_local tag title now found)
    (link_local rows link note (tag_id tag found) now)

chosen : (b : Bool) (made changes : List Change) (e : StoreErr) → OfUser made
    → (if b then Ok made else Err e) ≡ Ok changes → OfUser changes
chosen true made changes e local is = subst OfUser (cc is) local
chosen false made changes e local is = cc is

pub tagged_local : (t : Tables) (tag link note title : List ℕ) (now : ℕ) (changes : List Change)
    → tagged t tag link note title now ≡ Ok changes → AreLocal false (map MakeChange changes)
tagged_local t tag link note title now changes is =
    let found = find (is_tag_of title) t.rows in
    chosen (is_row_of note_kind (row_at t note)) (all_changes t.rows tag link note title now found)
    changes (NotFound note) (all_local t.rows tag link note title now found) is

-- ---- taking a tag off

one_local : (note tag : List ℕ) (r : Row) → OfUser (unlinking_one note tag r)
one_local note tag r = by (is_link note tag r) where
  by : (b : Bool) → OfUser (if b then Removed r.id ∷ [] else [])
  by true = (tt, tt)
  by false = tt

pub unlinking_local : (note tag : List ℕ) (rows : List Row)
    → AreLocal false (map MakeChange (unlinking note tag rows))
unlinking_local note tag [] = tt
unlinking_local note tag (r ∷ rows) =
    both_local (unlinking_one note tag r) (unlinking note tag rows) (one_local note tag r)
    (unlinking_local note tag rows)
