-- The changes that tag a note.
use Rattle.std.specs.Prelude.{ℕ, List, [], ◌∷◌, ◌++◌, Bool, false, ◌&&◌, bytes_eq, codes, unwrap_or, if◌then◌else◌, Option, Some, None, Result, Ok, Err}
use Rattle.std.specs.List.{flat_map, list_any, find}
use Rattle.item_kinds.specs.Made.{tag, note_tag}
use Rattle.item_text.specs.Props.{has_value}
use Rattle.item_text.specs.declared.item.Item.{Item}
use Rattle.local_store.specs.declared.change.Change.{Change}
use Rattle.local_store.specs.declared.change.Change.TheVariants.{Saved, Removed}
use Rattle.local_store.specs.declared.content.Content.{Content}
use Rattle.local_store.specs.declared.content.Content.TheVariants.{Plain, Sealed}
use Rattle.local_store.specs.declared.row.Row.{Row}
use Rattle.local_store.specs.declared.tables.Tables.{Tables}
use Rattle.local_store.specs.Rows.{item_of, has_kind}
use Rattle.local_store.specs.Tables.{row_at}
use Rattle.local_changes.specs.declared.store_err.StoreErr.{StoreErr}
use Rattle.local_changes.specs.declared.store_err.StoreErr.TheVariants.{NotFound}
use Rattle.local_changes.specs.Lookup.{note_kind, tag_kind, note_tag_kind, is_row_of}

-- ---- what is there

-- an absent title equals an empty one
abbrev pub has_title : List ℕ → Item → Bool
has_title title item = bytes_eq (unwrap_or item.title []) title

-- a readable tag of this title
abbrev pub is_tag_content : List ℕ → Content → Bool
is_tag_content title (Plain item) = has_kind tag_kind item && has_title title item
is_tag_content title (Sealed item) = false

abbrev pub is_tag_of : List ℕ → Row → Bool
is_tag_of title r = is_tag_content title r.content

-- the row says that the note bears the tag
abbrev pub is_link : List ℕ → List ℕ → Row → Bool
is_link note tag r =
    let item = item_of r.content in
    has_kind note_tag_kind item
    && (has_value (codes "note_id") note item.props && has_value (codes "tag_id") tag item.props)

-- ---- what is made

-- a tag of that title and time, unless there is one
abbrev pub tag_changes : List ℕ → List ℕ → ℕ → Option Row → List Change
tag_changes id title now None = Saved id (tag id title now) ∷ []
tag_changes id title now (Some r) = []

-- the id of the tag that is there, or else of the new one
abbrev pub tag_id : List ℕ → Option Row → List ℕ
tag_id id None = id
tag_id id (Some r) = r.id

-- the note bears the tag, unless it does already
abbrev pub link_changes : List Row → List ℕ → List ℕ → List ℕ → ℕ → List Change
link_changes rows id note tag now =
    if list_any (is_link note tag) rows then [] else Saved id (note_tag id note tag now) ∷ []

-- the first readable tag of that title serves, or else a new one
abbrev pub all_changes : List Row → List ℕ → List ℕ → List ℕ → List ℕ → ℕ → Option Row → List Change
all_changes rows id link note title now found =
    tag_changes id title now found ++ link_changes rows link note (tag_id id found) now

abbrev pub tagged : Tables → List ℕ → List ℕ → List ℕ → List ℕ → ℕ → Result (List Change) StoreErr
tagged t id link note title now =
    if is_row_of note_kind (row_at t note)
    then Ok (all_changes t.rows id link note title now (find (is_tag_of title) t.rows))
    else Err (NotFound note)

-- ---- what is removed

-- the row goes, if it says that the note bears the tag
abbrev pub unlinking_one : List ℕ → List ℕ → Row → List Change
unlinking_one note tag r = if is_link note tag r then Removed r.id ∷ [] else []

-- each row goes that says so
abbrev pub unlinking : List ℕ → List ℕ → List Row → List Change
unlinking note tag rows = flat_map (unlinking_one note tag) rows
