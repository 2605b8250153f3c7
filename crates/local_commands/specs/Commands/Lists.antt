-- `ls`, `tags`, `resources`, `find` and `trash`: lists of rows, each with its id and its title.
use Rattle.std.specs.Prelude.{ℕ, ◌≡◌, List, [], ◌∷◌, ◌++◌, Bool, false, not, ◌&&◌, ◌||◌, bytes_eq, codes, if◌then◌else◌, Option, Some, None, Ok}
use Rattle.std.specs.List.{flat_map, list_any}
use Rattle.item_text.specs.Props.{has_value, value_of}
use Rattle.item_text.specs.declared.item.Item.{Item}
use Rattle.local_changes.specs.Amending.{is_entry}
use Rattle.local_changes.specs.Lookup.{folder_kind, is_row_of, note_kind, note_tag_kind, tag_kind}
use Rattle.local_store.specs.Rows.{item_of, has_kind}
use Rattle.local_store.specs.Tables.{row_at}
use Rattle.local_store.specs.declared.content.Content.{Content}
use Rattle.local_store.specs.declared.content.Content.TheVariants as contents
use Rattle.local_store.specs.declared.row.Row.{Row}
use Rattle.local_store.specs.declared.tables.Tables.{Tables}
use Rattle.law_licences.specs.Copies.{title_or_empty}
use Rattle.local_commands.specs.declared.command.listing.Listing.{Listing}
use Rattle.local_commands.specs.declared.command.listing.Listing.TheVariants as lists
use Rattle.local_commands.specs.declared.local_err.LocalErr.{LocalErr}
use Rattle.local_commands.specs.declared.local_err.LocalErr.TheVariants.{NotFound}
use Rattle.local_commands.specs.Books.{ChecksBook}
use Rattle.local_commands.specs.Finding.{has_part}
use Rattle.local_commands.specs.Running.{Plan, of_tables, only_text}

-- ---- what is printed

-- that of a sealed item isn't known
abbrev pub label : Content → List ℕ
label (contents.Plain item) = title_or_empty item
label (contents.Sealed item) = codes "(sealed)"

-- the id, a space, the title, and a line feed
abbrev pub row_line : Row → List ℕ
row_line r = r.id ++ 32 ∷ (label r.content ++ 10 ∷ [])

-- ---- what is listed

-- the note that an item says bears a tag, if it says which
abbrev pub bearer_in : Option (List ℕ) → List (List ℕ)
bearer_in None = []
bearer_in (Some note) = note ∷ []

-- the note that the item says bears the tag
abbrev pub bearer : List ℕ → Item → List (List ℕ)
bearer tag item =
    if has_kind note_tag_kind item && has_value (codes "tag_id") tag item.props
    then bearer_in (value_of (codes "note_id") item.props) else []

-- the notes that rows say bear the tag
abbrev pub bearers : List ℕ → List Row → List (List ℕ)
bearers tag rows = flat_map (λ r. bearer tag (item_of r.content)) rows

-- the title or the text has this part
abbrev pub has_words : List ℕ → Item → Bool
has_words part item = has_part part (title_or_empty item) || has_part part item.body

-- a readable note with this part
abbrev pub is_found : List ℕ → Content → Bool
is_found part (contents.Plain item) = has_kind note_kind item && has_words part item
is_found part (contents.Sealed item) = false

abbrev pub is_plain_tag : Content → Bool
is_plain_tag (contents.Plain item) = has_kind tag_kind item
is_plain_tag (contents.Sealed item) = false

-- a time at which something was put into the wastebasket; 0 and nothing are none
abbrev pub is_time_of_trash : Option (List ℕ) → Bool
is_time_of_trash None = false
is_time_of_trash (Some time) = not (bytes_eq time []) && not (bytes_eq time (codes "0"))

abbrev pub is_in_trash : Item → Bool
is_in_trash item = is_time_of_trash (value_of (codes "deleted_time") item.props)

-- the notes that bear the tag, if the list is of such
abbrev pub notes_of : Listing → List Row → List (List ℕ)
notes_of (lists.NotesWith tag) rows = bearers tag rows
notes_of which rows = []

-- a row for each list: what it has, the notes that bear its tag being these
abbrev pub is_listed : List (List ℕ) → Listing → Row → Bool
is_listed notes lists.Books r = has_kind folder_kind (item_of r.content)
is_listed notes (lists.Found part) r = is_found part r.content
is_listed notes (lists.NotesIn book) r =
    has_kind note_kind (item_of r.content)
    && has_value (codes "parent_id") book (item_of r.content).props
is_listed notes (lists.NotesWith tag) r =
    has_kind note_kind (item_of r.content) && list_any (λ note. bytes_eq note r.id) notes
is_listed notes lists.Resources r = has_kind (record { 0 = 4 }) (item_of r.content)
is_listed notes lists.Tags r = is_plain_tag r.content
is_listed notes lists.Trash r = is_entry (item_of r.content) && is_in_trash (item_of r.content)

abbrev pub line_if_listed : List (List ℕ) → Listing → Row → List ℕ
line_if_listed notes which r = if is_listed notes which r then row_line r else []

abbrev pub list_lines : List (List ℕ) → Listing → List Row → List ℕ
list_lines notes which rows = flat_map (line_if_listed notes which) rows

-- a line for each of them, in the order of the rows
abbrev pub listing : Listing → List Row → List ℕ
listing which rows = list_lines (notes_of which rows) which rows

-- ---- the commands

-- what `ls` lists: the notebooks, or the notes in one
abbrev pub listed_by : Option (List ℕ) → Listing
listed_by None = lists.Books
listed_by (Some book) = lists.NotesIn book

-- a tag that is asked for has to be there
abbrev pub ChecksTag : List ℕ → Option Row → Option LocalErr → Type 0
ChecksTag tag row refusal =
    refusal ≡ (if is_row_of tag_kind row then None else Some (NotFound tag))

-- what each list asks of the tables
abbrev pub ChecksList : Listing → Tables → Option LocalErr → Type 0
ChecksList (lists.NotesIn book) t refusal = ChecksBook t (Some book) refusal
ChecksList (lists.NotesWith tag) t refusal = ChecksTag tag (row_at t tag) refusal
ChecksList which t refusal = refusal ≡ None

abbrev pub list_plan : Listing → Plan
list_plan which = of_tables
    (λ t refusal. ChecksList which t refusal)
    (λ t made. made ≡ Ok (only_text (listing which t.rows)))
