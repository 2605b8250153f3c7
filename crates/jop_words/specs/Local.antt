-- The words of the commands on this machine's own tables.
use Rattle.std.specs.Prelude.{ℕ, List, [], ◌∷◌, length, codes, bytes_eq, nat_le, Bool, not, ◌&&◌, if◌then◌else◌}
use Rattle.std.specs.Prelude.{Option, Some, None, option_map}
use Rattle.jop_base.specs.Decimals.{decimal_in}
use Rattle.item_text.specs.Lines.{has, trimmed}
use Rattle.local_commands.specs.declared.command.LocalCommand.{LocalCommand}
use Rattle.local_commands.specs.declared.command.LocalCommand.TheVariants.{Add, Attach, Cat, Clear, Conflicts, Edit, Find, Ls, Mkbook, Move, Rename, Resources, Rm, Show, Tag, Tagged, Tags, Trash, Untag}
use Rattle.local_commands.specs.declared.typed_id.TypedId.{TypedId}
use Rattle.local_commands.specs.TypedIds.{typed_id}

-- ---- single words

-- a title or a name: a word without a line feed or a carriage return
abbrev pub is_line : List ℕ → Bool
is_line word = not (has 10 word) && not (has 13 word)

abbrev pub line_in : List ℕ → Option (List ℕ)
line_in word = if is_line word then Some word else None

-- a type of content: such a word, without blanks at its ends
abbrev pub mime_in : List ℕ → Option (List ℕ)
mime_in word = if is_line word && bytes_eq (trimmed word) word then Some word else None

-- one to twenty decimal digits, of a number below 2^64
abbrev pub count_in : List ℕ → Option ℕ
count_in word = if nat_le (length word) 20 then decimal_in word else None

-- two parts, if both are there
abbrev pub both : {S T U : Type 0} → (S → T → U) → Option S → Option T → Option U
both make None second = None
both make (Some first) None = None
both make (Some first) (Some second) = Some (make first second)

-- ---- the words of each command

-- no words: the first one is all
abbrev pub local_alone : LocalCommand → List (List ℕ) → Option LocalCommand
local_alone command [] = Some command
local_alone command words = None

-- a notebook and a title
abbrev pub add_words : List (List ℕ) → Option LocalCommand
add_words (book ∷ title ∷ []) = both Add (typed_id book) (line_in title)
add_words words = None

-- a name and a type of content
abbrev pub attach_words : List (List ℕ) → Option LocalCommand
attach_words (name ∷ mime ∷ []) = both Attach (line_in name) (mime_in mime)
attach_words words = None

-- an id
abbrev pub cat_words : List (List ℕ) → Option LocalCommand
cat_words (id ∷ []) = option_map Cat (typed_id id)
cat_words words = None

-- nothing, or the number of a conflict note to clear, or to show
abbrev pub conflicts_words : List (List ℕ) → Option LocalCommand
conflicts_words [] = Some Conflicts
conflicts_words (option ∷ number ∷ []) =
    if bytes_eq option (codes "--clear") then option_map Clear (count_in number)
    else if bytes_eq option (codes "--show") then option_map Show (count_in number) else None
conflicts_words words = None

abbrev pub keeps_title : TypedId → LocalCommand
keeps_title id = Edit id None

abbrev pub edit_to : TypedId → List ℕ → LocalCommand
edit_to id title = Edit id (Some title)

-- an id, and another title if one is given
abbrev pub edit_words : List (List ℕ) → Option LocalCommand
edit_words (id ∷ []) = option_map keeps_title (typed_id id)
edit_words (id ∷ option ∷ title ∷ []) =
    if bytes_eq option (codes "--title") then both edit_to (typed_id id) (line_in title) else None
edit_words words = None

-- any text
abbrev pub find_words : List (List ℕ) → Option LocalCommand
find_words (part ∷ []) = Some (Find part)
find_words words = None

abbrev pub ls_in : TypedId → LocalCommand
ls_in book = Ls (Some book)

-- nothing, or a notebook, or a tag
abbrev pub ls_words : List (List ℕ) → Option LocalCommand
ls_words [] = Some (Ls None)
ls_words (book ∷ []) = option_map ls_in (typed_id book)
ls_words (option ∷ tag ∷ []) =
    if bytes_eq option (codes "--tag") then option_map Tagged (typed_id tag) else None
ls_words words = None

abbrev pub at_top : List ℕ → LocalCommand
at_top title = Mkbook title None

abbrev pub in_parent : List ℕ → TypedId → LocalCommand
in_parent title parent = Mkbook title (Some parent)

-- a title, and the notebook that it is to stand in if one is given
abbrev pub mkbook_words : List (List ℕ) → Option LocalCommand
mkbook_words (title ∷ []) = option_map at_top (line_in title)
mkbook_words (title ∷ option ∷ parent ∷ []) =
    if bytes_eq option (codes "--in") then both in_parent (line_in title) (typed_id parent) else None
mkbook_words words = None

-- an id and a notebook
abbrev pub move_words : List (List ℕ) → Option LocalCommand
move_words (id ∷ book ∷ []) = both Move (typed_id id) (typed_id book)
move_words words = None

-- an id and a title
abbrev pub rename_words : List (List ℕ) → Option LocalCommand
rename_words (id ∷ title ∷ []) = both Rename (typed_id id) (line_in title)
rename_words words = None

-- an id
abbrev pub rm_words : List (List ℕ) → Option LocalCommand
rm_words (id ∷ []) = option_map Rm (typed_id id)
rm_words words = None

-- a note and a title
abbrev pub tag_words : List (List ℕ) → Option LocalCommand
tag_words (note ∷ title ∷ []) = both Tag (typed_id note) (line_in title)
tag_words words = None

-- a note and a tag
abbrev pub untag_words : List (List ℕ) → Option LocalCommand
untag_words (note ∷ tag ∷ []) = both Untag (typed_id note) (typed_id tag)
untag_words words = None

-- a row for each: its first word, and what the others are
abbrev pub local_words : List ℕ → List (List ℕ) → Option LocalCommand
local_words word words =
    if bytes_eq word (codes "add") then add_words words
    else if bytes_eq word (codes "attach") then attach_words words
    else if bytes_eq word (codes "cat") then cat_words words
    else if bytes_eq word (codes "conflicts") then conflicts_words words
    else if bytes_eq word (codes "edit") then edit_words words
    else if bytes_eq word (codes "find") then find_words words
    else if bytes_eq word (codes "ls") then ls_words words
    else if bytes_eq word (codes "mkbook") then mkbook_words words
    else if bytes_eq word (codes "move") then move_words words
    else if bytes_eq word (codes "rename") then rename_words words
    else if bytes_eq word (codes "resources") then local_alone Resources words
    else if bytes_eq word (codes "rm") then rm_words words
    else if bytes_eq word (codes "tag") then tag_words words
    else if bytes_eq word (codes "tags") then local_alone Tags words
    else if bytes_eq word (codes "trash") then local_alone Trash words
    else if bytes_eq word (codes "untag") then untag_words words
    else None
