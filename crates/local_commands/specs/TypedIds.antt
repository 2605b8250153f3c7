-- An id as it is typed: whole, or its first digits, which stand for the one row whose id begins so.
use Rattle.std.specs.Prelude.{ℕ, List, [], ◌∷◌, length, nat_le, nat_eq, Bool, ◌&&◌, if◌then◌else◌, Option, Some, None, option_map, Result, Ok, Err}
use Rattle.std.specs.List.{filter, list_all, starts_with}
use Rattle.jop_base.specs.Id.{is_digit, is_id}
use Rattle.local_store.specs.declared.row.Row.{Row}
use Rattle.local_store.specs.declared.tables.Tables.{Tables}
use Rattle.local_commands.specs.declared.start_count.StartCount.{StartCount}
use Rattle.local_commands.specs.declared.typed_id.TypedId.{TypedId}
use Rattle.local_commands.specs.declared.typed_id.TypedId.TheVariants.{Whole, Start}

-- ---- what is typed

-- 4 to 31 digits
abbrev pub is_start : List ℕ → Bool
is_start text = nat_le 4 (length text) && nat_le (length text) 31 && list_all is_digit text

-- the first digits of an id that a text is
abbrev pub start_in : List ℕ → Option (List ℕ)
start_in text = if is_start text then Some text else None

-- the id that a text types
abbrev pub typed_id : List ℕ → Option TypedId
typed_id text =
    if is_id text then Some (Whole text) else option_map Start (start_in text)

-- ---- which id is meant

-- the rows whose ids begin so
abbrev pub rows_from : List ℕ → List Row → List Row
rows_from start rows = filter (λ (r : Row). starts_with nat_eq r.id start) rows

-- the id of the first of them
abbrev pub id_of_first : List Row → Option (List ℕ)
id_of_first [] = None
id_of_first (r ∷ rows) = Some r.id

-- the id of the one row that there is, or how many there are
abbrev pub only_id : List ℕ → List Row → Result (List ℕ) StartCount
only_id start (r ∷ []) = Ok r.id
only_id start rows = Err (record { start = start; count = length rows })

-- The id that is meant: the whole one that is typed, whether a row has it or not, or that of the one row
-- whose id begins so.
abbrev pub meant_id : Tables → TypedId → Result (List ℕ) StartCount
meant_id t (Whole id) = Ok id
meant_id t (Start start) = only_id start (rows_from start t.rows)

-- and that of an id that may be typed or not
abbrev pub some_id : Result (List ℕ) StartCount → Result (Option (List ℕ)) StartCount
some_id (Ok id) = Ok (Some id)
some_id (Err count) = Err count

abbrev pub meant_id_if : Tables → Option TypedId → Result (Option (List ℕ)) StartCount
meant_id_if t None = Ok None
meant_id_if t (Some typed) = some_id (meant_id t typed)
