-- What rows say.
use Rattle.std.specs.Prelude.{Bool, false, Option, Some, None}
use Rattle.item_kinds.specs.declared.kind.Kind.{Kind}
use Rattle.local_store.specs.declared.row.Row.{Row}
use Rattle.local_store.specs.Rows.{item_of, has_kind}

-- the kinds by their numbers
abbrev pub note_kind : Kind
note_kind = record { 0 = 1 }

abbrev pub folder_kind : Kind
folder_kind = record { 0 = 2 }

abbrev pub tag_kind : Kind
tag_kind = record { 0 = 5 }

abbrev pub note_tag_kind : Kind
note_tag_kind = record { 0 = 6 }

-- whether the row is there and of this kind
abbrev pub is_row_of : Kind → Option Row → Bool
is_row_of kind None = false
is_row_of kind (Some r) = has_kind kind (item_of r.content)
