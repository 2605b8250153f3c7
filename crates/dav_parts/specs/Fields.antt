-- What the fields of a head say, as a list of names and values. Names have no case (RFC 9110, 5.1).
use Rattle.std.specs.Prelude.{◌≡◌, ℕ, ◌≤◌, Bool, List, [], ◌∷◌, map, length, if◌then◌else◌, bytes_eq}
use Rattle.std.specs.Char.{to_ascii_lowercase}
use Rattle.dav_parts.specs.declared.field.FieldValue.{FieldValue}
use Rattle.dav_parts.specs.declared.field.FieldValue.TheVariants.{Absent, Single, Repeated}

-- the names and values of a head's fields, in order
abbrev pub Fields : Type 0
Fields = List (List ℕ × List ℕ)

-- whether both are one name
abbrev pub is_same_name : List ℕ → List ℕ → Bool
is_same_name one other = bytes_eq (map to_ascii_lowercase one) (map to_ascii_lowercase other)

-- the values of the fields that have the name, in order
unfoldable pub values_of : List ℕ → List (List ℕ × List ℕ) → List (List ℕ)
values_of name [] = []
values_of name (field ∷ fields) =
    if is_same_name field.0 name then field.1 ∷ values_of name fields else values_of name fields

-- no value, this one alone, or more than one
abbrev pub AreValues : FieldValue → List (List ℕ) → Type 0
AreValues Absent values = values ≡ []
AreValues (Single value) values = values ≡ value.now ∷ []
AreValues Repeated values = 2 ≤ length values
