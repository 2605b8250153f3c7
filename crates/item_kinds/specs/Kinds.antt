-- What the pairs of an item say. Of a repeated key the topmost pair counts.
use Rattle.std.specs.Prelude.{◌≡◌, ℕ, Bool, false, nat_eq, List, Option, Some, None, MatchOption, ◌⊎◌, if◌then◌else◌, codes, option_and_then}
use Rattle.std.specs.Str.Parse.{digits_value}
use Rattle.jop_base.specs.Id.{IsIdText}
use Rattle.item_text.specs.declared.item.Prop.{Prop}
use Rattle.item_text.specs.Props.{type_key, value_of}
use Rattle.item_text.specs.Valid.{is_type_value}
use Rattle.item_kinds.specs.declared.kind.Kind.{Kind}
use Rattle.item_kinds.specs.Times.{IsTime}

-- the number that one to three digits write
abbrev pub type_number : List ℕ → Option ℕ
type_number value = if is_type_value value then Some (digits_value 10 value) else None

-- whether it is there, and is this number
abbrev pub is_number : ℕ → Option ℕ → Bool
is_number number None = false
is_number number (Some found) = nat_eq found number

-- the number of the kind is that of the `type_`
abbrev pub IsKind : List Prop → Option Kind → Type 0
IsKind props (Some kind) = option_and_then type_number (value_of type_key props) ≡ Some kind.0
IsKind props None = option_and_then type_number (value_of type_key props) ≡ None

-- the id that the key's value spells, or none if it spells none
abbrev pub GivesId : List ℕ → List Prop → Option (List ℕ) → Type 0
GivesId key props (Some id) = (value_of key props ≡ Some id) × IsIdText id
GivesId key props None = (id : List ℕ) → IsIdText id → ¬ (value_of key props ≡ Some id)

-- the time that the text gives, or 0 if it gives none
abbrev pub IsTimeOrZero : List ℕ → ℕ → Type 0
IsTimeOrZero text time = IsTime text time ⊎ ((time ≡ 0) × ((other : ℕ) → ¬ IsTime text other))

-- the time at which the item was last changed, or 0 if no pair gives it
abbrev pub IsUpdated : List Prop → ℕ → Type 0
IsUpdated props time =
    MatchOption (value_of (codes "updated_time") props) (time ≡ 0)
    (λ value. IsTimeOrZero value time)
