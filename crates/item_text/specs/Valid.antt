-- Which items are valid: those that a text can hold.
use Rattle.std.specs.Prelude.{◌≡◌, ℕ, Bool, true, false, ◌&&◌, List, [], length, IfSome, IfNone, MatchOption, nat_le}
use Rattle.std.specs.Char.{is_ascii_digit}
use Rattle.std.specs.List.{list_all, AllByRecursion}
use Rattle.item_text.specs.declared.item.Item.{Item}
use Rattle.item_text.specs.declared.item.Prop.{Prop}
use Rattle.item_text.specs.Lines.{has, trimmed}
use Rattle.item_text.specs.Props.{type_key, value_of}

-- one to three decimal digits
unfoldable pub is_type_value : List ℕ → Bool
is_type_value value =
    nat_le 1 (length value) && nat_le (length value) 3 && list_all is_ascii_digit value

-- there is a `type_`, and its topmost value is one to three digits
abbrev pub HasType : List Prop → Type 0
HasType ps = MatchOption (value_of type_key ps) ⊥ (λ value. is_type_value value ≡ true)

-- trimmed, and on one line
pub record IsField (text : List ℕ) : Type 0 where
  pub one_line : has 10 text ≡ false
  pub is_trimmed : trimmed text ≡ text

-- key and value are fields, and the key has no colon
pub record IsProp (p : Prop) : Type 0 where
  pub key : IsField p.key
  pub no_colon : has 58 p.key ≡ false
  pub value : IsField p.value

-- the title is on one line; without a title there is no body; the pairs are valid, and one says the kind
pub record IsItem (item : Item) : Type 0 where
  pub title : IfSome item.title (λ title. has 10 title ≡ false)
  pub no_title : IfNone item.title (item.body ≡ [])
  pub props : AllByRecursion IsProp item.props
  pub typed : HasType item.props
