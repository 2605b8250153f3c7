-- Notebooks in each other.
use Rattle.std.specs.Prelude.{ℕ, zero, suc, ◌-◌, ◌<◌, ◌≡◌, List, Bool, true, false, bytes_eq, if◌then◌else◌, Option, Some, None}
use Rattle.std.proofs.Common.{refl, ap, arith}
use Rattle.item_kinds.specs.Kinds.{GivesId}
use Rattle.item_text.specs.Props.{value_of}
use Rattle.item_text.specs.declared.item.Prop.{Prop}
use Rattle.jop_base.proofs.IdLaws.{IsIdText-from_is_id, is_id-from_IsIdText}
use Rattle.jop_base.specs.Id.{IsIdText, is_id}
use Rattle.local_store.specs.Tables.{row_at}
use Rattle.local_store.specs.declared.tables.Tables.{Tables}
use Rattle.local_commands.specs.Books.{spelt_id, is_within, parent_at}

no_id : (value : Option (List ℕ)) → ((id : List ℕ) → IsIdText id → ¬ (value ≡ Some id))
    → None ≡ spelt_id value
no_id None none = refl
no_id (Some text) none = by (is_id text) refl where
  by : (b : Bool) → is_id text ≡ b → None ≡ (if is_id text then Some text else None)
  by true is = absurd (none text (IsIdText-from_is_id text is) refl)
  by false is = rw is refl

-- what a value gives is the id that it spells
pub id_given : (key : List ℕ) (props : List Prop) (given : Option (List ℕ)) → GivesId key props given
    → given ≡ spelt_id (value_of key props)
id_given key props None none = no_id (value_of key props) none
id_given key props (Some id) gives =
    rw gives.0 (rw (is_id-from_IsIdText id gives.1) refl)

-- one step up
pub within_above : (left : ℕ) (t : Tables) (id book parent : List ℕ) → 0 < left
    → bytes_eq book id ≡ false → parent_at (row_at t book) ≡ Some parent
    → is_within left t id book ≡ is_within (left - 1) t id parent
within_above zero t id book parent some other above = absurd (omega (arith, some))
within_above (suc left) t id book parent some other above =
    let step : left ≡ suc left - 1 = omega arith in
    rw other (rw above (ap (λ (n : ℕ). is_within n t id parent) step))
