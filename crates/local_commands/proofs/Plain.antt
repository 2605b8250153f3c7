-- The readable item of a row.
use Rattle.std.specs.Prelude.{ℕ, ◌≡◌, List, Option, Some, None, Ok, refl}
use Rattle.std.proofs.Common.{subst}
use Rattle.item_text.specs.Valid.{IsItem}
use Rattle.item_text.specs.declared.item.Item.{Item}
use Rattle.local_store.specs.Sound.{IsContentOf, IsSound}
use Rattle.local_store.specs.Tables.{row_at}
use Rattle.local_store.specs.declared.content.Content.{Content}
use Rattle.local_store.specs.declared.content.Content.TheVariants.{Plain, Sealed as SealedContent}
use Rattle.local_store.specs.declared.row.Row.{Row}
use Rattle.local_store.specs.declared.tables.Tables.{Tables}
use Rattle.local_store.proofs.Keeping.{content_at}
use Rattle.local_commands.specs.Commands.Cat.{plain_at, readable_item}

plain_content : (id : List ℕ) (content : Content) (item : Item) → readable_item id content ≡ Ok item
    → content ≡ Plain item
plain_content id (Plain own) item is = cc
plain_content id (SealedContent own) item is = cc

-- the readable item of a row of sound tables is valid
pub plain_valid : (t : Tables) (id : List ℕ) (item : Item) → IsSound t
    → plain_at id (row_at t id) ≡ Ok item → IsItem item
plain_valid t id item sound is = by (row_at t id) refl is where
  by : (row : Option Row) → row_at t id ≡ row → plain_at id row ≡ Ok item → IsItem item
  by None there is = cc
  by (Some r) there is =
      let of : IsContentOf id (Plain item) =
      subst (λ (c : Content). IsContentOf id c) (plain_content id r.content item is)
      (content_at t id r sound there) in
      of.0.valid
