-- The change that saves an item.
use Rattle.std.specs.Prelude.{ℕ, List, length, nat_le, if◌then◌else◌, Result, Ok, Err}
use Rattle.item_text.specs.Grammar.{written}
use Rattle.item_text.specs.declared.item.Item.{Item}
use Rattle.local_store.specs.declared.change.Change.{Change}
use Rattle.local_store.specs.declared.change.Change.TheVariants.{Saved}
use Rattle.local_changes.specs.declared.store_err.StoreErr.{StoreErr}
use Rattle.local_changes.specs.declared.store_err.StoreErr.TheVariants.{TooLarge}

-- the most bytes of the text of an item that is saved: 2 MiB
abbrev pub item_limit : ℕ
item_limit = 2097152

-- the item is saved, unless its text is too long
abbrev pub saved_within : List ℕ → Item → Result Change StoreErr
saved_within id item =
    let len = length (written item) in
    if nat_le len item_limit then Ok (Saved id item) else Err (TooLarge len)
