-- `cat`: the text of an item.
use Rattle.std.specs.Prelude.{ℕ, ◌≡◌, List, Option, Some, None, Result, Ok, Err}
use Rattle.std.specs.Borrow.{Bor}
use Rattle.item_text.specs.Grammar.{written}
use Rattle.item_text.specs.declared.item.Item.{Item}
use Rattle.local_store.specs.Tables.{row_at}
use Rattle.local_store.specs.declared.content.Content.{Content}
use Rattle.local_store.specs.declared.content.Content.TheVariants as contents
use Rattle.local_store.specs.declared.row.Row.{Row}
use Rattle.local_commands.specs.declared.local_err.LocalErr.TheVariants as errors
use Rattle.local_commands.specs.declared.work.Work.{Work}
use Rattle.local_commands.specs.declared.local_err.LocalErr.{LocalErr}
use Rattle.local_commands.specs.Running.{Plan, of_tables, only_text}

-- the item, if it is readable
abbrev pub readable_item : List ℕ → Content → Result Item LocalErr
readable_item id (contents.Plain item) = Ok item
readable_item id (contents.Sealed item) = Err (errors.Sealed id)

-- the readable item of a row
abbrev pub plain_at : List ℕ → Option Row → Result Item LocalErr
plain_at id None = Err (errors.NotFound id)
plain_at id (Some r) = readable_item id r.content

-- the item is lent, or the refusal is this one
abbrev pub IsLent : Result Item LocalErr → Result (Bor Item) LocalErr → Type 0
IsLent due (Ok item) = due ≡ Ok item.now
IsLent due (Err e) = due ≡ Err e

-- ---- the command

-- why an item can't be read, if it can't
abbrev pub why_not : Result Item LocalErr → Option LocalErr
why_not (Ok item) = None
why_not (Err e) = Some e

-- a readable item is wanted
abbrev pub ChecksItem : List ℕ → Option Row → Option LocalErr → Type 0
ChecksItem id row refusal = refusal ≡ why_not (plain_at id row)

-- the text of the item, with nothing added
abbrev pub MakesText : Result Item LocalErr → Result Work LocalErr → Type 0
MakesText (Ok item) made = made ≡ Ok (only_text (written item))
MakesText (Err e) made = ⊥

abbrev pub cat_plan : List ℕ → Plan
cat_plan id = of_tables
    (λ t refusal. ChecksItem id (row_at t id) refusal)
    (λ t made. MakesText (plain_at id (row_at t id)) made)
