-- The licences of uploads.
use Rattle.std.specs.Prelude.{ℕ, ◌≡◌, List, [], ◌∷◌, Bool, true, false, ◌||◌, Option, Some, None}
use Rattle.item_text.specs.Grammar.{written}
use Rattle.item_text.specs.declared.item.Item.{Item as AnItem}
use Rattle.jop_base.specs.declared.path.Path.TheVariants.{Item}
use Rattle.jop_target.specs.declared.call.Call.{Call}
use Rattle.jop_target.specs.declared.call.Call.TheVariants.{Put}
use Rattle.jop_target.specs.declared.reply.Reply.{Reply}
use Rattle.jop_target.specs.declared.reply.Reply.TheVariants.{Done}
use Rattle.local_store.specs.Rows.{item_of}
use Rattle.local_store.specs.declared.row.Row.{Row}
use Rattle.law_licences.specs.Checks.{IsBase, IsPending, WasGot, is_file_of, last_on}
use Rattle.law_licences.specs.Infos.{info_read}
use Rattle.law_licences.specs.Items.{is_resource}
use Rattle.law_licences.specs.Sealing.{Sealing}
use Rattle.law_licences.specs.Views.{Heard, View}
use Rattle.sync_info.specs.Merge.{merged}
use Rattle.sync_info.specs.declared.info.Info.{Info}

-- whether files are sealed by this info, the client's own, or by the one that it makes with what was read
abbrev pub seals_by : Info → Option Info → Bool
seals_by info None = info.e2ee.value
seals_by info (Some remote) = info.e2ee.value || (merged info remote).e2ee.value

-- whether they are where its session has made these calls
abbrev pub seals_files : Info → List Heard → Bool
seals_files info calls = seals_by info (info_read calls)

-- files are put as they are
abbrev pub PutsPlain : Info → List Heard → Type 0
PutsPlain info calls = seals_files info calls ≡ false

-- a text that is put for an item: its own, or, where files are sealed, a sealed one
abbrev pub IsTextFor : Bool → Sealing → AnItem → List ℕ → Type 0
IsTextFor false s item content = content ≡ written item
IsTextFor true s item content = s.seals item content ≡ true

-- one for the row's item, sealed exactly where files are
abbrev pub IsPutText : View → Row → List ℕ → Type 0
IsPutText v row content =
    IsTextFor (seals_files v.tables.info v.calls) v.sealing (item_of row.content) content

-- an item is put that waits for it, over a file that is still as the client left it
pub record MayPut (v : View) (id content : List ℕ) : Type 0 where
  pub row : Row
  pub reply : Reply
  pub pending : IsPending v id row
  pub check : WasGot v id reply
  pub same : IsBase row.base reply
  pub text : IsPutText v row content

-- the item was uploaded as these bytes: the session's last call on its file put them, and that was done
pub record MayUpload (v : View) (id bytes : List ℕ) : Type 0 where
  pub now : ℕ
  pub put : last_on id v.calls
      ≡ Some (record { call = Put (Item id) bytes; reply = Some (Done now) })

abbrev pub puts : List ℕ → Call → Bool
puts id (Put path content) = is_file_of id path
puts id call = false

-- whether the item's file was put by one of these calls, as far as can be known
unfoldable pub has_put : List ℕ → List Heard → Bool
has_put id [] = false
has_put id (h ∷ hs) = puts id h.call || has_put id hs

-- the bytes of a new resource are put before its item
pub record MayPutBlob (v : View) (id : List ℕ) : Type 0 where
  pub row : Row
  pub pending : IsPending v id row
  pub resource : is_resource (item_of row.content) ≡ true
  pub new : row.base ≡ None
  pub before : has_put id v.calls ≡ false
