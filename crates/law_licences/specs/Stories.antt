-- Sessions that are written out, each of which obeys.
use Rattle.std.specs.Prelude.{ℕ, List, [], ◌∷◌, true, false, bytes_eq, codes, Option, Some, None}
use Rattle.item_text.specs.Grammar.{written}
use Rattle.item_text.specs.declared.item.Item.{Item}
use Rattle.item_text.specs.declared.item.Prop.{Prop}
use Rattle.jop_base.specs.declared.dir.Dir.TheVariants.{Root}
use Rattle.jop_base.specs.declared.path.Path.{Path}
use Rattle.jop_base.specs.declared.path.Path.TheVariants.{Item as ItemFile, Blob}
use Rattle.jop_target.specs.declared.call.Call.TheVariants.{List as ListDir, Get, Put, Delete, PutBlob}
use Rattle.jop_target.specs.declared.reply.Entry.{Entry}
use Rattle.jop_target.specs.declared.reply.Reply.{Reply}
use Rattle.jop_target.specs.declared.reply.Reply.TheVariants.{Listed, Got, Absent, Done}
use Rattle.local_store.specs.Tables.{new_tables}
use Rattle.local_store.specs.declared.change.Change.TheVariants.{Saved, Uploaded, Dropped, Taken, Conflict, Moved, Opened, ContextIs}
use Rattle.local_store.specs.declared.content.Content.TheVariants.{Plain, Sealed}
use Rattle.local_store.specs.declared.deletion.Deletion.{Deletion}
use Rattle.local_store.specs.declared.row.Row.{Row}
use Rattle.sync_info.specs.Info.{new_info}
use Rattle.law_licences.specs.Deeds.{Deed, Begins, Asks, Makes, Ends}
use Rattle.law_licences.specs.Sealing.{Sealing, no_keys}
use Rattle.law_licences.specs.Views.{View, at_rest}

-- ---- what there is

-- the id of a note, of a resource or of whatever else the session is about
abbrev pub it : List ℕ
it = codes "44444444444444444444444444444444"

-- the id of a folder
abbrev pub place : List ℕ
place = codes "55555555555555555555555555555555"

abbrev pub prop : List ℕ → List ℕ → Prop
prop key value = record { key = key; value = value }

-- a note in the folder
abbrev pub a_note : List ℕ → Item
a_note text = record {
  title = Some (codes "T");
  body = text;
  props =
      prop (codes "id") it ∷ prop (codes "parent_id") place ∷ prop (codes "type_") (codes "1") ∷ [];
}

abbrev pub a_folder : Item
a_folder = record {
  title = Some (codes "F");
  body = [];
  props = prop (codes "id") place ∷ prop (codes "type_") (codes "2") ∷ [];
}

abbrev pub a_resource : Item
a_resource = record {
  title = Some (codes "R");
  body = [];
  props = prop (codes "id") it ∷ prop (codes "type_") (codes "4") ∷ [];
}

-- an item that was saved here, over this base
abbrev pub edited : List ℕ → Item → Option (List ℕ) → Row
edited id item base = record { id = id; content = Plain item; base = base; pending = true }

-- an item as the target has it
abbrev pub synced : List ℕ → Item → List ℕ → Row
synced id item base =
    record { id = id; content = Plain item; base = Some base; pending = false }

-- a client with these rows, and with these files to be deleted
abbrev pub having : List Row → List Deletion → View
having rows deletions = at_rest no_keys (record new_tables { rows = rows; deletions = deletions })

-- my text, and that of another client
abbrev pub mine : Item
mine = a_note (codes "mine")

abbrev pub theirs : Item
theirs = a_note (codes "theirs")

-- the folder was edited here, and the note in it is as the target has it
abbrev pub folder_editor : View
folder_editor = having (synced it mine [] ∷ edited place a_folder (Some []) ∷ []) []

-- ---- what is done

abbrev pub gets : List ℕ → Reply → Deed
gets id reply = Asks (Get (ItemFile id)) (Some reply)

abbrev pub puts_item : List ℕ → List ℕ → Reply → Deed
puts_item id content reply = Asks (Put (ItemFile id) content) (Some reply)

abbrev pub deletes : Path → Reply → Deed
deletes path reply = Asks (Delete path) (Some reply)

abbrev pub puts_blob : List ℕ → Deed
puts_blob id = Asks (PutBlob id 5) (Some (Done 2))

-- a listing of the root that shows this item's file alone
abbrev pub lists : List ℕ → Deed
lists id =
    let shown : Entry = record { path = ItemFile id; stamp = 3 } in
    Asks (ListDir Root) (Some (Listed (record { now = 5; entries = shown ∷ [] })))

-- ---- sessions that obey

-- a new note is uploaded
abbrev pub an_upload : List Deed
an_upload =
    Makes (Saved it mine)
    ∷ Begins
    ∷ gets it (Absent 1)
    ∷ puts_item it (written mine) (Done 2)
    ∷ Makes (Uploaded it (written mine))
    ∷ Ends
    ∷ []

-- a resource was removed here, and is deleted there
abbrev pub a_deletion : List Deed
a_deletion =
    Begins
    ∷ deletes (ItemFile it) (Done 1)
    ∷ deletes (Blob it) (Absent 2)
    ∷ Makes (Dropped it)
    ∷ Ends
    ∷ []

-- a note was edited here and there, and mine becomes a conflict note
abbrev pub a_conflict : List Deed
a_conflict =
    Begins
    ∷ gets it (Got 1 (written theirs))
    ∷ Makes (Conflict it (Some (written theirs, Plain theirs)) true)
    ∷ Ends
    ∷ []

-- a folder was edited here and is gone there, and the note in it becomes a conflict note
abbrev pub a_loss : List Deed
a_loss =
    Begins
    ∷ gets place (Absent 1)
    ∷ Makes (Moved it)
    ∷ Makes (Conflict place None false)
    ∷ Ends
    ∷ []

-- a new note of another client is taken
abbrev pub a_page : List Deed
a_page =
    Begins
    ∷ lists it
    ∷ gets it (Got 6 (written theirs))
    ∷ Makes (Taken it (written theirs) (Plain theirs))
    ∷ Makes (ContextIs (record { moment = 3; seen = it ∷ [] }))
    ∷ Ends
    ∷ []

-- ---- with keys

-- a note that is sealed
abbrev pub a_sealed : Item
a_sealed = record {
  title = None;
  body = [];
  props =
      prop (codes "id") it
      ∷ prop (codes "encryption_applied") (codes "1")
      ∷ prop (codes "encryption_cipher_text") (codes "secret")
      ∷ prop (codes "type_") (codes "1")
      ∷ [];
}

-- keys that open every sealed item to this one, and seal every item as this text
abbrev pub keys_for : Item → List ℕ → Sealing
keys_for inner text = record {
  opens = λ item. Some inner;
  seals = λ item other. bytes_eq other text;
}

-- a client with these rows, whose session has these keys, and whose files are to be sealed
abbrev pub sealing_with : Sealing → List Row → View
sealing_with s rows = at_rest s (record new_tables {
  rows = rows;
  info = record (new_info 3) { e2ee = record { value = true; updated = 1 } };
})

-- a row as the target has it, which is sealed
abbrev pub locked : Row
locked = record {
  id = it;
  content = Sealed a_sealed;
  base = Some (written a_sealed);
  pending = false;
}

-- a new note is uploaded sealed
abbrev pub a_sealed_upload : List Deed
a_sealed_upload =
    Begins
    ∷ gets it (Absent 1)
    ∷ puts_item it (codes "sealed") (Done 2)
    ∷ Makes (Uploaded it (codes "sealed"))
    ∷ Ends
    ∷ []

-- a sealed note is taken, as the keys open it
abbrev pub a_sealed_conflict : List Deed
a_sealed_conflict =
    Begins
    ∷ gets it (Got 1 (written a_sealed))
    ∷ Makes (Conflict it (Some (written a_sealed, Plain theirs)) true)
    ∷ Ends
    ∷ []

-- a row that came sealed is opened
abbrev pub an_opening : List Deed
an_opening = Begins ∷ Makes (Opened it mine) ∷ Ends ∷ []
