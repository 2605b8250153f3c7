-- Sessions that are written out, each of which breaks a licence.
use Rattle.std.specs.Prelude.{ℕ, List, [], ◌∷◌, true, false, codes, Option, Some, None}
use Rattle.item_text.specs.Grammar.{written}
use Rattle.jop_base.specs.declared.path.Path.TheVariants.{Info as InfoFile, Item as ItemFile, Blob}
use Rattle.jop_target.specs.declared.call.Call.TheVariants.{Get, Put}
use Rattle.jop_target.specs.declared.reply.Reply.TheVariants.{Got, Absent, Done, Failed}
use Rattle.local_store.specs.Tables.{new_tables}
use Rattle.local_store.specs.declared.change.Change.TheVariants.{Saved, Uploaded, Dropped, Taken, Conflict, Moved, Gone, Opened, InfoIs, ContextIs}
use Rattle.local_store.specs.declared.content.Content.TheVariants.{Plain, Sealed}
use Rattle.sync_info.specs.Info.{new_info}
use Rattle.sync_info.specs.Json.{info_text}
use Rattle.law_licences.specs.Deeds.{Deed, Begins, Asks, Makes, Ends, Stops}
use Rattle.law_licences.specs.Licences.{ObeysData}
use Rattle.law_licences.specs.Stories.{it, place, mine, theirs, a_resource, a_sealed, keys_for, locked, edited, synced, having, gets, puts_item, deletes, puts_blob, lists}
use Rattle.law_licences.specs.Sealing.{Sealing, no_keys}
use Rattle.law_licences.specs.Views.{View, at_rest}

-- not each call and change of these has its licence
abbrev pub Breaks : View → List Deed → Type 0
Breaks v ds = ObeysData v ds → ⊥

-- ---- clients

-- has edited a note over this base
abbrev pub editor : Option (List ℕ) → View
editor base = having (edited it mine base ∷ []) []

-- has a note as the target has it
abbrev pub reader : View
reader = having (synced it mine (written mine) ∷ []) []

-- has a new note, and wants its files sealed
abbrev pub sealer : View
sealer = at_rest no_keys (record new_tables {
  rows = edited it mine None ∷ [];
  info = record (new_info 3) { e2ee = record { value = true; updated = 1 } };
})

-- ---- puts

abbrev pub puts_mine : Deed
puts_mine = puts_item it (written mine) (Done 2)

-- without a check
abbrev pub put_unchecked : List Deed
put_unchecked = Begins ∷ puts_mine ∷ []

-- over a file that isn't the base any more
abbrev pub put_over_another : List Deed
put_over_another = Begins ∷ gets it (Got 1 (codes "another")) ∷ puts_mine ∷ []

-- with a check, of a file that was deleted since
abbrev pub put_over_nothing : List Deed
put_over_nothing = Begins ∷ gets it (Absent 1) ∷ puts_mine ∷ []

-- behind a check that failed
abbrev pub put_after_failure : List Deed
put_after_failure = Begins ∷ gets it (Absent 1) ∷ gets it Failed ∷ puts_mine ∷ []

-- behind a check that wasn't heard
abbrev pub put_unheard : List Deed
put_unheard =
    Begins ∷ gets it (Absent 1) ∷ Asks (Get (ItemFile it)) None ∷ puts_mine ∷ []

-- by a check of an earlier session
abbrev pub put_in_next_session : List Deed
put_in_next_session = Begins ∷ gets it (Absent 1) ∷ Ends ∷ Begins ∷ puts_mine ∷ []

-- by a check before the program was stopped
abbrev pub put_after_stop : List Deed
put_after_stop = Begins ∷ gets it (Absent 1) ∷ Stops ∷ Begins ∷ puts_mine ∷ []

-- twice by one check
abbrev pub put_twice : List Deed
put_twice = Begins ∷ gets it (Absent 1) ∷ puts_mine ∷ puts_mine ∷ []

-- of another text than the row's
abbrev pub put_of_another_text : List Deed
put_of_another_text = Begins ∷ gets it (Absent 1) ∷ puts_item it [] (Done 2) ∷ []

-- the check and the put are in order, but for the row or the info
abbrev pub put_after_check : List Deed
put_after_check = Begins ∷ gets it (Absent 1) ∷ puts_mine ∷ []

-- of a row without a change
abbrev pub put_of_unchanged : List Deed
put_of_unchanged = Begins ∷ gets it (Got 1 (written mine)) ∷ puts_mine ∷ []

-- in no session
abbrev pub put_outside : List Deed
put_outside = puts_mine ∷ []

-- ---- uploads

-- of a put that failed, though it may have landed
abbrev pub upload_failed : List Deed
upload_failed =
    Begins ∷ gets it (Absent 1) ∷ puts_item it (written mine) Failed
    ∷ Makes (Uploaded it (written mine)) ∷ []

-- of nothing that was put
abbrev pub upload_unput : List Deed
upload_unput = Begins ∷ gets it (Absent 1) ∷ Makes (Uploaded it (written mine)) ∷ []

-- of other bytes than were put
abbrev pub upload_of_others : List Deed
upload_of_others = Begins ∷ gets it (Absent 1) ∷ puts_mine ∷ Makes (Uploaded it []) ∷ []

-- the bytes of a resource are put behind its item, of one that has a base, or of a note
abbrev pub blob_behind : List Deed
blob_behind =
    Begins ∷ gets it (Absent 1) ∷ puts_item it (written a_resource) (Done 2) ∷ puts_blob it ∷ []

abbrev pub blob_at_once : List Deed
blob_at_once = Begins ∷ puts_blob it ∷ []

-- ---- conflicts

-- the note's own text is lost
abbrev pub conflict_without_copy : List Deed
conflict_without_copy =
    Begins ∷ gets it (Got 1 (written theirs))
    ∷ Makes (Conflict it (Some (written theirs, Plain theirs)) false) ∷ []

-- with an equal text, which becomes a conflict note all the same
abbrev pub conflict_with_needless_copy : List Deed
conflict_with_needless_copy =
    Begins ∷ gets it (Got 1 (written mine))
    ∷ Makes (Conflict it (Some (written mine, Plain mine)) true) ∷ []

-- with the file that the client left itself
abbrev pub conflict_with_base : List Deed
conflict_with_base =
    Begins ∷ gets it (Got 1 (written theirs))
    ∷ Makes (Conflict it (Some (written theirs, Plain theirs)) true) ∷ []

-- as if the file were gone
abbrev pub conflict_as_if_gone : List Deed
conflict_as_if_gone =
    Begins ∷ gets it (Got 1 (written theirs)) ∷ Makes (Conflict it None true) ∷ []

-- of a new note whose file was never there
abbrev pub conflict_of_new : List Deed
conflict_of_new = Begins ∷ gets it (Absent 1) ∷ Makes (Conflict it None true) ∷ []

-- ---- the page

-- a file is taken that no listing has shown
abbrev pub take_unlisted : List Deed
take_unlisted =
    Begins ∷ gets it (Got 6 (written theirs))
    ∷ Makes (Taken it (written theirs) (Plain theirs)) ∷ []

-- a file is taken that wasn't got, or over a change
abbrev pub take_unread : List Deed
take_unread = Begins ∷ lists it ∷ Makes (Taken it (written theirs) (Plain theirs)) ∷ []

abbrev pub take_at_once : List Deed
take_at_once =
    Begins ∷ lists it ∷ gets it (Got 6 (written theirs))
    ∷ Makes (Taken it (written theirs) (Plain theirs)) ∷ []

-- a row goes that no listing lacks
abbrev pub go_unlisted : List Deed
go_unlisted = Begins ∷ Makes (Gone it) ∷ []

-- a row with a change goes
abbrev pub go_at_once : List Deed
go_at_once = Begins ∷ lists place ∷ Makes (Gone it) ∷ []

-- a note leaves a folder that is still there
abbrev pub move_for_nothing : List Deed
move_for_nothing = Begins ∷ Makes (Moved it) ∷ []

-- the page is read that wasn't listed
abbrev pub finish_unlisted : List Deed
finish_unlisted = Begins ∷ Makes (ContextIs (record { moment = 3; seen = [] })) ∷ []

-- a session goes on with its changes when it has read its page
abbrev pub change_behind_page : List Deed
change_behind_page =
    Begins ∷ lists place ∷ Makes (ContextIs (record { moment = 3; seen = place ∷ [] }))
    ∷ Makes (Gone it) ∷ []

-- ---- deletions

-- a file is deleted that was never removed here
abbrev pub delete_for_nothing : List Deed
delete_for_nothing = Begins ∷ deletes (ItemFile it) (Done 1) ∷ []

-- the bytes of what was no resource
abbrev pub delete_blob : List Deed
delete_blob = Begins ∷ deletes (Blob it) (Done 1) ∷ []

-- a deletion is dropped before it is done, or whose delete failed
abbrev pub drop_undone : List Deed
drop_undone = Begins ∷ Makes (Dropped it) ∷ []

abbrev pub drop_failed : List Deed
drop_failed = Begins ∷ deletes (ItemFile it) Failed ∷ Makes (Dropped it) ∷ []

-- a resource's, whose bytes still stand
abbrev pub drop_half : List Deed
drop_half = Begins ∷ deletes (ItemFile it) (Done 1) ∷ Makes (Dropped it) ∷ []

-- ---- infos and others

-- an info is put, or made the client's own, that isn't a merge with one that was read
abbrev pub puts_info : List Deed
puts_info = Begins ∷ Asks (Put InfoFile (info_text (new_info 3))) (Some (Done 1)) ∷ []

abbrev pub sets_info : List Deed
sets_info = Begins ∷ Makes (InfoIs (new_info 3)) ∷ []

-- a row is opened without a key
abbrev pub opens : List Deed
opens = Begins ∷ Makes (Opened it mine) ∷ []

-- the user's change stands in a session, or a session's change in none
abbrev pub save_inside : List Deed
save_inside = Begins ∷ Makes (Saved it mine) ∷ []

abbrev pub gone_outside : List Deed
gone_outside = Makes (Gone it) ∷ []

-- ---- with keys

-- keys that open every sealed item to mine, and seal every item as one text
abbrev pub my_keys : Sealing
my_keys = keys_for mine (codes "sealed")

-- has a note that came sealed
abbrev pub opener : View
opener = at_rest my_keys (record new_tables { rows = locked ∷ [] })

-- a sealed note gives its place as if it couldn't be opened
abbrev pub conflict_unopened : List Deed
conflict_unopened =
    Begins
    ∷ gets it (Got 1 (written a_sealed))
    ∷ Makes (Conflict it (Some (written a_sealed, Sealed a_sealed)) true)
    ∷ []

-- a row is opened to another item than the keys give
abbrev pub opens_to_another : List Deed
opens_to_another = Begins ∷ Makes (Opened it theirs) ∷ []
