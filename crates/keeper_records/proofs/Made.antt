-- The writes of a change make it, and are sound.
use Rattle.std.specs.Prelude.{ℕ, ◌+◌, ◌-◌, ◌^◌, min, ◌≡◌, List, [], ◌∷◌, ◌++◌, All, Bool, true, false, if◌then◌else◌, Option, Some, None, option_and_then, option_map, refl}
use Rattle.std.proofs.Common.{sym, ◌∙◌, ap, subst}
use Rattle.std.proofs.lemmas.List.Elements.{All-cons, All-nil}
use Rattle.jop_base.specs.Keyed.{put}
use Rattle.item_text.specs.declared.item.Item.{Item}
use Rattle.item_text.specs.Valid.{IsItem}
use Rattle.local_store.specs.declared.change.Change.{Change}
use Rattle.local_store.specs.declared.change.Change.TheVariants.{Saved, Removed, Uploaded, Taken, Conflict, Moved, Opened, InfoIs}
use Rattle.local_store.specs.declared.content.Content.{Content}
use Rattle.local_store.specs.declared.content.Content.TheVariants.{Plain, Sealed}
use Rattle.local_store.specs.declared.deletion.Deletion.{Deletion}
use Rattle.local_store.specs.declared.row.Row.{Row}
use Rattle.local_store.specs.declared.tables.Tables.{Tables}
use Rattle.local_store.specs.Changing.{after, without_row, uploaded, conflicted, opened}
use Rattle.keeper.specs.Keepers.{Kept, changed}
use Rattle.local_store.specs.Rows.{deletion_id, item_of}
use Rattle.local_store.specs.Sound.{IsAllowed, IsContentOf, MayBePending, IsRemoteOf}
use Rattle.local_store.specs.Tables.{row_at, is_synced, is_resource_row}
use Rattle.keeper_records.specs.declared.write.Write.{Write}
use Rattle.keeper_records.specs.declared.write.Write.TheVariants.{DropRow, SetDeletion, AddConflict, SetNext}
use Rattle.keeper_records.specs.Making.{row_needed, needs_number, writes_of, upload_writes, remote_writes, note_writes, conflict_writes, open_writes}
use Rattle.keeper_records.specs.Stores.{IsSoundRowOf, IsSoundRowFor, IsRowFor, IsNumberFor}
use Rattle.keeper_records.specs.Writes.{after_writes, wrote, IsSoundWrite}

-- ---- the writes make the change

removing : (synced : Bool) (t : Tables) (id : List ℕ) (d : Deletion)
    → after_writes t ((if synced then SetDeletion d ∷ [] else []) ++ DropRow id ∷ [])
    ≡ record (without_row t id) { deletions = if synced then put deletion_id t.deletions d else t.deletions }
removing true t id d = refl
removing false t id d = refl

uploading : (t : Tables) (id bytes : List ℕ) (row : Option Row)
    → after_writes t (upload_writes id bytes row) ≡ uploaded t id bytes row
uploading t id bytes None = refl
uploading t id bytes (Some r) = refl

-- a conflict of a row that is there, whose note has the next number
noting : (t : Tables) (id : List ℕ) (remote : Option (List ℕ × Content)) (copies : Bool) (r : Row)
    → after_writes t (conflict_writes id remote copies (Some r) t.next_conflict)
    ≡ conflicted t id remote copies (Some r)
noting t id None true r = refl
noting t id None false r = refl
noting t id (Some remote) true r = refl
noting t id (Some remote) false r = refl

-- without a note the number doesn't matter
unnoted : (t : Tables) (id : List ℕ) (remote : Option (List ℕ × Content)) (r : Row) (number : ℕ)
    → after_writes t (conflict_writes id remote false (Some r) number)
    ≡ conflicted t id remote false (Some r)
unnoted t id None r number = refl
unnoted t id (Some remote) r number = refl

conflicting : (t : Tables) (id : List ℕ) (remote : Option (List ℕ × Content)) (copies : Bool)
    (row : Option Row) (number : ℕ) → (copies ≡ true → number ≡ t.next_conflict)
    → after_writes t (conflict_writes id remote copies row number)
    ≡ conflicted t id remote copies row
conflicting t id remote copies None number is = refl
conflicting t id remote true (Some r) number is =
    subst (λ (n : ℕ). after_writes t (conflict_writes id remote true (Some r) n)
    ≡ conflicted t id remote true (Some r)) (sym (is refl)) (noting t id remote true r)
conflicting t id remote false (Some r) number is = unnoted t id remote r number

opening : (t : Tables) (id : List ℕ) (item : Item) (row : Option Row)
    → after_writes t (open_writes id item row) ≡ opened t id item row
opening t id item None = refl
opening t id item (Some r) = refl

pub writes_make : (t : Tables) (change : Change) (number : ℕ)
    → (needs_number change ≡ true → number ≡ t.next_conflict)
    → after_writes t (writes_of change (option_and_then (row_at t) (row_needed change)) number)
    ≡ after t change
writes_make t (Removed id) number is =
    removing (is_synced (row_at t id)) t id
    (record { id = id; resource = is_resource_row (row_at t id) })
writes_make t (Uploaded id bytes) number is = uploading t id bytes (row_at t id)
writes_make t (Conflict id remote copies) number is =
    conflicting t id remote copies (row_at t id) number is
writes_make t (Moved id) number is = conflicting t id None true (row_at t id) number is
writes_make t (Opened id item) number is = opening t id item (row_at t id)
writes_make t change number is = refl

-- what is kept after the writes of a change is what is kept after the change
pub kept_is_changed : (kept : Option Kept) (change : Change) (row : Option Row) (number : ℕ)
    → IsRowFor kept change row → IsNumberFor kept change number
    → option_map (wrote (writes_of change row number)) kept ≡ option_map (changed change) kept
kept_is_changed None change row number of next = refl
kept_is_changed (Some k) change row number of next =
    ap (λ t. Some (record k { tables = t }))
    (ap (λ r. after_writes k.tables (writes_of change r number)) of ∙ writes_make k.tables change number next)

-- ---- the writes are sound

not_pending : (content : Content) → MayBePending content false
not_pending (Plain item) = tt
not_pending (Sealed item) = refl

valid_item : (id : List ℕ) (content : Content) → IsContentOf id content → IsItem (item_of content)
valid_item id (Plain item) of = of.0.valid
valid_item id (Sealed item) of = of.0.valid

alone : (w : Write) → IsSoundWrite w → All IsSoundWrite (w ∷ [])
alone w is = All-cons IsSoundWrite w [] is (All-nil IsSoundWrite)

content_for : (id : List ℕ) (r : Row) → IsSoundRowOf id (Some r) → IsContentOf id r.content
content_for id r sound = subst (λ (k : List ℕ). IsContentOf k r.content) sound.0 sound.1.content

removal_sound : (synced : Bool) (id : List ℕ) (d : Deletion)
    → All IsSoundWrite ((if synced then SetDeletion d ∷ [] else []) ++ DropRow id ∷ [])
removal_sound true id d = All-cons IsSoundWrite (SetDeletion d) (DropRow id ∷ []) tt (alone (DropRow id) tt)
removal_sound false id d = alone (DropRow id) tt

upload_sound : (id bytes : List ℕ) (row : Option Row) → IsSoundRowOf id row
    → All IsSoundWrite (upload_writes id bytes row)
upload_sound id bytes None sound = All-nil IsSoundWrite
upload_sound id bytes (Some r) sound =
    alone _ (record { content = content_for id r sound; pending = not_pending r.content })

remote_sound : (id : List ℕ) (remote : Option (List ℕ × Content)) → IsRemoteOf id remote
    → All IsSoundWrite (remote_writes id remote)
remote_sound id None of = alone (DropRow id) tt
remote_sound id (Some remote) of = alone _ (record { content = of; pending = not_pending remote.1 })

note_sound : (copies : Bool) (id : List ℕ) (item : Item) (number : ℕ) (ws : List Write) → IsItem item
    → All IsSoundWrite ws
    → All IsSoundWrite ((if copies then note_writes id item number else []) ++ ws)
note_sound true id item number ws valid all =
    let next : Write = SetNext (min (number + 1) (2 ^ 64 - 1)) in
    All-cons IsSoundWrite (AddConflict (record { number = number; note = id; item = item })) (next ∷ ws)
    valid (All-cons IsSoundWrite next ws tt all)
note_sound false id item number ws valid all = all

conflict_sound : (id : List ℕ) (remote : Option (List ℕ × Content)) (copies : Bool) (row : Option Row)
    (number : ℕ) → IsRemoteOf id remote → IsSoundRowOf id row
    → All IsSoundWrite (conflict_writes id remote copies row number)
conflict_sound id remote copies None number of sound = All-nil IsSoundWrite
conflict_sound id remote copies (Some r) number of sound =
    note_sound copies id (item_of r.content) number (remote_writes id remote)
    (valid_item id r.content (content_for id r sound)) (remote_sound id remote of)

open_sound : (id : List ℕ) (item : Item) (row : Option Row) → IsContentOf id (Plain item)
    → All IsSoundWrite (open_writes id item row)
open_sound id item None of = All-nil IsSoundWrite
open_sound id item (Some r) of = alone _ (record { content = of; pending = tt })

pub writes_are_sound : (change : Change) (row : Option Row) (number : ℕ) → IsAllowed change
    → IsSoundRowFor (row_needed change) row → All IsSoundWrite (writes_of change row number)
writes_are_sound (Saved id item) row number allowed sound =
    alone _ (record { content = allowed; pending = tt })
writes_are_sound (Removed id) row number allowed sound =
    removal_sound (is_synced row) id (record { id = id; resource = is_resource_row row })
writes_are_sound (Uploaded id bytes) row number allowed sound = upload_sound id bytes row sound
writes_are_sound (Taken id bytes content) row number allowed sound =
    alone _ (record { content = allowed; pending = not_pending content })
writes_are_sound (Conflict id remote copies) row number allowed sound =
    conflict_sound id remote copies row number allowed sound
writes_are_sound (Moved id) row number allowed sound =
    conflict_sound id None true row number tt sound
writes_are_sound (Opened id item) row number allowed sound = open_sound id item row allowed
writes_are_sound (InfoIs info) row number allowed sound = alone _ allowed
writes_are_sound change row number allowed sound = alone _ tt
