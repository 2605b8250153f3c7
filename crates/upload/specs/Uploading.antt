-- Items that wait are uploaded, or give way to the work of other clients.
use Rattle.std.specs.Prelude.{ℕ, ◌⊎◌, List, length, map, filter, Bool, true, false, ◌&&◌, is_none, Option, Some, None, option_map, Result}
use Rattle.conflicts.specs.Rules.{conflict_change, folder_gone_changes}
use Rattle.item_text.specs.Grammar.{written}
use Rattle.jop_base.specs.Keyed.{at}
use Rattle.jop_base.specs.declared.path.Path.TheVariants.{Item}
use Rattle.jop_target.specs.declared.call.Call.{Call}
use Rattle.jop_target.specs.declared.call.Call.TheVariants.{Get, Put, GetBlob, PutBlob}
use Rattle.jop_target.specs.declared.reply.Reply.{Reply}
use Rattle.jop_target.specs.declared.reply.Reply.TheVariants.{Done}
use Rattle.law_licences.specs.Items.{is_folder, is_resource}
use Rattle.keeper.specs.Keepers.{Kept, blob_id}
use Rattle.local_store.specs.Rows.{item_of, row_id}
use Rattle.local_store.specs.Tables.{row_at}
use Rattle.keeper.specs.declared.blob.Blob.{Blob}
use Rattle.local_store.specs.declared.change.Change.TheVariants.{Uploaded}
use Rattle.local_store.specs.declared.content.Content.{Content}
use Rattle.local_store.specs.declared.row.Row.{Row}
use Rattle.local_store.specs.declared.tables.Tables.{Tables}
use Rattle.conflicts.specs.declared.error.StepErr.{StepErr}
use Rattle.session.specs.Asking.{IsAnswer}
use Rattle.session.specs.Doing.{Ends}
use Rattle.session.specs.Work.{WorkNow}
use Rattle.session.specs.Findings.{finding_of, waiting}
use Rattle.session.specs.Parts.{Changes, ForEach, Hears, Nothing, Part, Then}
use Rattle.session.specs.Sessions.{GetsBytesOf}
use Rattle.session.specs.declared.finding.Finding.{Finding}
use Rattle.session.specs.declared.finding.Finding.TheVariants.{Same, Other, Missing, Unreadable}

-- an upload gets and puts items and the bytes of resources
abbrev pub is_upload : Call → Bool
is_upload (Get (Item id)) = true
is_upload (Put (Item id) content) = true
is_upload (GetBlob id) = true
is_upload (PutBlob id len) = true
is_upload call = false

-- ---- a file that is as the client left it

-- the bytes of resources that are kept, if the keeper tells
abbrev pub blobs_of : Option Kept → Option (List Blob)
blobs_of kept = option_map (λ (k : Kept). k.blobs) kept

-- those of one resource
abbrev pub blob_bytes : List Blob → List ℕ → Option (List ℕ)
blob_bytes blobs id = option_map (λ (b : Blob). b.bytes) (at blob_id blobs id)

-- these bytes of a resource are put, if there are any
abbrev pub PutsThese : List ℕ → Option (List ℕ) → Part
PutsThese id None v ds = Nothing v ds
PutsThese id (Some bytes) v ds = (now : ℕ) × Hears (PutBlob id (length bytes)) (Done now) v ds

-- those that are kept are put, if the keeper tells; else some, or none
abbrev pub PutsKept : Option (List Blob) → List ℕ → Part
PutsKept (Some blobs) id v ds = PutsThese id (blob_bytes blobs id) v ds
PutsKept None id v ds =
    Nothing v ds ⊎ ((len : ℕ) × ((now : ℕ) × Hears (PutBlob id len) (Done now) v ds))

abbrev pub is_new_resource : Row → Bool
is_new_resource row = is_resource (item_of row.content) && is_none row.base

abbrev pub PutsIfNew : Option (List Blob) → List ℕ → Bool → Part
PutsIfNew blobs id true = PutsKept blobs id
PutsIfNew blobs id false = Nothing

-- the text is put
abbrev pub PutsText : List ℕ → List ℕ → Part
PutsText id text v ds = (now : ℕ) × Hears (Put (Item id) text) (Done now) v ds

-- the bytes of the row's own, if it is a new resource, and the text of its item
abbrev pub PutsBytes : Option (List Blob) → Row → Part
PutsBytes blobs row = PutsIfNew blobs row.id (is_new_resource row)

abbrev pub PutsTextOf : Row → Part
PutsTextOf row = PutsText row.id (written (item_of row.content))

-- the bytes of a new resource, then the item's text, and then the row is uploaded
abbrev pub Puts : Option (List Blob) → Row → Part
Puts blobs row =
    let text = written (item_of row.content) in
    Then (PutsIfNew blobs row.id (is_new_resource row))
    (Then (PutsText row.id text) (Changes (Uploaded row.id text)))

-- ---- another file, or none

-- the row gives way to it
abbrev pub Yields : Row → Option (List ℕ × Content) → Part
Yields row remote = Changes (conflict_change row remote)

-- it gives way to another file; of a resource the bytes come first
abbrev pub YieldsTo : Row → List ℕ × Content → Part
YieldsTo row remote = Then (GetsBytesOf row.id remote.1) (Yields row (Some remote))

abbrev pub ClearsIf : List ℕ → Bool → Part
ClearsIf id true v ds = ForEach Changes (folder_gone_changes v.tables id) v ds
ClearsIf id false v ds = Nothing v ds

-- the notes in a folder become conflict notes
abbrev pub Clears : Row → Part
Clears row = ClearsIf row.id (is_folder (item_of row.content))

-- ---- the table

-- what is done with a row that waits, by what its file is
abbrev pub Settles : Option (List Blob) → Row → Finding → Part
Settles blobs row Same = Puts blobs row
Settles blobs row (Other remote) = YieldsTo row remote
Settles blobs row Missing = Then (Clears row) (Yields row None)
Settles blobs row Unreadable = Nothing

-- the file is got, and then that is done
abbrev pub UploadsRow : Option (List Blob) → Row → Part
UploadsRow blobs row v ds =
    (reply : Reply) × (IsAnswer (Get (Item row.id)) reply × Then (Hears (Get (Item row.id)) reply)
    (Settles blobs row (finding_of row.id row.base reply)) v ds)

abbrev pub UploadsFound : Option (List Blob) → Option Row → Part
UploadsFound blobs None = Nothing
UploadsFound blobs (Some row) = UploadsRow blobs row

-- the row of the id is uploaded, if it waits still
abbrev pub UploadsOne : Option (List Blob) → List ℕ → Part
UploadsOne blobs id v ds = UploadsFound blobs (waiting (row_at v.tables id)) v ds

-- the rows that wait, in the order of their ids
abbrev pub pending_ids : Tables → List (List ℕ)
pending_ids t = map row_id (filter (λ (r : Row). r.pending) t.rows)

-- all of them
abbrev pub Uploads : Option Kept → Part
Uploads kept v ds = ForEach (UploadsOne (blobs_of kept)) (pending_ids v.tables) v ds

-- ---- what it comes to

-- it was this part of an upload, told by the bytes that were kept before it, or it gave nothing
abbrev pub EndsUpload : (Option (List Blob) → Part) → WorkNow → Result (Unit {0}) StepErr →
    WorkNow → Type 0
EndsUpload P old result new =
    Ends (P (blobs_of old.site.keeper.kept)) is_upload old result new
