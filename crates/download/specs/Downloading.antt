-- What a listing of the target asks for is read: new files are taken, and the rows whose files are gone go.
use Rattle.std.specs.Prelude.{ℕ, ◌≡◌, List, Bool, true, false, ◌&&◌, ◌||◌, not, Option, Some, None}
use Rattle.conflicts.specs.Rules.{folder_gone_changes}
use Rattle.delta.specs.declared.page.Page.{Page}
use Rattle.download.specs.Taking.{TakesOne, is_taking}
use Rattle.jop_base.specs.declared.dir.Dir.TheVariants.{Root}
use Rattle.jop_target.specs.declared.call.Call.{Call}
use Rattle.jop_target.specs.declared.call.Call.TheVariants.{List as ListDir}
use Rattle.jop_target.specs.declared.reply.Listing.{Listing}
use Rattle.jop_target.specs.declared.reply.Reply.TheVariants.{Listed}
use Rattle.law_licences.specs.Deeds.{Deed}
use Rattle.law_licences.specs.Items.{is_folder}
use Rattle.law_licences.specs.Pages.{IsPage, emptied_by}
use Rattle.law_licences.specs.Views.{View, shown_to}
use Rattle.local_store.specs.Rows.{item_of}
use Rattle.local_store.specs.Tables.{row_at}
use Rattle.local_store.specs.declared.change.Change.TheVariants.{ContextIs, Gone}
use Rattle.local_store.specs.declared.row.Row.{Row}
use Rattle.session.specs.Parts.{Changes, ForEach, Hears, Nothing, Part, Then}
use Rattle.session.specs.Sessions.{is_root}

-- ---- calls

-- a listing of the root
abbrev pub is_listing : Call → Bool
is_listing (ListDir dir) = is_root dir
is_listing call = false

-- a download lists the root, and gets items and the bytes of resources
abbrev pub is_download : Call → Bool
is_download call = is_listing call || is_taking call

-- ---- a file that is gone

-- the row doesn't wait, and is no folder
abbrev pub is_leaf : Option Row → Bool
is_leaf None = false
is_leaf (Some row) = not row.pending && not (is_folder (item_of row.content))

-- the row doesn't wait, and is a folder
abbrev pub is_place : Option Row → Bool
is_place None = false
is_place (Some row) = not row.pending && is_folder (item_of row.content)

abbrev pub GoesIf : List ℕ → Bool → Part
GoesIf id true = Changes (Gone id)
GoesIf id false = Nothing

-- the row goes, if it is no folder and doesn't wait
abbrev pub Goes : List ℕ → Part
Goes id v ds = GoesIf id (is_leaf (row_at v.tables id)) v ds

abbrev pub ClosesIf : List ℕ → Bool → Part
ClosesIf id true v ds =
    Then (ForEach Changes (folder_gone_changes v.tables id)) (Changes (Gone id)) v ds
ClosesIf id false v ds = Nothing v ds

-- the notes in the folder become conflict notes, and then it goes, if it is a folder and doesn't wait
abbrev pub Closes : List ℕ → Part
Closes id v ds = ClosesIf id (is_place (row_at v.tables id)) v ds

-- the row goes, if it is its turn: that of the folders, or of what is none
abbrev pub LeavesOne : Bool → List ℕ → Part
LeavesOne false = Goes
LeavesOne true = Closes

-- what is no folder goes first, and then the folders
abbrev pub LeavesGone : List (List ℕ) → Part
LeavesGone gone = Then (ForEach (LeavesOne false) gone) (ForEach (LeavesOne true) gone)

-- ---- the page

-- new files are taken in the order of the page, rows go, and last the client has read the target so far
abbrev pub Applies : Page → Part
Applies page =
    Then (ForEach TakesOne page.taken) (Then (LeavesGone page.gone) (Changes (ContextIs page.next)))

-- The root is listed, and its page applied. It doesn't look as if the target were emptied.
pub record Downloads (v : View) (ds : List Deed) : Type 0 where
  pub listing : Listing
  pub page : Page
  pub is : IsPage (shown_to v.tables listing) page
  pub safe : emptied_by (shown_to v.tables listing) ≡ None
  pub done : Then (Hears (ListDir Root) (Listed listing)) (Applies page) v ds
