-- What a download has found so far.
use Rattle.std.specs.Prelude.{ℕ, ◌≡◌, List, All, Contains, Some, None, Result, Ok, Err}
use Rattle.conflicts.specs.declared.error.StepErr.{StepErr}
use Rattle.conflicts.specs.declared.error.StepErr.TheVariants.{NoMemory, Refused}
use Rattle.conflicts.specs.declared.refusal.Refusal.{Refusal}
use Rattle.conflicts.specs.declared.refusal.Refusal.TheVariants.{FailSafe}
use Rattle.delta.specs.declared.page.Page.{Page}
use Rattle.download.specs.Asked.{EndsShown}
use Rattle.download.specs.Downloading.{Applies, Downloads, is_download}
use Rattle.download.specs.Taking.{is_taking}
use Rattle.jop_base.specs.declared.dir.Dir.TheVariants.{Root}
use Rattle.jop_target.specs.declared.call.Call.TheVariants.{List as ListDir}
use Rattle.jop_target.specs.declared.reply.Listing.{Listing}
use Rattle.jop_target.specs.declared.reply.Reply.{Reply}
use Rattle.jop_target.specs.declared.reply.Reply.TheVariants.{Listed}
use Rattle.law_licences.specs.Deeds.{Deed}
use Rattle.law_licences.specs.Pages.{IsPage, emptied_by}
use Rattle.law_licences.specs.Views.{Finished, Shown, View, shown_to}
use Rattle.local_store.specs.declared.tables.Tables.{Tables}
use Rattle.session.specs.Doing.{Does, EndsAt, DoesLast, RefusesOr}
use Rattle.session.specs.Parts.{Hears, Part}
use Rattle.session.specs.Work.{WorkNow, knowing}

-- ---- the page

-- by the page this file is gone
pub record Lacks (known : Shown) (id : List ℕ) : Type 0 where
  pub page : Page
  pub is : IsPage known page
  pub gone : Contains page.gone id

-- if by the session's last listing this file is gone, it was this part, or gave nothing
abbrev pub EndsIfGone : List ℕ → Part → WorkNow → Result (Unit {0}) StepErr → WorkNow → Type 0
EndsIfGone id P old result new =
    EndsShown (λ known. Lacks known id) is_taking P old result new

-- all of these are
abbrev pub LacksAll : List (List ℕ) → Shown → Type 0
LacksAll ids known = All (Lacks known) ids

-- if these are, it was this part, or gave nothing
abbrev pub EndsIfAllGone : List (List ℕ) → Part → WorkNow → Result (Unit {0}) StepErr → WorkNow →
    Type 0
EndsIfAllGone ids P old result new = EndsShown (LacksAll ids) is_taking P old result new

-- if the session was shown a listing that asks for this page, the page was applied, which is the session's last
-- part, or it gave nothing
abbrev pub EndsPage : Page → WorkNow → Result (Unit {0}) StepErr → WorkNow → Type 0
EndsPage page old result new =
    (known : Shown) → IsPage known page
    → EndsAt Finished (Applies page) is_taking (knowing (Some known) old) result
    (knowing (Some known) new)

-- ---- the listing

-- what a listing asks of a client with these tables, unless it looks as if the target were emptied
abbrev pub PageIn : Tables → Listing → Result Page StepErr → Type 0
PageIn t listing (Ok page) =
    IsPage (shown_to t listing) page × (emptied_by (shown_to t listing) ≡ None)
PageIn t listing (Err (Refused (FailSafe count))) = emptied_by (shown_to t listing) ≡ Some count
PageIn t listing (Err NoMemory) = Unit {0}
PageIn t listing (Err e) = ⊥

abbrev pub PageOf : Tables → Reply → Result Page StepErr → Type 0
PageOf t (Listed listing) result = PageIn t listing result
PageOf t reply result = ⊥

-- the root was listed, which is a part of the session, and asks for this
pub record HasListed (old : WorkNow) (page : Page) (new : WorkNow) : Type 0 where
  pub listing : Listing
  pub is : IsPage (shown_to old.site.tables listing) page
  pub safe : emptied_by (shown_to old.site.tables listing) ≡ None
  pub does : Does (Hears (ListDir Root) (Listed listing)) is_download old
      (knowing (Some (shown_to old.site.tables listing)) new)

-- ---- the whole

-- the root is listed and shows no item, while so many rows have a base
pub record FindsEmptied (count : ℕ) (v : View) (ds : List Deed) : Type 0 where
  pub listing : Listing
  pub rows : emptied_by (shown_to v.tables listing) ≡ Some count
  pub listed : Hears (ListDir Root) (Listed listing) v ds

-- what is read of a target from which nothing is taken
abbrev pub RefusesDownload : Refusal → Part
RefusesDownload (FailSafe count) v ds = FindsEmptied count v ds
RefusesDownload why v ds = ⊥

-- each answer of the listing, by its cause
abbrev pub ListsPage : WorkNow → Result Page StepErr → WorkNow → Type 0
ListsPage old (Ok page) new = HasListed old page new
ListsPage old (Err e) new = RefusesOr RefusesDownload is_download old e new

-- the page was applied, which is the session's last part, or it gave nothing
abbrev pub EndsDownload : {R : Type 0} → WorkNow → Result R StepErr → WorkNow → Type 0
EndsDownload old (Ok value) new = DoesLast Downloads is_download old new
EndsDownload old (Err e) new = RefusesOr RefusesDownload is_download old e new
