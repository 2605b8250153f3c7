-- How a page is applied.
use Rattle.std.specs.Prelude.{ℕ, ◌≡◌, ◌<◌, List, [], length, All, Contains, Bool, Some, None, Result, Ok, Err, OnOk, refl}
use Rattle.std.proofs.Common.{◌∙◌, sym, ap, subst, inl, inr, get_or}
use Rattle.std.proofs.lemmas.Option.{same_Some}
use Rattle.std.proofs.lemmas.Bool.{or_right}
use Rattle.std.proofs.lemmas.List.Elements.{All-contains_itself, All-from_get_or, All-get_or}
use Rattle.conflicts.specs.declared.error.StepErr.{StepErr}
use Rattle.conflicts.specs.declared.error.StepErr.TheVariants.{NoMemory, Refused}
use Rattle.conflicts.specs.declared.refusal.Refusal.{Refusal}
use Rattle.conflicts.specs.declared.refusal.Refusal.TheVariants.{FailSafe}
use Rattle.delta.specs.declared.page.Page.{Page}
use Rattle.client.specs.Sites.{SiteNow}
use Rattle.download.proofs.Emptied.{heeds_emptied, heeds_listed}
use Rattle.download.specs.Asked.{PageAsksFor, AsksForAll, EndsShown}
use Rattle.download.specs.Downloading.{Applies, Downloads, LeavesGone, is_download, is_listing}
use Rattle.download.specs.Emptied.{HeedsBetween, RefusesStep}
use Rattle.download.specs.Reading.{EndsDownload, HasListed, Lacks, ListsPage, PageIn, PageOf, RefusesDownload, EndsIfAllGone}
use Rattle.download.specs.Taking.{TakesOne, is_taking}
use Rattle.jop_base.specs.declared.dir.Dir.TheVariants.{Root}
use Rattle.jop_target.specs.Replies.{IsReplyTo}
use Rattle.jop_target.specs.declared.call.Call.{Call}
use Rattle.jop_target.specs.declared.call.Call.TheVariants.{List as ListDir}
use Rattle.jop_target.specs.declared.reply.Listing.{Listing}
use Rattle.jop_target.specs.declared.reply.Reply.{Reply}
use Rattle.jop_target.specs.declared.reply.Reply.TheVariants.{Listed, Got, GotBlob, Absent, Done, Failed, TooLarge}
use Rattle.lease.specs.Standing.{IsSameBut}
use Rattle.law_licences.specs.Pages.{IsPage, emptied_by}
use Rattle.law_licences.specs.Views.{Finished, Shown, shown_to}
use Rattle.local_store.specs.declared.change.Change.TheVariants.{ContextIs}
use Rattle.local_store.specs.declared.tables.Tables.{Tables}
use Rattle.session.proofs.Behind.{went_given_up}
use Rattle.session.proofs.Ending.{does_as, does_starves, gives_up_behind}
use Rattle.session.proofs.Joins.{does_then}
use Rattle.session.proofs.Recast.{does_forgetting, does_listing, ends_at_placed, gives_up_forgetting}
use Rattle.session.proofs.Refusing.{not_refused, refuses_placed, went_refused}
use Rattle.session.proofs.Wider.{IsWithin, does_within, gives_up_within, went_within}
use Rattle.session.specs.Doing.{Does, EndsAt, Went}
use Rattle.session.specs.Making.{MayMakeBy}
use Rattle.session.specs.Parts.{ForEach, Hears, Then}
use Rattle.session.specs.Sessions.{HasHeard}
use Rattle.session.specs.Work.{IsAtWork, WorkNow, knowing, nowhere, placed}

-- ---- the page's own

own : (xs : List (List ℕ)) (i : ℕ) → i < length xs → Contains xs (get_or xs i [])
own xs i within = All-get_or (Contains xs) xs i [] within (All-contains_itself xs)

pub all_asked : (known : Shown) (page : Page) (ids : List (List ℕ)) → IsPage known page
    → ids ≡ page.taken → All (PageAsksFor known) ids
all_asked known page ids is same =
    subst (λ (xs : List (List ℕ)). All (PageAsksFor known) xs) (sym same)
    (All-from_get_or (PageAsksFor known) page.taken []
    (λ i within. record { page = page; is = is; taken = own page.taken i within }))

pub all_lack : (known : Shown) (page : Page) (ids : List (List ℕ)) → IsPage known page
    → ids ≡ page.gone → All (Lacks known) ids
all_lack known page ids is same =
    subst (λ (xs : List (List ℕ)). All (Lacks known) xs) (sym same)
    (All-from_get_or (Lacks known) page.gone []
    (λ i within. record { page = page; is = is; gone = own page.gone i within }))

pub may_finish : (known : Shown) (page : Page) (d : SiteNow) → IsPage known page
    → MayMakeBy (Some known) d (ContextIs page.next)
may_finish known page d is shown fits = record {
  page = page;
  has = record { shown = known; last = fits; is = is };
  next = refl;
}

-- ---- told

pub leaves_as : (ids gone : List (List ℕ)) (sort : Call → Bool) (a b : WorkNow) → ids ≡ gone
    → Does (LeavesGone ids) sort a b → Does (LeavesGone gone) sort a b
leaves_as ids gone sort a b same h =
    subst (λ (xs : List (List ℕ)). Does (LeavesGone xs) sort a b) same h

pub taking_within : IsWithin is_taking is_download
taking_within call is = or_right (is_listing call) (is_taking call) is

pub takes_as : (ids taken : List (List ℕ)) (a b : WorkNow) → ids ≡ taken
    → Does (ForEach TakesOne ids) is_taking a b → Does (ForEach TakesOne taken) is_taking a b
takes_as ids taken a b same h =
    subst (λ (xs : List (List ℕ)). Does (ForEach TakesOne xs) is_taking a b) same h

-- what a page asks for is taken, and what is gone by it
pub page_taken : (known : Shown) (page : Page) (ids : List (List ℕ)) (a b : WorkNow)
    → IsPage known page → ids ≡ page.taken
    → EndsShown (AsksForAll ids) is_taking (ForEach TakesOne ids) a (Ok tt) b
    → Does (ForEach TakesOne page.taken) is_taking (knowing (Some known) a)
    (knowing (Some known) b)
page_taken known page ids a b is same h =
    takes_as ids page.taken _ _ same (h known (all_asked known page ids is same))

pub page_left : (known : Shown) (page : Page) (ids : List (List ℕ)) (a b : WorkNow)
    → IsPage known page → ids ≡ page.gone → EndsIfAllGone ids (LeavesGone ids) a (Ok tt) b
    → Does (LeavesGone page.gone) is_taking (knowing (Some known) a) (knowing (Some known) b)
page_left known page ids a b is same h =
    leaves_as ids page.gone is_taking _ _ same (h known (all_lack known page ids is same))

-- ---- the listing

pub listed_by : (reply : Reply) → IsReplyTo (ListDir Root) reply → ¬ (reply ≡ Failed)
    → (listing : Listing) × (reply ≡ Listed listing)
listed_by (Listed listing) shape heard = (listing, refl)
listed_by Failed shape heard = absurd (heard refl)
listed_by (Got now bytes) shape heard = absurd shape
listed_by (GotBlob now len) shape heard = absurd shape
listed_by (Absent now) shape heard = absurd shape
listed_by (Done now) shape heard = absurd shape
listed_by (TooLarge len) shape heard = absurd shape

-- the same page, by other names of tables and reply
pub page_at : (t own : Tables) (reply heard : Reply) (result : Result Page StepErr)
    → t ≡ own → reply ≡ heard → PageOf t reply result → PageOf own heard result
page_at t own reply heard result same is h =
    subst (λ (x : Reply). PageOf own x result) is
    (subst (λ (x : Tables). PageOf x reply result) same h)

pub lists : (a b : WorkNow) (result : Result Page StepErr)
    → (h : HasHeard (ListDir Root) is_download a b) → PageOf a.site.tables h.reply result
    → ListsPage a result b
lists a b result h page =
    let l = listed_by h.reply h.answer.0 h.answer.1 in
    by result l.0
    (subst (λ (reply : Reply). PageOf a.site.tables reply result) l.1 page)
    (subst (λ (reply : Reply). Does (Hears (ListDir Root) reply) is_download a b) l.1 h.does) where
      by : (result : Result Page StepErr) (listing : Listing) → PageIn a.site.tables listing result
          → Does (Hears (ListDir Root) (Listed listing)) is_download a b
          → ListsPage a result b
      by (Ok page) listing is h = record {
        listing = listing;
        is = is.0;
        safe = is.1;
        does = does_listing listing is_download a b h;
      }
      by (Err (Refused (FailSafe count))) listing is h =
          does_as (Hears (ListDir Root) (Listed listing)) (RefusesDownload (FailSafe count))
          is_download a b (λ shown ds it. record { listing = listing; rows = is; listed = it }) h
      by (Err NoMemory) listing is h = does_starves h
      by (Err e) listing is h = absurd is

-- what looks like an emptied target is told so
pub list_heeds : (a b : WorkNow) (result : Result Page StepErr)
    → (h : HasHeard (ListDir Root) is_download a b) → PageOf a.site.tables h.reply result
    → HeedsBetween (RefusesStep result) a.site b.site
list_heeds a b result h page =
    let l = listed_by h.reply h.answer.0 h.answer.1 in
    heeds_emptied (RefusesStep result) l.0 is_download a b
    (subst (λ (reply : Reply). Does (Hears (ListDir Root) reply) is_download a b) l.1 h.does)
    (told result l.0 (subst (λ (reply : Reply). PageOf a.site.tables reply result) l.1 page)) where
      told : (result : Result Page StepErr) (listing : Listing) → PageIn a.site.tables listing result
          → (count : ℕ) → emptied_by (shown_to a.site.tables listing) ≡ Some count
          → RefusesStep result (FailSafe count)
      told (Ok page) listing is count emptied =
          let never : None ≡ Some count = sym is.1 ∙ emptied in
          absurd cc
      told (Err (Refused (FailSafe other))) listing is count emptied =
          inl (ap (λ (n : ℕ). Refused (FailSafe n)) (same_Some other count (sym is ∙ emptied)))
      told (Err NoMemory) listing is count emptied = inr refl
      told (Err e) listing is count emptied = absurd is

went_page : {R : Type 0} (page : Page) (a b : WorkNow) (result : Result R StepErr)
    → EndsAt Finished (Applies page) is_taking a result b → Went is_taking a b
went_page page a b (Ok value) h = h.went
went_page page a b (Err e) h = went_given_up is_taking a b e h

-- behind a listing that doesn't look so nothing is listed
pub page_heeds : {R : Type 0} (Given : Refusal → Type 0) (a b c : WorkNow) (page : Page)
    (result : Result R StepErr) → (h : HasListed a page b)
    → EndsAt Finished (Applies page) is_taking
    (knowing (Some (shown_to a.site.tables h.listing)) b) result
    (knowing (Some (shown_to a.site.tables h.listing)) c)
    → HeedsBetween Given a.site c.site
page_heeds Given a b c page result h k =
    let known = Some (shown_to a.site.tables h.listing) in
    let went = went_page page (knowing known b) (knowing known c) result k in
    heeds_listed Given h.listing is_download a (knowing known b) (knowing known c) h.does h.safe
    (went_within is_taking is_download (knowing known b) (knowing known c) taking_within went)
    is_taking refl went

-- ---- the whole

-- the listing, and then its page
pub downloads : {R : Type 0} (a b c : WorkNow) (page : Page) (result : Result R StepErr)
    → (h : HasListed a page b) → c.known ≡ None
    → EndsAt Finished (Applies page) is_taking
    (knowing (Some (shown_to a.site.tables h.listing)) b) result
    (knowing (Some (shown_to a.site.tables h.listing)) c)
    → EndsDownload a result c
downloads a b c page (Ok value) h none k =
    let known = Some (shown_to a.site.tables h.listing) in
    let all = Then (Hears (ListDir Root) (Listed h.listing)) (Applies page) in
    does_as all Downloads is_download a c
    (λ shown ds part.
    record { listing = h.listing; page = page; is = h.is; safe = h.safe; done = part })
    (does_forgetting all is_download known a c none
    (does_then (Hears (ListDir Root) (Listed h.listing)) (Applies page) is_download a
    (knowing known b) (knowing known c) h.does
    (does_within is_taking is_download (knowing known b) (knowing known c) taking_within k)))
downloads a b c page (Err e) h none k =
    let known = Some (shown_to a.site.tables h.listing) in
    not_refused RefusesDownload is_download a c e
    (gives_up_forgetting is_download known a c e
    (gives_up_behind (Hears (ListDir Root) (Listed h.listing)) is_download a (knowing known b)
    (knowing known c) e h.does
    (gives_up_within is_taking is_download (knowing known b) (knowing known c) e taking_within k)))

-- ---- what stands behind it

pub went_download : {R : Type 0} (a b : WorkNow) (result : Result R StepErr)
    → EndsDownload a result b → Went is_download a b
went_download a b (Ok value) h = h.went
went_download a b (Err e) h = went_refused RefusesDownload is_download a b e h

pub ready_download : {R : Type 0} (a b : WorkNow) (result : Result R StepErr)
    → EndsDownload a result b → OnOk result (IsAtWork b)
ready_download a b (Ok value) h = h.ready
ready_download a b (Err e) h = tt

pub lease_download : {R : Type 0} (a b : WorkNow) (result : Result R StepErr)
    → EndsDownload a result b → IsSameBut a.lease b.lease
lease_download a b result h = (went_download a b result h).same

pub place_download : {R : Type 0} (a b : WorkNow) (result : Result R StepErr)
    → EndsDownload a result b → b.place ≡ a.place
place_download a b result h = (went_download a b result h).place

-- whatever the references are
pub download_nowhere : {R : Type 0} (a b : WorkNow) (result : Result R StepErr)
    → EndsDownload a result b → EndsDownload (placed nowhere a) result (placed nowhere b)
download_nowhere a b (Ok value) h =
    ends_at_placed Finished Downloads is_download nowhere nowhere a b (Ok value) refl h
download_nowhere a b (Err e) h =
    refuses_placed RefusesDownload is_download nowhere nowhere a b e refl h
