-- Why a sync's session ended so.
use Rattle.std.proofs.Common.{◌≡◌, ◌∙◌, refl, sym, ap, subst, inl, inr, ℕ, List, [], ◌∷◌, ◌++◌, append_assoc}
use Rattle.std.proofs.Common.{Option, Result, Err}
use Rattle.std.proofs.lemmas.List.{append_cancel_right}
use Rattle.conflicts.specs.Reports.{new_report}
use Rattle.conflicts.specs.declared.refusal.Refusal.{Refusal}
use Rattle.conflicts.specs.declared.refusal.Refusal.TheVariants.{TargetOlder, TargetNewer, BadInfo, FailSafe, NoKey}
use Rattle.conflicts.specs.declared.report.SyncReport.{SyncReport}
use Rattle.client.specs.Sites.{SiteNow, IsSameSite}
use Rattle.download.specs.Reading.{RefusesDownload}
use Rattle.jop_base.specs.declared.lock_name.LockKind.{LockKind}
use Rattle.jop_base.specs.declared.lock_name.LockKind.TheVariants.{Sync}
use Rattle.jop_target.specs.declared.event.Event.TheVariants.{Began, Ended}
use Rattle.lease.specs.Phase.{Held}
use Rattle.lease.specs.Standing.{IsSameBut, StandsIn}
use Rattle.lease.specs.declared.lease.Lease.{Lease}
use Rattle.law_licences.proofs.Joins.{view_from-append}
use Rattle.law_licences.specs.Deeds.{Deed}
use Rattle.law_licences.specs.Trails.{session_calls}
use Rattle.law_licences.specs.Views.{Heard, View, view_from}
use Rattle.local_store.specs.declared.tables.Tables.{Tables}
use Rattle.keeper.specs.Keepers.{IsOfKept, Kept, KeeperNow}
use Rattle.session.proofs.Behind.{behind}
use Rattle.session.specs.Parts.{Part, Then}
use Rattle.session.specs.Work.{IsReady, work}
use Rattle.session_opening.specs.Opening.{Opens, RefusesTarget}
use Rattle.sync_session.specs.Keys.{RefusesKeys}
use Rattle.sync_session.specs.Syncing.{HasLeftSync, IsWholeSync}
use Rattle.sync_session.specs.Working.{RefusesOpened, RefusesSync, Sends, is_sync}
use Rattle.sync_session.specs.declared.sync_err.SyncErr.{SyncErr}
use Rattle.sync_session.specs.declared.sync_err.SyncErr.TheVariants.{Refused}
use Rattle.jop_cli.proofs.Heard.{found, found_bad}
use Rattle.jop_cli.proofs.Opened.{just_opened}
use Rattle.jop_cli.specs.Causes.{HasJustOpened, HasLeftHaving, WasRefused}

-- ---- the trail

-- the trail but for its end
pub late_trail : (client : List ℕ) (old new : SiteNow)
    (result : Result SyncReport SyncErr) (h : IsWholeSync client old result new) →
    h.last.line.trail ≡ old.line.trail ++ Began ∷ h.whole.middle
late_trail client old new result h =
    append_cancel_right h.last.line.trail (old.line.trail ++ Began ∷ h.whole.middle) (Ended ∷ [])
    (ap (λ (s : SiteNow). s.line.trail) (sym h.ended)
    ∙ (h.whole.trail ∙ sym (append_assoc old.line.trail (Began ∷ h.whole.middle) (Ended ∷ []))))

-- ---- the lease

abbrev lease_of : List ℕ → ℕ → Lease
lease_of client stamp = record { client = client; kind = Sync; stamp = stamp }

same_lease : (client : List ℕ) (had late : Lease) → had ≡ lease_of client had.stamp →
    IsSameBut had late → late ≡ lease_of client late.stamp
same_lease client had late is same = same ∙ ap (λ (l : Lease). record l { stamp = late.stamp }) is

-- the session left its lease behind calls that had come to this
pub left_as : (Had : LockKind → List Heard → Type 0) (client : List ℕ) (worked : Result (Unit {0}) SyncErr)
    (old new : SiteNow) (h : HasLeftSync client worked old new) → IsReady h.late.site h.late.lease →
    IsSameBut h.lease h.late.lease → Had Sync (session_calls h.late.site.line.trail) →
    HasLeftHaving Had Sync client new.line.trail
left_as Had client worked old new h ready same had = record {
  before = h.late.site.line.trail;
  stamp = h.late.lease.stamp;
  held = subst (λ (l : Lease). StandsIn l.client h.late.site.line.trail (Held l.kind l.stamp))
      (same_lease client h.lease h.late.lease h.had.whole same) ready.held.stands;
  had = had;
  reply = h.reply;
  ends = h.ends;
}

-- ---- why it was refused

-- What is seen behind this part has the cause of this refusal, if the tables are those that are kept, as far as that is
-- told.
abbrev Shows : KeeperNow → Refusal → Part → Type 0
Shows keeper why P =
    (v : View) (ds : List Deed) → P v ds → IsOfKept keeper.kept (view_from v ds).tables →
    WasRefused keeper why Sync (view_from v ds).calls

shows_behind : (keeper : KeeperNow) (why : Refusal) (P Q : Part) → Shows keeper why Q →
    Shows keeper why (Then P Q)
shows_behind keeper why P Q shows v ds h told =
    let w = view_from v h.first in
    let same : view_from v ds ≡ view_from w h.second =
    ap (λ (x : List Deed). view_from v x) h.both ∙ view_from-append v h.first h.second in
    subst (λ (u : View). WasRefused keeper why Sync u.calls) (sym same)
    (shows w h.second h.behind (subst (λ (u : View). IsOfKept keeper.kept u.tables) same told))

-- for its target
by_target : (keeper : KeeperNow) (why : Refusal) → Shows keeper why (RefusesTarget why)
by_target keeper (TargetOlder version) v ds h told = (h.0, found version v ds h.1)
by_target keeper (TargetNewer version) v ds h told = (h.0, found version v ds h.1)
by_target keeper BadInfo v ds h told = found_bad v ds h
by_target keeper why v ds h told = absurd h

-- for its keys
by_keys : (keeper : KeeperNow) (why : Refusal) (t : Tables) (calls : List Heard) →
    RefusesKeys why t → IsOfKept keeper.kept t → HasJustOpened t.info calls →
    WasRefused keeper why Sync calls
by_keys keeper (NoKey key) t calls h told opened =
    (refl, record { tables = t; told = told; opened = opened; needs = h.0; active = h.1 })
by_keys keeper why t calls h told opened = absurd h

-- for what it listed
by_listing : (keeper : KeeperNow) (why : Refusal) → Shows keeper why (RefusesDownload why)
unfolding view_from
by_listing keeper (FailSafe count) v ds h told = (
  refl,
  record {
    listing = h.listing;
    last = (v.calls, ap (λ (x : List Deed). (view_from v x).calls) h.listed);
    tables = v.tables;
    told = subst (λ (t : Tables). IsOfKept keeper.kept t)
        (ap (λ (x : List Deed). (view_from v x).tables) h.listed) told;
    rows = h.rows;
  },
)
by_listing keeper why v ds h told = absurd h

-- behind an opening
by_opened : (keeper : KeeperNow) (kept : Option Kept) (why : Refusal) (v : View) (ds : List Deed) →
    HasJustOpened v.tables.info v.calls → RefusesOpened kept why v ds →
    IsOfKept keeper.kept (view_from v ds).tables →
    WasRefused keeper why Sync (view_from v ds).calls
unfolding view_from
by_opened keeper kept why v ds opened (inl h) told =
    subst (λ (x : List Deed). WasRefused keeper why Sync (view_from v x).calls) (sym h.1)
    (by_keys keeper why v.tables v.calls h.0
    (subst (λ (t : Tables). IsOfKept keeper.kept t)
    (ap (λ (x : List Deed). (view_from v x).tables) h.1) told) opened)
by_opened keeper kept why v ds opened (inr h) told =
    shows_behind keeper why (Sends kept) (RefusesDownload why) (by_listing keeper why) v ds h told

by_opening : (keeper : KeeperNow) (kept : Option Kept) (why : Refusal) →
    Shows keeper why (Then Opens (RefusesOpened kept why))
by_opening keeper kept why v ds h told =
    let w = view_from v h.first in
    let same : view_from v ds ≡ view_from w h.second =
    ap (λ (x : List Deed). view_from v x) h.both ∙ view_from-append v h.first h.second in
    subst (λ (u : View). WasRefused keeper why Sync u.calls) (sym same)
    (by_opened keeper kept why w h.second (just_opened v h.first h.before) h.behind
    (subst (λ (u : View). IsOfKept keeper.kept u.tables) same told))

by_any : (keeper : KeeperNow) (kept : Option Kept) (why : Refusal) →
    Shows keeper why (RefusesSync kept why)
by_any keeper kept why v ds (inl h) told = by_target keeper why v ds h told
by_any keeper kept why v ds (inr h) told = by_opening keeper kept why v ds h told

-- the tables of a session that is left are those that are kept, if that is told
told_still : (late new : SiteNow) → IsSameSite late new → IsOfKept late.keeper.kept late.tables →
    IsOfKept new.keeper.kept late.tables
told_still late new same told =
    subst (λ (k : KeeperNow). IsOfKept k.kept late.tables) (sym same.keeper) told

pub refused : (client : List ℕ) (old new : SiteNow) (why : Refusal) →
    HasLeftSync client (Err (Refused why)) old new →
    HasLeftHaving (WasRefused new.keeper why) Sync client new.line.trail
refused client old new why h =
    let does = h.works in
    let kept = h.held.keeper.kept in
    left_as (WasRefused new.keeper why) client (Err (Refused why)) old new h does.ready
    does.went.same
    (behind (λ t cs u us. IsOfKept new.keeper.kept u → WasRefused new.keeper why Sync us)
    (RefusesSync kept why) is_sync (work h.held h.lease new_report) h.late
    (by_any new.keeper kept why) does (told_still h.late.site new h.left does.told.tidy.told))
