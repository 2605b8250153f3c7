-- What is done behind the opening is done behind it for the whole.
use Rattle.std.specs.Prelude.{◌≡◌, List, [], ◌∷◌, map, filter, Bool, true, false, ◌&&◌, ◌||◌, if◌then◌else◌, Option, Some, None, Result, Ok, Err, refl}
use Rattle.std.proofs.Common.{◌∙◌, ap, sym, subst, inl, inr}
use Rattle.std.proofs.lemmas.Bool.{or_left, or_right}
use Rattle.std.specs.List.{list_any}
use Rattle.conflicts.specs.declared.error.StepErr.{StepErr}
use Rattle.conflicts.specs.declared.error.StepErr.TheVariants.{Lost, TargetFault, KeeperFault, NoMemory}
use Rattle.conflicts.specs.declared.refusal.Refusal.{Refusal}
use Rattle.client.specs.Sites.{SiteNow}
use Rattle.download.proofs.Still.{between_also, heeds_behind, heeds_still}
use Rattle.download.specs.Downloading.{Downloads}
use Rattle.download.specs.Emptied.{HeedsBetween, RefusesStep}
use Rattle.download.specs.Reading.{RefusesDownload}
use Rattle.jop_base.specs.declared.lock_name.LockKind.TheVariants.{Sync}
use Rattle.jop_base.specs.declared.path.Path.TheVariants.{Info as InfoFile, OldVersion}
use Rattle.jop_target.specs.declared.call.Call.{Call}
use Rattle.jop_target.specs.declared.call.Call.TheVariants.{Get, Put, Delete, MakeDir}
use Rattle.lease.specs.declared.lease.Lease.{Lease}
use Rattle.law_licences.specs.Deeds.{Deed}
use Rattle.law_licences.specs.Infos.{info_read}
use Rattle.law_licences.specs.Puts.{has_put, seals_by}
use Rattle.law_licences.specs.Trails.{session_calls}
use Rattle.law_licences.specs.Views.{Heard, Shown, Stage, View}
use Rattle.keeper.specs.Keepers.{Kept}
use Rattle.local_store.specs.Rows.{row_id}
use Rattle.keeper.specs.declared.blob.Blob.{Blob}
use Rattle.local_store.specs.declared.row.Row.{Row}
use Rattle.local_store.specs.declared.tables.Tables.{Tables}
use Rattle.session_opening.proofs.Merged.{IsMergedIn}
use Rattle.session_opening.proofs.Merging.{merges_none, merges_on}
use Rattle.session_opening.proofs.Unput.{unput_behind}
use Rattle.session_opening.proofs.Versions.{MayOnceTold, stays_lawful}
use Rattle.session_opening.specs.Opening.{IsLawful, KnowsVersion, MergesBetween, Opens, RefusesTarget, is_opening}
use Rattle.session.proofs.Ending.{does_as, does_nothing}
use Rattle.session.proofs.Joins.{does_then}
use Rattle.session.proofs.Recast.{ends_at_placed, gives_up_placed}
use Rattle.session.proofs.Refusing.{refuses_as, refuses_behind, refuses_within, went_refused}
use Rattle.session.specs.Doing.{Does, DoesTo, DoesLast, GivesNothing, RefusesOr, Went}
use Rattle.session.specs.Parts.{ForEach, Nothing, Part, Then}
use Rattle.session.specs.Work.{WorkNow, nowhere, placed, work, work_by}
use Rattle.sync_info.proofs.MergeLemmas.{merged-right}
use Rattle.sync_info.specs.Merge.{merged}
use Rattle.sync_info.specs.declared.info.Info.{Info}
use Rattle.target_upgrade.specs.Steps.{SUPPORTED}
use Rattle.sync_session.proofs.SameBlobs.{same_blobs}
use Rattle.upload.specs.Conditions.{AreUnput, IsReadable}
use Rattle.upload.specs.Uploading.{UploadsOne, blobs_of, pending_ids}
use Rattle.session.proofs.Wider.{IsWithin, does_within, went_within}
use Rattle.sync_session.proofs.Settled.{agree_begun}
use Rattle.sync_session.specs.Errors.{of_step}
use Rattle.sync_session.specs.Keys.{RefusesKeys, has_waiting, needs_key}
use Rattle.sync_session.specs.Ordering.{GivesDue}
use Rattle.sync_session.specs.declared.sync_err.SyncErr.{SyncErr}
use Rattle.sync_session.specs.declared.sync_err.SyncErr.TheVariants.{Busy, LeaseLost, Refused}
use Rattle.sync_session.specs.declared.sync_err.SyncErr.TheVariants as sync_errors
use Rattle.sync_session.specs.Working.{Exchanges, ExchangesOr, RefusesExchange, RefusesOpened, RefusesSync, Sends, SyncsTables, SyncWorks, is_exchange, is_sync}

-- ---- sorts

pub opening_within : IsWithin is_opening is_sync
opening_within call is = or_left (is_opening call) (is_exchange call) is

pub exchange_within : IsWithin is_exchange is_sync
exchange_within call is = or_right (is_opening call) (is_exchange call) is

-- ---- the same bytes of resources

sends_as : (kept other : Option Kept) (v : View) (ds : List Deed)
    → blobs_of kept ≡ blobs_of other → Sends kept v ds → Sends other v ds
sends_as kept other v ds same h = record {
  first = h.first;
  second = h.second;
  both = h.both;
  before = subst (λ (bs : Option (List Blob)).
      ForEach (UploadsOne bs) (pending_ids v.tables) v h.first) same h.before;
  behind = h.behind;
}

-- a part behind the sending
then_as : (P : Part) (kept other : Option Kept) (v : View) (ds : List Deed)
    → blobs_of kept ≡ blobs_of other → Then (Sends kept) P v ds → Then (Sends other) P v ds
then_as P kept other v ds same h = record {
  first = h.first;
  second = h.second;
  both = h.both;
  before = sends_as kept other v h.first same h.before;
  behind = h.behind;
}

opened_blobs : (a b : WorkNow) → Does Opens is_opening a b
    → blobs_of b.site.keeper.kept ≡ blobs_of a.site.keeper.kept
opened_blobs a b h = same_blobs Opens is_opening a b (λ id. refl) h

-- ---- the answers

-- a part of the session gave nothing, or was refused
works_stopped : (a b : WorkNow) (e : StepErr)
    → RefusesOr (RefusesSync a.site.keeper.kept) is_sync a e b → SyncWorks a (Err (of_step e)) b
works_stopped a b (Lost seen) h = h
works_stopped a b e h = h

-- that was the opening
pub works_unopened : (a b : WorkNow) (e : StepErr) → RefusesOr RefusesTarget is_opening a e b
    → SyncWorks a (Err (of_step e)) b
works_unopened a b e h =
    works_stopped a b e
    (refuses_as RefusesTarget (RefusesSync a.site.keeper.kept) is_sync a b e
    (λ why shown ds read. inl read)
    (refuses_within RefusesTarget is_opening is_sync a b e opening_within h))

-- what came behind the opening
works_both : (a b c : WorkNow) → Does Opens is_opening a b
    → DoesLast (Exchanges b.site.keeper.kept) is_exchange b c
    → DoesLast (SyncsTables a.site.keeper.kept) is_sync a c
works_both a b c h k =
    let same = opened_blobs a b h in
    does_then Opens (Exchanges a.site.keeper.kept) is_sync a b c
    (does_within is_opening is_sync a b opening_within h)
    (does_as (Exchanges b.site.keeper.kept) (Exchanges a.site.keeper.kept) is_sync b c
    (λ shown ds. then_as Downloads b.site.keeper.kept a.site.keeper.kept _ ds same)
    (does_within is_exchange is_sync b c exchange_within k))

-- the same is refused, by the same bytes of resources
refused_with : (kept other : Option Kept) (why : Refusal) (v : View) (ds : List Deed)
    → blobs_of kept ≡ blobs_of other → RefusesExchange kept why v ds → RefusesOpened other why v ds
refused_with kept other why v ds same h = inr (then_as (RefusesDownload why) kept other v ds same h)

-- or that was the exchange, behind the opening
pub works_behind : (a b c : WorkNow) (e : StepErr) → Does Opens is_opening a b
    → ExchangesOr b (Err e) c → SyncWorks a (Err (of_step e)) c
works_behind a b c e h k =
    let had = b.site.keeper.kept in
    let kept = a.site.keeper.kept in
    works_stopped a c e
    (refuses_as (λ why. Then Opens (RefusesOpened kept why)) (RefusesSync kept) is_sync a c e
    (λ why shown ds done. inr done)
    (refuses_behind Opens (RefusesOpened kept) is_sync a b c e
    (does_within is_opening is_sync a b opening_within h)
    (refuses_as (RefusesExchange had) (RefusesOpened kept) is_sync b c e
    (λ why shown ds. refused_with had kept why _ ds (opened_blobs a b h))
    (refuses_within (RefusesExchange had) is_exchange is_sync b c e exchange_within k))))

-- the exchange was done behind the opening, of a session that had called nothing
pub works_done : (a b c : WorkNow) → session_calls a.site.line.trail ≡ []
    → Does Opens is_opening a b → ExchangesOr b (Ok tt) c → SyncWorks a (Ok tt) c
works_done a b c none h k =
    let whole = works_both a b c h k.0 in (whole, (k.1, whole.agrees (agree_begun a.site none)))

-- or it can't go on with its keys
pub works_keyless : (a b : WorkNow) (t : Tables) (why : Refusal) → Does Opens is_opening a b
    → t ≡ b.site.tables → RefusesKeys why t → SyncWorks a (Err (Refused why)) b
works_keyless a b t why h same refuses =
    let kept = a.site.keeper.kept in
    let here = subst (λ (u : Tables). RefusesKeys why u) same refuses in
    does_as (Then Opens (RefusesOpened kept why)) (RefusesSync kept why) is_sync a b
    (λ shown ds done. inr done)
    (does_then Opens (RefusesOpened kept why) is_sync a b b
    (does_within is_opening is_sync a b opening_within h)
    (does_as Nothing (RefusesOpened kept why) is_sync b b (λ shown ds none. inl (here, none))
    (does_nothing is_sync b h.ready)))

-- ---- by whatever references

does_nowhere : {there : Stage} (P : Part) (a b : WorkNow) → DoesTo there [] P is_sync a b
    → DoesTo there [] P is_sync (placed nowhere a) (placed nowhere b)
does_nowhere {there} P a b h =
    ends_at_placed {R = Unit {0}} there P is_sync nowhere nowhere a b (Ok tt) refl h

stopped_nowhere : (a b : WorkNow) (e : StepErr) → GivesNothing is_sync a e b
    → GivesNothing is_sync (placed nowhere a) e (placed nowhere b)
stopped_nowhere a b e h = gives_up_placed is_sync nowhere nowhere a b e refl h

works_nowhere : (a b : WorkNow) (result : Result (Unit {0}) SyncErr) → SyncWorks a result b
    → SyncWorks (placed nowhere a) result (placed nowhere b)
works_nowhere a b (Ok done) h = (does_nowhere (SyncsTables a.site.keeper.kept) a b h.0, h.1)
works_nowhere a b (Err (LeaseLost seen)) h = stopped_nowhere a b (Lost seen) h
works_nowhere a b (Err (Refused why)) h =
    does_nowhere (RefusesSync a.site.keeper.kept why) a b h
works_nowhere a b (Err sync_errors.TargetFault) h = stopped_nowhere a b TargetFault h
works_nowhere a b (Err sync_errors.KeeperFault) h = stopped_nowhere a b KeeperFault h
works_nowhere a b (Err sync_errors.NoMemory) h = stopped_nowhere a b NoMemory h
works_nowhere a b (Err (Busy lock now)) h = absurd h

-- so it is said of the client, the lease and the report
pub works_here : (a b : WorkNow) (result : Result (Unit {0}) SyncErr) → a.known ≡ None
    → b.known ≡ None → SyncWorks a result b
    → SyncWorks (work a.site a.lease a.report) result (work b.site b.lease b.report)
works_here a b result before behind h =
    subst (λ (k : Option Shown). SyncWorks (work a.site a.lease a.report) result
    (work_by nowhere k b.site b.lease b.report)) behind
    (subst (λ (k : Option Shown). SyncWorks (work_by nowhere k a.site a.lease a.report) result
    (placed nowhere b)) before (works_nowhere a b result h))

-- ---- what it keeps

pub went_stopped : (a b : WorkNow) (e : StepErr) → ExchangesOr a (Err e) b → Went is_exchange a b
went_stopped a b e h = went_refused (RefusesExchange a.site.keeper.kept) is_exchange a b e h

-- a client that was told the version may do all that comes behind the opening
exchange_keeps : (call : Call) → is_exchange call ≡ true
    → MayOnceTold (Some SUPPORTED) call
exchange_keeps (Put InfoFile content) is = absurd cc
exchange_keeps (Put OldVersion content) is = absurd cc
exchange_keeps (Delete InfoFile) is = absurd cc
exchange_keeps (Delete OldVersion) is = absurd cc
exchange_keeps (MakeDir dir) is = absurd cc
exchange_keeps (Get InfoFile) is = absurd cc
exchange_keeps call is = record { keeps = refl; asks_none = λ told. refl }

-- the opening was done, and the session stands so behind it
pub record HasOpened (a b : WorkNow) : Type 0 where
  pub does : Does Opens is_opening a b
  pub sync : b.lease.kind ≡ Sync
  pub lawful : IsLawful b.lease b.site
  pub told : KnowsVersion b.lease b.site
  pub merges : MergesBetween a.site b.site

pub opened : (a b : WorkNow) → a.lease.kind ≡ Sync → Does Opens is_opening a b
    → IsLawful b.lease b.site → KnowsVersion b.lease b.site → MergesBetween a.site b.site
    → HasOpened a b
opened a b sync does lawful told merges = record {
  does = does;
  sync = ap (λ (l : Lease). l.kind) does.went.same ∙ sync;
  lawful = lawful;
  told = told;
  merges = merges;
}

pub lawful_behind : (a b c : WorkNow) → HasOpened a b → Went is_exchange b c
    → IsLawful c.lease c.site
lawful_behind a b c h went =
    (stays_lawful is_exchange (Some SUPPORTED) b c exchange_keeps h.does.ready.held h.sync h.lawful
    (λ version is. h.told ∙ is) went).lawful

-- no info is put behind the opening
pub merges_behind : (a b c : WorkNow) → HasOpened a b → Went is_exchange b c
    → MergesBetween a.site c.site
merges_behind a b c h went =
    merges_on Opens is_sync a b c (does_within is_opening is_sync a b opening_within h.does)
    (went_within is_exchange is_sync b c exchange_within went) h.merges
    (merges_none is_exchange b c (λ content. refl) went)

-- ---- behind what looks like an emptied target

-- an opening lists nothing
pub heeds_unopened : (Given : Refusal → Type 0) (a b : WorkNow) (e : StepErr)
    → RefusesOr RefusesTarget is_opening a e b → HeedsBetween Given a.site b.site
heeds_unopened Given a b e h =
    heeds_still Given is_opening a b refl (went_refused RefusesTarget is_opening a b e h)

pub heeds_keyless : (Given : Refusal → Type 0) (a b : WorkNow) → Does Opens is_opening a b
    → HeedsBetween Given a.site b.site
heeds_keyless Given a b h = heeds_still Given is_opening a b refl h.went

pub heeds_opened : (Given : Refusal → Type 0) (a b c : WorkNow) → Does Opens is_opening a b
    → Went is_exchange b c → HeedsBetween Given b.site c.site → HeedsBetween Given a.site c.site
heeds_opened Given a b c h went later =
    heeds_behind Given Opens is_sync is_opening a b c refl h
    (does_within is_opening is_sync a b opening_within h)
    (went_within is_exchange is_sync b c exchange_within went) later

-- an error of a step
pub between_step : (old new : SiteNow) (e : StepErr)
    → HeedsBetween (RefusesStep {R = Unit {0}} (Err e)) old new
    → HeedsBetween (GivesDue {R = Unit {0}} (Err (of_step e))) old new
between_step old new e h =
    between_also (RefusesStep {R = Unit {0}} (Err e)) (GivesDue {R = Unit {0}} (Err (of_step e))) old
    new (λ why gives. elim gives [
      | inl refused ↦ inl (ap of_step refused)
      | inr starved ↦ inr (ap of_step starved)
    ]) h

-- ---- what it asks for

none_if : (r : Row) (rs ws : List Row) (waits : Bool) → r.pending ≡ waits
    → (waits || list_any (λ (x : Row). x.pending) rs) ≡ false
    → (list_any (λ (x : Row). x.pending) rs ≡ false → ws ≡ [])
    → (if waits then r ∷ ws else ws) ≡ []
none_if r rs ws true is none rest = absurd cc
none_if r rs ws false is none rest = rest none

none_waiting : (rs : List Row) → has_waiting rs ≡ false → filter (λ (r : Row). r.pending) rs ≡ []
none_waiting [] none = refl
none_waiting (r ∷ rs) none =
    none_if r rs (filter (λ (x : Row). x.pending) rs) r.pending refl none (none_waiting rs)

none_behind : (a b : Bool) → a ≡ true → (a && b) ≡ false → b ≡ false
none_behind true b is none = none
none_behind false b is none = absurd cc

same_info : (one other : Info) → Some one ≡ Some other → one ≡ other
same_info one other e = cc

-- what was merged with what was read stays as it is, merged with that again
merged_again : (d : SiteNow) (remote : Info) → IsMergedIn d.tables (session_calls d.line.trail)
    → info_read (session_calls d.line.trail) ≡ Some remote
    → merged d.tables.info remote ≡ d.tables.info
merged_again d remote m told =
    let same : remote ≡ m.remote = same_info remote m.remote (sym told ∙ m.read) in
    ap (λ (i : Info). merged d.tables.info i) same
    ∙ (ap (λ (i : Info). merged i m.remote) m.is ∙ (merged-right m.own m.remote m.valid ∙ sym m.is))

-- nothing is to be sealed, or nothing waits
neither : (a b : Bool) → a ≡ false → b ≡ false → (a || b) ≡ false
neither false false first second = refl
neither false true first second = cc
neither true b first second = cc

-- where the client's own info is the merge, and asks for no sealed files, none does
plain_merged : (d : SiteNow) → IsMergedIn d.tables (session_calls d.line.trail)
    → d.tables.info.e2ee.value ≡ false
    → (read : Option Info) → info_read (session_calls d.line.trail) ≡ read
    → seals_by d.tables.info read ≡ false
plain_merged d m is None told = is
plain_merged d m is (Some remote) told =
    neither d.tables.info.e2ee.value (merged d.tables.info remote).e2ee.value is
    (ap (λ (i : Info). i.e2ee.value) (merged_again d remote m told) ∙ is)

pub can_put : (d : SiteNow) → IsMergedIn d.tables (session_calls d.line.trail)
    → needs_key d.tables ≡ false → IsReadable d
can_put d m none = by d.tables.info.e2ee.value refl where
  by : (seals : Bool) → d.tables.info.e2ee.value ≡ seals → IsReadable d
  by false is = inl (plain_merged d m is (info_read (session_calls d.line.trail)) refl)
  by true is =
      let rest : has_waiting d.tables.rows ≡ false = none_behind _ _ is none in
      inr (ap (map row_id) (none_waiting d.tables.rows rest))

-- the session has put no item yet
pub unput_opened : (a b : WorkNow) → session_calls a.site.line.trail ≡ []
    → Does Opens is_opening a b → AreUnput b.site
unfolding has_put
unput_opened a b none h = λ id new_row.
    unput_behind is_opening a b h id ∙ ap (λ (hs : List Heard). has_put id hs) none
