-- What was saved and removed here stays settled to a session's end.
use Rattle.std.specs.Prelude.{ℕ, ◌≡◌, List, [], ◌∷◌, Bool, true, false, if◌then◌else◌, length, Option, Some, None, refl}
use Rattle.std.proofs.Common.{sym, ap, subst, ◌∙◌, inr}
use Rattle.client.specs.Sites.{SiteNow}
use Rattle.jop_base.specs.Keyed.{cut}
use Rattle.jop_target.specs.declared.call.Call.{Call}
use Rattle.law_licences.proofs.Settled.{made_inside, pending-view_from, stays_inside}
use Rattle.law_licences.proofs.Told.{calls_from-append, calls-view_from, tables-view_from}
use Rattle.law_licences.specs.Checks.{is_pending}
use Rattle.law_licences.specs.Deeds.{Deed, Begins, Asks, Makes, MakesUntold, Ends, Stops, events_of}
use Rattle.law_licences.specs.Licences.{AreWork, Each, IsInside, MayChange, MayDo}
use Rattle.law_licences.specs.Trails.{session_calls}
use Rattle.law_licences.specs.Views.{Heard, View, view_after_change, view_after_call, is_about_locks, view_from}
use Rattle.item_text.specs.declared.item.Item.{Item as AnItem}
use Rattle.local_store.specs.Changing.{after, conflicted, uploaded, opened}
use Rattle.local_store.specs.Rows.{deletion_id}
use Rattle.local_store.specs.Sound.{IsSound}
use Rattle.local_store.specs.Tables.{row_at}
use Rattle.local_store.specs.declared.change.Change.{Change}
use Rattle.local_store.specs.declared.change.Change.TheVariants.{Removed, Uploaded, Dropped, Conflict, Moved, Opened}
use Rattle.local_store.specs.declared.content.Content.{Content}
use Rattle.local_store.specs.declared.deletion.Deletion.{Deletion}
use Rattle.local_store.specs.declared.row.Row.{Row}
use Rattle.local_store.specs.declared.tables.Tables.{Tables}
use Rattle.session.proofs.Recast.{unknown_fits}
use Rattle.session.specs.Agreeing.{AgreeBut, moved}
use Rattle.session.specs.Doing.{IsTold, Went}
use Rattle.session.specs.Work.{WorkNow, view_of}
use Rattle.upload.specs.Settled.{AreSettled, WasUnreadable}
use Rattle.sync_session.specs.Working.{LeavesNothing}

-- ---- files that were seen and can't be read

unread_if : (id : List ℕ) (locks : Bool) (h : Heard) (calls : List Heard) → WasUnreadable id calls
    → WasUnreadable id (if locks then calls else h ∷ calls)
unfolding WasUnreadable
unread_if id true h calls was = was
unread_if id false h calls was = inr was

unread_stays : (id : List ℕ) (v : View) (ds : List Deed) → AreWork ds → WasUnreadable id v.calls
    → WasUnreadable id (view_from v ds).calls
unfolding AreWork view_from
unread_stays id v [] work was = was
unread_stays id v (Begins ∷ ds) work was = absurd work
unread_stays id v (Asks call reply ∷ ds) work was =
    unread_stays id (view_after_call v call reply) ds work
    (unread_if id (is_about_locks call) (record { call = call; reply = reply }) v.calls was)
unread_stays id v (Makes c ∷ ds) work was = unread_stays id (view_after_change v c) ds work.1 was
unread_stays id v (MakesUntold ∷ ds) work was = absurd work
unread_stays id v (Ends ∷ ds) work was = absurd work
unread_stays id v (Stops ∷ ds) work was = absurd work

-- ---- deletions

-- no change that a session may make adds a deletion
none_conflicted : (t : Tables) (id : List ℕ) (remote : Option (List ℕ × Content)) (copies : Bool)
    (row : Option Row) → t.deletions ≡ [] → (conflicted t id remote copies row).deletions ≡ []
none_conflicted t id remote copies None none = none
none_conflicted t id None true (Some r) none = none
none_conflicted t id None false (Some r) none = none
none_conflicted t id (Some remote) true (Some r) none = none
none_conflicted t id (Some remote) false (Some r) none = none

none_uploaded : (t : Tables) (id bytes : List ℕ) (row : Option Row) → t.deletions ≡ []
    → (uploaded t id bytes row).deletions ≡ []
none_uploaded t id bytes None none = none
none_uploaded t id bytes (Some r) none = none

none_opened : (t : Tables) (id : List ℕ) (item : AnItem) (row : Option Row) → t.deletions ≡ []
    → (opened t id item row).deletions ≡ []
none_opened t id item None none = none
none_opened t id item (Some r) none = none

none_cut : (ds : List Deletion) (id : List ℕ) → ds ≡ [] → cut deletion_id ds id ≡ []
unfolding cut
none_cut [] id none = refl
none_cut (d ∷ ds) id none = absurd cc

none_after : (v : View) (t : Tables) (c : Change) → MayChange v c → t.deletions ≡ []
    → (after t c).deletions ≡ []
none_after v t (Removed id) may none = absurd may
none_after v t (Uploaded id bytes) may none = none_uploaded t id bytes (row_at t id) none
none_after v t (Dropped id) may none = none_cut t.deletions id none
none_after v t (Conflict id remote copies) may none =
    none_conflicted t id remote copies (row_at t id) none
none_after v t (Moved id) may none = none_conflicted t id None true (row_at t id) none
none_after v t (Opened id item) may none = none_opened t id item (row_at t id) none
none_after v t c may none = none

none_stays : (v : View) (ds : List Deed) → IsInside v.stage → AreWork ds → Each MayDo v ds
    → v.tables.deletions ≡ [] → (view_from v ds).tables.deletions ≡ []
unfolding AreWork Each view_from
none_stays v [] inside work obeys none = none
none_stays v (Begins ∷ ds) inside work obeys none = absurd work
none_stays v (Asks call reply ∷ ds) inside work obeys none =
    none_stays (view_after_call v call reply) ds inside work obeys.1 none
none_stays v (Makes c ∷ ds) inside work obeys none =
    none_stays (view_after_change v c) ds (stays_inside v.stage c inside) work.1 obeys.1
    (none_after v v.tables c (made_inside v.stage v c inside obeys.0) none)
none_stays v (MakesUntold ∷ ds) inside work obeys none = absurd work
none_stays v (Ends ∷ ds) inside work obeys none = absurd work
none_stays v (Stops ∷ ds) inside work obeys none = absurd work

-- ---- a part of a session

calls_behind : (sort : Call → Bool) (a b : WorkNow) (w : Went sort a b)
    → session_calls b.site.line.trail ≡ (view_from (view_of None a.site) w.deeds).calls
calls_behind sort a b w =
    let n = length a.site.made in
    ap session_calls w.trail
    ∙ (calls_from-append [] a.site.line.trail (events_of n w.deeds)
    ∙ sym (calls-view_from n (view_of None a.site) w.deeds w.work))

tables_behind : (sort : Call → Bool) (a b : WorkNow) (w : Went sort a b) → IsTold a b w.deeds
    → (view_from (view_of None a.site) w.deeds).tables ≡ b.site.tables
tables_behind sort a b w told =
    tables-view_from (view_of None a.site) w.deeds w.work ∙ sym told.tables

pub settled_behind : (sort : Call → Bool) (a b : WorkNow) (w : Went sort a b)
    → IsTold a b w.deeds → a.known ≡ None → IsSound a.site.tables → AreSettled a.site
    → AreSettled b.site
settled_behind sort a b w told unknown sound settled = λ id waits.
    let v = view_of None a.site in
    let waited : is_pending (row_at a.site.tables id) ≡ true =
    pending-view_from v w.deeds id sound tt w.work (w.obeys None (unknown_fits a.known None unknown))
    (ap (λ (t : Tables). is_pending (row_at t id)) (tables_behind sort a b w told) ∙ waits) in
    subst (WasUnreadable id) (sym (calls_behind sort a b w))
    (unread_stays id v w.deeds w.work (settled id waited))

none_behind : (sort : Call → Bool) (a b : WorkNow) (w : Went sort a b) → IsTold a b w.deeds
    → a.known ≡ None → a.site.tables.deletions ≡ [] → b.site.tables.deletions ≡ []
none_behind sort a b w told unknown none =
    ap (λ (t : Tables). t.deletions) (sym (tables_behind sort a b w told))
    ∙ none_stays (view_of None a.site) w.deeds tt w.work
    (w.obeys None (unknown_fits a.known None unknown)) none

pub leaves_nothing_behind : (sort : Call → Bool) (a b : WorkNow) (w : Went sort a b)
    → IsTold a b w.deeds → a.known ≡ None → IsSound a.site.tables → LeavesNothing a.site
    → LeavesNothing b.site
leaves_nothing_behind sort a b w told unknown sound h = record {
  settled = settled_behind sort a b w told unknown sound h.settled;
  deleted = none_behind sort a b w told unknown h.deleted;
}

-- ---- the bytes of resources

-- a session that has called nothing has moved none
pub agree_begun : (d : SiteNow) → session_calls d.line.trail ≡ [] → AgreeBut [] d
unfolding moved
agree_begun d none = λ id owed s k told_store told_kept has_moved.
    let no : true ≡ false = sym has_moved ∙ ap (moved id) none in
    absurd cc
