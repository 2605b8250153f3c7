-- A sync that wants a key is refused for it, and calls nothing behind its opening.
use Rattle.std.specs.Prelude.{ℕ, ◌≡◌, ◌⊎◌, List, [], ◌∷◌, ◌++◌, Bool, true, false, ◌&&◌, if◌then◌else◌, Option, Some, None, Result, Ok, Err, refl}
use Rattle.std.proofs.Common.{sym, ◌∙◌, ap, subst, inl, inr, append-nil, append_assoc}
use Rattle.std.proofs.lemmas.List.{append_cancel_left}
use Rattle.client.specs.Sites.{IsSameSite, SiteNow}
use Rattle.conflicts.specs.declared.error.StepErr.{StepErr}
use Rattle.conflicts.specs.declared.refusal.Refusal.{Refusal}
use Rattle.conflicts.specs.declared.refusal.Refusal.TheVariants.{NoKey}
use Rattle.jop_base.proofs.IdLaws.{IsIdText-from_is_id, is_id-from_IsIdText}
use Rattle.jop_base.specs.Id.{is_id}
use Rattle.jop_target.specs.Trail.{LineNow}
use Rattle.jop_target.specs.declared.event.Event.{Event}
use Rattle.jop_target.specs.declared.event.Event.TheVariants.{Began, Ended}
use Rattle.law_licences.proofs.Joins.{view_from-append}
use Rattle.law_licences.specs.Deeds.{Deed}
use Rattle.law_licences.specs.Trails.{session_calls}
use Rattle.law_licences.specs.Views.{Heard, View, view_from}
use Rattle.lease.proofs.WholeSessions.{at_seam}
use Rattle.lease.specs.Calls.{LeaseGoesOn}
use Rattle.lease.specs.declared.error.LeaseErr.{LeaseErr}
use Rattle.lease.specs.declared.error.LeaseErr.TheVariants as lease_errors
use Rattle.lease.specs.declared.lease.Lease.{Lease}
use Rattle.local_store.specs.declared.row.Row.{Row}
use Rattle.local_store.specs.declared.tables.Tables.{Tables}
use Rattle.session.proofs.Asked.{calls_locks}
use Rattle.session.proofs.Behind.{behind}
use Rattle.session.specs.Doing.{Does, Went}
use Rattle.session.specs.Work.{WorkNow}
use Rattle.session_opening.proofs.Joined.{put_tables}
use Rattle.session_opening.proofs.HeadwayPuts.{opened_short}
use Rattle.session_opening.proofs.Headways.{IsOnce, once_on, once_same}
use Rattle.session_opening.specs.Opening.{Opens, ReadsInfo, SetsInfo, is_opening}
use Rattle.session_opening.specs.Headway.{IsOpened, Headway, StopsOpening, Unread, headway_in, headway_of}
use Rattle.session_opening.specs.Verdict.{last_calls, last_calls_from}
use Rattle.sync_info.specs.Merge.{merged}
use Rattle.sync_info.specs.declared.info.Info.{Info}
use Rattle.sync_session.proofs.Ordered.{added_calls, last_begun, last_ended, left_calls, left_given}
use Rattle.sync_session.specs.Errors.{of_step}
use Rattle.sync_session.specs.Keys.{IsActiveKey, RefusesKeys, has_waiting, needs_key}
use Rattle.sync_session.specs.Leaving.{LeavesLease, answer_once_left}
use Rattle.sync_session.specs.Ordering.{AddsByKey, EndsAtKeeper, GivesDue, HeedsKey, RunsByKey, named_key, wants_key}
use Rattle.sync_session.specs.Syncing.{SyncGoesOn, begun_at, ended_at}
use Rattle.sync_session.specs.Working.{SyncWorks, is_exchange}
use Rattle.sync_session.specs.declared.sync_err.SyncErr.{SyncErr}
use Rattle.sync_session.specs.declared.sync_err.SyncErr.TheVariants.{Busy, LeaseLost, Refused, TargetFault, KeeperFault, NoMemory}

-- ---- the key that an info names

named_by : (name : List ℕ) (is : Bool) (key : Option (List ℕ)) → is_id name ≡ is
    → IsActiveKey name key → key ≡ (if is then Some name else None)
named_by name true (Some id) found named = ap Some named.0
named_by name false None found named = refl
named_by name true None found named = absurd (named (IsIdText-from_is_id name found))
named_by name false (Some id) found named =
    let never : false ≡ true = sym found ∙ is_id-from_IsIdText name named.1 in
    absurd cc

named_is : (info : Info) (key : Option (List ℕ)) → IsActiveKey info.active.value key
    → key ≡ named_key info
named_is info key named =
    named_by info.active.value (is_id info.active.value) key refl named

-- ---- nothing was opened

-- nothing is wanted of a session that has called nothing
pub unread_by_key : (Given : Refusal → Type 0) (Fails : Type 0) (t : Tables) (o : Headway)
    → o ≡ Unread → HeedsKey Given Fails t o
unread_by_key Given Fails t o is =
    subst (HeedsKey Given Fails t) (sym is) (record {
      spared = λ info never. absurd never;
      given = λ info never wants. absurd never;
    })

pub first_unread : (own : Info) (calls : List Heard) → calls ≡ []
    → headway_of own calls ≡ Unread
unfolding headway_of
first_unread own calls none = ap (headway_of own) none

-- an opening that stopped
abbrev pub GivesStep : StepErr → Refusal → Type 0
GivesStep e why = (of_step e ≡ Refused why) ⊎ (of_step e ≡ NoMemory)

pub stopped_by_key : (t : Tables) (e : StepErr) (o : Headway) → StopsOpening t.info e o
    → HeedsKey (GivesStep e) (of_step e ≡ KeeperFault) t o
stopped_by_key t e o h = record {
  spared = λ info beyond. absurd (h.short info beyond);
  given = λ info opened wants. elim (h.why info opened) [
    | inl starved ↦ inl (inr (ap of_step starved))
    | inr failed ↦ inr (ap of_step failed.0, failed.1)
  ];
}

-- ---- it was opened

-- an opening leaves the rows as they are
set_rows : (info : Info) (v : View) (ds : List Deed) → SetsInfo info v ds
    → (view_from v ds).tables.rows ≡ v.tables.rows
unfolding view_from
set_rows info v ds (inl h) = ap (λ (x : List Deed). (view_from v x).tables.rows) h.1
set_rows info v ds (inr h) = ap (λ (x : List Deed). (view_from v x).tables.rows) h.1

read_tables : (remote : Info) (v : View) (ds : List Deed) → ReadsInfo remote v ds
    → (view_from v ds).tables ≡ v.tables
unfolding view_from
read_tables remote v ds h = ap (λ (x : List Deed). (view_from v x).tables) h.1.1.1

opened_rows : (v : View) (ds : List Deed) → Opens v ds
    → (view_from v ds).tables.rows ≡ v.tables.rows
opened_rows v ds h =
    let remote = h.0 in
    let both = h.1.1 in
    let w = view_from v both.first in
    let joins = both.behind in
    let info = merged w.tables.info remote in
    let m = view_from w joins.first in
    ap (λ (x : List Deed). (view_from v x).tables.rows) both.both
    ∙ (ap (λ (u : View). u.tables.rows) (view_from-append v both.first both.second)
    ∙ (ap (λ (x : List Deed). (view_from w x).tables.rows) joins.both
    ∙ (ap (λ (u : View). u.tables.rows) (view_from-append w joins.first joins.second)
    ∙ (set_rows info m joins.second joins.behind
    ∙ (ap (λ (t : Tables). t.rows) (put_tables info remote w joins.first joins.before)
    ∙ ap (λ (t : Tables). t.rows) (read_tables remote v both.first both.before))))))

-- what is wanted behind it is what is wanted by the tables before it
pub wants_behind : (a b : WorkNow) (info : Info) → Does Opens is_opening a b
    → info ≡ b.site.tables.info → wants_key a.site.tables info ≡ needs_key b.site.tables
wants_behind a b info h is =
    let rows : b.site.tables.rows ≡ a.site.tables.rows =
    behind (λ t cs u us. u.rows ≡ t.rows) Opens is_opening a b opened_rows h in
    ap (λ (i : Info). i.e2ee.value && has_waiting a.site.tables.rows) is
    ∙ ap (λ (rs : List Row). b.site.tables.info.e2ee.value && has_waiting rs) (sym rows)

-- it is refused for its keys
keys_given : (t : Tables) (info : Info) (why : Refusal) → RefusesKeys why t → info ≡ t.info
    → GivesDue {R = Unit {0}} (Err (Refused why)) (NoKey (named_key info))
keys_given t info (NoKey key) refuses is =
    inl (ap (λ (k : Option (List ℕ)). Refused (NoKey k))
    (named_is t.info key refuses.1 ∙ ap named_key (sym is)))
keys_given t info why refuses is = absurd refuses

pub refused_by_key : (t u : Tables) (why : Refusal) (o : Headway) → RefusesKeys why u
    → IsOpened u.info o
    → HeedsKey (GivesDue {R = Unit {0}} (Err (Refused why)))
    (EndsAtKeeper {R = Unit {0}} (Err (Refused why))) t o
refused_by_key t u why o refuses opened = record {
  spared = λ info beyond. absurd (opened_short u.info info o opened beyond);
  given = λ info is wants.
      inl (keys_given u info why refuses (once_same u.info info o (inl opened) (inl is)));
}

-- it goes on without a key, whatever it comes to
pub spared_by_key : {R : Type 0} (a b c : WorkNow) (result : Result R SyncErr)
    → Does Opens is_opening a b → needs_key b.site.tables ≡ false → Went is_exchange b c
    → IsOpened b.site.tables.info (headway_in a.site.tables.info b)
    → RunsByKey a.site.tables result c.site
spared_by_key a b c result opens none went opened =
    let own = a.site.tables.info in
    let info = b.site.tables.info in
    let o = headway_in own c in
    let once : IsOnce info o = once_on own info is_exchange b c went opened in
    record {
      spared = λ other beyond.
          wants_behind a b other opens (once_same info other o once (inr beyond)) ∙ none;
      given = λ other is wants.
          let never : true ≡ false =
          sym wants ∙ (wants_behind a b other opens (once_same info other o once (inl is)) ∙ none) in
          absurd cc;
    }

-- ---- the lease was given up

-- a keeper that failed is answered behind any release, but for want of memory
keeper_answer : (X : Type 0) (why : Refusal) (released : Result (Unit {0}) LeaseErr) → X
    → GivesDue (answer_once_left released (Err KeeperFault)) why
    ⊎ (EndsAtKeeper (answer_once_left released (Err KeeperFault)) × X)
keeper_answer X why (Ok done) x = inr (refl, x)
keeper_answer X why (Err lease_errors.NoMemory) x = inl (inr refl)
keeper_answer X why (Err lease_errors.TargetFault) x = inr (refl, x)
keeper_answer X why (Err (lease_errors.Lost seen)) x = inr (refl, x)
keeper_answer X why (Err (lease_errors.Busy lock now)) x = inr (refl, x)

left_keeper : (X : Type 0) (lease : Lease) (worked result : Result (Unit {0}) SyncErr)
    (old new : SiteNow) → LeavesLease lease worked old result new → (why : Refusal)
    → EndsAtKeeper worked → X → GivesDue result why ⊎ (EndsAtKeeper result × X)
left_keeper X lease (Ok done) result old new leaves why ends x = absurd ends
left_keeper X lease (Err (Busy lock now)) result old new leaves why ends x = absurd cc
left_keeper X lease (Err (LeaseLost seen)) result old new leaves why ends x = absurd cc
left_keeper X lease (Err (Refused cause)) result old new leaves why ends x = absurd cc
left_keeper X lease (Err TargetFault) result old new leaves why ends x = absurd cc
left_keeper X lease (Err NoMemory) result old new leaves why ends x = absurd cc
left_keeper X lease (Err KeeperFault) result old new leaves why ends x =
    subst (λ (r : Result (Unit {0}) SyncErr). GivesDue r why ⊎ (EndsAtKeeper r × X)) (sym leaves.is)
    (keeper_answer X why leaves.released x)

left_either : (X : Type 0) (lease : Lease) (worked result : Result (Unit {0}) SyncErr)
    (old new : SiteNow) → LeavesLease lease worked old result new → (why : Refusal)
    → GivesDue worked why ⊎ (EndsAtKeeper worked × X)
    → GivesDue result why ⊎ (EndsAtKeeper result × X)
left_either X lease worked result old new leaves why gives = elim gives [
  | inl given ↦ inl (left_given lease worked result old new leaves why given)
  | inr failed ↦ left_keeper X lease worked result old new leaves why failed.0 failed.1
]

left_by_key : (t : Tables) (lease : Lease) (worked result : Result (Unit {0}) SyncErr)
    (old new : SiteNow) → LeavesLease lease worked old result new → RunsByKey t worked old
    → RunsByKey t result new
left_by_key t lease worked result old new leaves h =
    subst (λ (calls : List Heard). HeedsKey (GivesDue result) (EndsAtKeeper result) t
    (headway_of t.info calls)) (sym (left_calls lease worked result old new leaves))
    (record {
      spared = h.spared;
      given = λ info opened wants.
          left_either (¬ (info ≡ t.info)) lease worked result old new leaves
          (NoKey (named_key info)) (h.given info opened wants);
    })

-- so is a session's lease
pub key_left : (a b : WorkNow) (worked result : Result (Unit {0}) SyncErr) (new : SiteNow)
    → SyncWorks a worked b → RunsByKey a.site.tables worked b.site
    → LeavesLease b.lease worked b.site result new → RunsByKey a.site.tables result new
key_left a b worked result new works h leaves =
    left_by_key a.site.tables b.lease worked result b.site new leaves h

-- ---- the lease is taken

pub idle_by_key : (Given : Refusal → Type 0) (Fails : Type 0) (t : Tables) (client : List ℕ)
    (old new : SiteNow) (s u : LineNow) → old.line ≡ s → new.line ≡ u
    → session_calls old.line.trail ≡ [] → LeaseGoesOn client s u
    → HeedsKey Given Fails t (headway_of t.info (session_calls new.line.trail))
idle_by_key Given Fails t client old new s u o n none goes =
    let line : LeaseGoesOn client old.line new.line =
    subst (λ (l : LineNow). LeaseGoesOn client l new.line) (sym o)
    (subst (λ (l : LineNow). LeaseGoesOn client s l) (sym n) goes) in
    unread_by_key Given Fails t (headway_of t.info (session_calls new.line.trail))
    (first_unread t.info (session_calls new.line.trail)
    (calls_locks client old new.line line ∙ none))

-- the tables are as they were before it
pub held_by_key : (Given : Refusal → Type 0) (Fails : Type 0) (old held : SiteNow)
    (calls : List Heard) → IsSameSite old held
    → HeedsKey Given Fails held.tables (headway_of held.tables.info calls)
    → HeedsKey Given Fails old.tables (headway_of old.tables.info calls)
held_by_key Given Fails old held calls same h =
    subst (λ (t : Tables). HeedsKey Given Fails t (headway_of t.info calls)) same.tables h

-- ---- in a trail

-- its end isn't written down
pub open_by_key : {R : Type 0} (client : List ℕ) (old begun mid : SiteNow) (result : Result R SyncErr)
    → begun ≡ begun_at old → SyncGoesOn client begun.line mid.line
    → RunsByKey begun.tables result mid → AddsByKey old.tables old.line.trail result mid.line.trail
open_by_key client old begun mid result is goes h added trail =
    let more = goes.goes.line.more in
    let tables : begun.tables ≡ old.tables = ap (λ (d : SiteNow). d.tables) is in
    let at = at_seam old.line.trail more begun.line.trail mid.line.trail
    (ap (λ (d : SiteNow). d.line.trail) is) goes.goes.line.trail in
    let same : added ≡ Began ∷ more =
    append_cancel_left old.line.trail added (Began ∷ more) (sym trail ∙ at) in
    let calls : last_calls added ≡ session_calls mid.line.trail =
    ap last_calls same ∙ (last_begun more ∙ added_calls client old begun mid is goes) in
    subst (λ (cs : List Heard). HeedsKey (GivesDue result) (EndsAtKeeper result) old.tables
    (headway_of old.tables.info cs)) (sym calls)
    (subst (λ (t : Tables). RunsByKey t result mid) tables h)

-- and it is
pub whole_by_key : {R : Type 0} (client : List ℕ) (old begun mid new : SiteNow)
    (result : Result R SyncErr) → begun ≡ begun_at old → SyncGoesOn client begun.line mid.line
    → new ≡ ended_at mid → RunsByKey begun.tables result mid
    → AddsByKey old.tables old.line.trail result new.line.trail
whole_by_key client old begun mid new result is goes ended h added trail =
    let more = goes.goes.line.more in
    let tables : begun.tables ≡ old.tables = ap (λ (d : SiteNow). d.tables) is in
    let at = at_seam old.line.trail more begun.line.trail mid.line.trail
    (ap (λ (d : SiteNow). d.line.trail) is) goes.goes.line.trail in
    let whole : new.line.trail ≡ old.line.trail ++ Began ∷ (more ++ Ended ∷ []) =
    ap (λ (d : SiteNow). d.line.trail) ended
    ∙ (ap (λ (es : List Event). es ++ Ended ∷ []) at
    ∙ append_assoc old.line.trail (Began ∷ more) (Ended ∷ [])) in
    let same : added ≡ Began ∷ (more ++ Ended ∷ []) =
    append_cancel_left old.line.trail added (Began ∷ (more ++ Ended ∷ [])) (sym trail ∙ whole) in
    let calls : last_calls added ≡ session_calls mid.line.trail =
    ap last_calls same
    ∙ (last_begun (more ++ Ended ∷ [])
    ∙ (last_ended [] more ∙ added_calls client old begun mid is goes)) in
    subst (λ (cs : List Heard). HeedsKey (GivesDue result) (EndsAtKeeper result) old.tables
    (headway_of old.tables.info cs)) (sym calls)
    (subst (λ (t : Tables). RunsByKey t result mid) tables h)

last_none : last_calls [] ≡ []
unfolding last_calls_from
last_none = refl

-- nothing was added
pub none_by_key : {R : Type 0} (old new : SiteNow) (result : Result R SyncErr) → new ≡ old
    → AddsByKey old.tables old.line.trail result new.line.trail
none_by_key old new result is added trail =
    let none : added ≡ [] =
    append_cancel_left old.line.trail added []
    (sym trail ∙ (ap (λ (d : SiteNow). d.line.trail) is ∙ sym (append-nil old.line.trail))) in
    unread_by_key (GivesDue result) (EndsAtKeeper result) old.tables
    (headway_of old.tables.info (last_calls added))
    (first_unread old.tables.info (last_calls added) (ap last_calls none ∙ last_none))

-- by another name of what stands behind it
pub key_as : {R : Type 0} (t : Tables) (old : List Event) (result : Result R SyncErr)
    (new same : SiteNow) → AddsByKey t old result new.line.trail → new ≡ same
    → AddsByKey t old result same.line.trail
key_as t old result new same h is =
    subst (λ (d : SiteNow). AddsByKey t old result d.line.trail) is h
