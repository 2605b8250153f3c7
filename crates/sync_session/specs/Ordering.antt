-- That a sync gives the refusal that its calls call for, and calls nothing behind them.
use Rattle.std.specs.Prelude.{ℕ, ◌≡◌, ◌⊎◌, List, ◌++◌, Bool, true, false, ◌&&◌, if◌then◌else◌, Option, Some, None, Result, Ok, Err}
use Rattle.conflicts.specs.declared.refusal.Refusal.{Refusal}
use Rattle.conflicts.specs.declared.refusal.Refusal.TheVariants.{NoKey}
use Rattle.client.specs.Sites.{SiteNow}
use Rattle.jop_base.specs.Id.{is_id}
use Rattle.jop_target.specs.declared.event.Event.{Event}
use Rattle.law_licences.specs.Trails.{session_calls}
use Rattle.local_store.specs.declared.tables.Tables.{Tables}
use Rattle.session_opening.specs.Headway.{IsBeyond, IsOpened, Headway, headway_of}
use Rattle.session_opening.specs.Verdict.{HeedsVerdict, last_calls, verdict_of}
use Rattle.sync_info.specs.declared.info.Info.{Info}
use Rattle.sync_session.specs.Keys.{has_waiting}
use Rattle.sync_session.specs.declared.sync_err.SyncErr.{SyncErr}
use Rattle.sync_session.specs.declared.sync_err.SyncErr.TheVariants.{KeeperFault, NoMemory, Refused}

-- the refusal is given, or memory ran out
abbrev pub GivesDue : {R : Type 0} → Result R SyncErr → Refusal → Type 0
GivesDue (Ok value) why = ⊥
GivesDue (Err e) why = (e ≡ Refused why) ⊎ (e ≡ NoMemory)

-- a session that goes on has called no more than was due, and gives the refusal that is
abbrev pub RunsInOrder : {R : Type 0} → Result R SyncErr → SiteNow → Type 0
RunsInOrder result d = HeedsVerdict (GivesDue result) (verdict_of (session_calls d.line.trail))

-- so does one that was added to a trail
abbrev pub AddsInOrder : {R : Type 0} → List Event → Result R SyncErr → List Event → Type 0
AddsInOrder old result new =
    (added : List Event) → new ≡ old ++ added
    → HeedsVerdict (GivesDue result) (verdict_of (last_calls added))

-- ---- a key that is wanted

-- the key that an info names, if it names one
abbrev pub named_key : Info → Option (List ℕ)
named_key info = if is_id info.active.value then Some info.active.value else None

-- by this info something of these tables that waits is to be sealed
abbrev pub wants_key : Tables → Info → Bool
wants_key t info = info.e2ee.value && has_waiting t.rows

abbrev pub EndsAtKeeper : {R : Type 0} → Result R SyncErr → Type 0
EndsAtKeeper (Ok value) = ⊥
EndsAtKeeper (Err e) = e ≡ KeeperFault

-- A session that began with these tables, was just opened, and wants a key, is refused for it; or the
-- keeper failed where the client's own info was to become the target's. One that has called more
-- wanted none.
pub record HeedsKey (Given : Refusal → Type 0) (Fails : Type 0) (t : Tables) (headway : Headway)
    : Type 0 where
  pub spared : (info : Info) → IsBeyond info headway → wants_key t info ≡ false
  pub given : (info : Info) → IsOpened info headway → wants_key t info ≡ true
      → Given (NoKey (named_key info)) ⊎ (Fails × ¬ (info ≡ t.info))

-- that is so of a session that goes on
abbrev pub RunsByKey : {R : Type 0} → Tables → Result R SyncErr → SiteNow → Type 0
RunsByKey t result d =
    HeedsKey (GivesDue result) (EndsAtKeeper result) t
    (headway_of t.info (session_calls d.line.trail))

-- and of one that was added to a trail
abbrev pub AddsByKey : {R : Type 0} → Tables → List Event → Result R SyncErr → List Event → Type 0
AddsByKey t old result new =
    (added : List Event) → new ≡ old ++ added
    → HeedsKey (GivesDue result) (EndsAtKeeper result) t (headway_of t.info (last_calls added))
