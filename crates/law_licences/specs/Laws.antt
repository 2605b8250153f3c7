-- What the licences come to.
use Rattle.std.specs.Prelude.{◌≡◌, ◌⊎◌, ◌++◌, ℕ, List, true}
use Rattle.jop_target.specs.declared.event.Event.{Event}
use Rattle.local_store.specs.Changing.{after_all}
use Rattle.local_store.specs.Sound.{IsSound}
use Rattle.local_store.specs.Tables.{row_at}
use Rattle.local_store.specs.Tale.{made_in, numbers_from}
use Rattle.local_store.specs.declared.change.Change.{Change}
use Rattle.law_licences.specs.Checks.{is_pending}
use Rattle.law_licences.specs.Deeds.{Deed, changes_in, deeds_of, events_of}
use Rattle.law_licences.specs.Licences.{AreWork, IsInside, MergesInfo, ObeysData}
use Rattle.law_licences.specs.Settling.{HasSettled}
use Rattle.law_licences.specs.Trails.{calls_from}
use Rattle.law_licences.specs.Views.{View, view_from}

-- ---- two parts

-- two parts that have their licences have them together
abbrev pub ObeysInTurn : Type 0
ObeysInTurn =
    (v : View) (ds es : List Deed) → ObeysData v ds → ObeysData (view_from v ds) es →
    ObeysData v (ds ++ es)

-- and apart, if they have them together
abbrev pub ObeysInParts : Type 0
ObeysInParts =
    (v : View) (ds es : List Deed) → ObeysData v (ds ++ es) →
    ObeysData v ds × ObeysData (view_from v ds) es

-- so with the licences of the info
abbrev pub MergesInTurn : Type 0
MergesInTurn =
    (v : View) (ds es : List Deed) → MergesInfo v ds → MergesInfo (view_from v ds) es →
    MergesInfo v (ds ++ es)

-- two parts of a trail, each with its changes, tell their deeds one after the other
abbrev pub IsToldInTurn : Type 0
IsToldInTurn =
    (es fs : List Event) (cs ds : List Change) (n : ℕ) → made_in es ≡ numbers_from n cs →
    deeds_of (es ++ fs) (cs ++ ds) ≡ deeds_of es cs ++ deeds_of fs ds

-- ---- rows that wait

-- a row that waits behind a session's deeds waited before
abbrev pub MakesNoneWait : Type 0
MakesNoneWait =
    (v : View) (ds : List Deed) (id : List ℕ) → IsSound v.tables → IsInside v.stage →
    AreWork ds → ObeysData v ds → is_pending (row_at (view_from v ds).tables id) ≡ true →
    is_pending (row_at v.tables id) ≡ true

-- a row that waited waits still, or was settled
abbrev pub SettlesOrLeaves : Type 0
SettlesOrLeaves =
    (v : View) (ds : List Deed) (id : List ℕ) → IsInside v.stage → AreWork ds →
    ObeysData v ds → is_pending (row_at v.tables id) ≡ true →
    (is_pending (row_at (view_from v ds).tables id) ≡ true) ⊎ HasSettled id (changes_in ds)

-- ---- what a session does within

-- its calls are those of its events
abbrev pub CallsAreTold : Type 0
CallsAreTold =
    (n : ℕ) (v : View) (ds : List Deed) → AreWork ds →
    (view_from v ds).calls ≡ calls_from v.calls (events_of n ds)

-- and the tables come from its changes
abbrev pub TablesAreTold : Type 0
TablesAreTold =
    (v : View) (ds : List Deed) → AreWork ds →
    (view_from v ds).tables ≡ after_all v.tables (changes_in ds)
