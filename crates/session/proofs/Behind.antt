-- What a part says of what stands behind it: all else that a function could ensure of its session.
use Rattle.std.specs.Prelude.{ℕ, ◌≡◌, List, [], ◌∷◌, Bool, true, if◌then◌else◌, Option, Some, None, Result, Ok, Err, OnOk}
use Rattle.std.proofs.Common.{ap, sym, subst, ◌∙◌}
use Rattle.conflicts.specs.declared.error.StepErr.{StepErr}
use Rattle.conflicts.specs.declared.error.StepErr.TheVariants.{Lost, TargetFault, KeeperFault, Refused, NoMemory}
use Rattle.jop_base.proofs.KeyedLaws.{bytes_eq-refl}
use Rattle.jop_base.specs.declared.path.Path.TheVariants.{Item}
use Rattle.jop_target.specs.declared.call.Call.{Call}
use Rattle.jop_target.specs.declared.call.Call.TheVariants.{Get}
use Rattle.jop_target.specs.declared.reply.Reply.{Reply}
use Rattle.lease.specs.Standing.{IsSameBut}
use Rattle.law_licences.proofs.Joins.{view_from-append}
use Rattle.law_licences.specs.Checks.{is_on, last_on}
use Rattle.law_licences.specs.Deeds.{Deed}
use Rattle.law_licences.specs.Trails.{session_calls}
use Rattle.law_licences.specs.Views.{Heard, Shown, View, Working, view_from}
use Rattle.local_store.specs.Changing.{after, after_all}
use Rattle.local_store.specs.Tables.{base_of, row_at}
use Rattle.local_store.specs.declared.change.Change.{Change}
use Rattle.local_store.specs.declared.tables.Tables.{Tables}
use Rattle.session.proofs.Ending.{does_as}
use Rattle.session.proofs.Joins.{view_at}
use Rattle.session.proofs.Seen.{view_from-but_locks}
use Rattle.session.specs.Asking.{IsAnswer}
use Rattle.session.specs.Doing.{Does, DoesTo, Ends, EndsAt, GivesNothing, Went}
use Rattle.session.specs.Findings.{IsSoundFinding, finding_of}
use Rattle.session.specs.Parts.{Changes, ForEach, Hears, Part, but_locks}
use Rattle.session.specs.Saving.{Told}
use Rattle.session.specs.Sessions.{Fetches, FindsFile, HearsOr, IsFound}
use Rattle.session.specs.Work.{IsAtWork, WorkNow, view_of}
use Rattle.session.specs.declared.finding.Finding.{Finding}

-- ---- tables and calls

-- How tables and calls before a part and behind it stand to each other. What holds of all that may be seen behind its
-- sentence holds behind it.
pub behind : {left : List Told} (R : Tables → List Heard → Tables → List Heard → Type 0)
    (P : Part) (sort : Call → Bool) (a b : WorkNow)
    → ((v : View) (ds : List Deed) → P v ds
    → R v.tables v.calls (view_from v ds).tables (view_from v ds).calls)
    → DoesTo Working left P sort a b
    → R a.site.tables (session_calls a.site.line.trail) b.site.tables
    (session_calls b.site.line.trail)
behind R P sort a b all h =
    let v = view_of None a.site in
    let same =
    view_from-but_locks v h.went.deeds
    ∙ view_at sort a b h.went h.told None (h.stands None) in
    subst (λ (w : View). R v.tables v.calls w.tables w.calls) same
    (all v (but_locks h.went.deeds) (h.part None))

-- ---- the session

pub ready_behind : {R : Type 0} (P : Part) (sort : Call → Bool) (a b : WorkNow)
    (result : Result R StepErr) → Ends P sort a result b → OnOk result (IsAtWork b)
ready_behind P sort a b (Ok value) h = h.ready
ready_behind P sort a b (Err e) h = tt

pub went_given_up : (sort : Call → Bool) (a b : WorkNow) (e : StepErr) → GivesNothing sort a e b
    → Went sort a b
went_given_up sort a b (Lost seen) h = h.0.went
went_given_up sort a b TargetFault h = h.0.went
went_given_up sort a b KeeperFault h = h.stops.went
went_given_up sort a b (Refused why) h = absurd h
went_given_up sort a b NoMemory h = h.went

pub same_given_up : (sort : Call → Bool) (a b : WorkNow) (e : StepErr) → GivesNothing sort a e b
    → IsSameBut a.lease b.lease
same_given_up sort a b e h = (went_given_up sort a b e h).same

pub lease_behind : {R : Type 0} (P : Part) (sort : Call → Bool) (a b : WorkNow)
    (result : Result R StepErr) → Ends P sort a result b → IsSameBut a.lease b.lease
lease_behind P sort a b (Ok value) h = h.went.same
lease_behind P sort a b (Err e) h = same_given_up sort a b e h

pub place_given_up : (sort : Call → Bool) (a b : WorkNow) (e : StepErr) → GivesNothing sort a e b
    → b.place ≡ a.place
place_given_up sort a b e h = (went_given_up sort a b e h).place

pub place_behind : {R : Type 0} (P : Part) (sort : Call → Bool) (a b : WorkNow)
    (result : Result R StepErr) → Ends P sort a result b → b.place ≡ a.place
place_behind P sort a b (Ok value) h = h.went.place
place_behind P sort a b (Err e) h = place_given_up sort a b e h

-- what a file is to its row, by tables and calls
record Sees (id : List ℕ) (finding : Finding) (t : Tables) (calls : List Heard) : Type 0 where
  reply : Reply
  found : finding ≡ finding_of id (base_of (row_at t id)) reply
  last : last_on id calls ≡ Some (record { call = Get (Item id); reply = Some reply })

-- ---- a call

-- a call is a part if each of its answers is
pub hears_as : (call : Call) (P : Part) (sort : Call → Bool) (a b : WorkNow)
    (result : Result (Unit {0}) StepErr)
    → ((reply : Reply) → IsAnswer call reply → (shown : Option Shown) (ds : List Deed)
    → Hears call reply (view_of shown a.site) ds → P (view_of shown a.site) ds)
    → HearsOr call sort a result b → Ends P sort a result b
hears_as call P sort a b (Ok done) also h =
    does_as (Hears call h.reply) P sort a b (also h.reply h.answer) h.does
hears_as call P sort a b (Err e) also h = h

-- it changes no tables
pub tables_heard : {left : List Told} (call : Call) (reply : Reply) (sort : Call → Bool)
    (a b : WorkNow) → DoesTo Working left (Hears call reply) sort a b
    → b.site.tables ≡ a.site.tables
unfolding view_from
tables_heard call reply sort a b h =
    behind (λ t cs u us. u ≡ t) (Hears call reply) sort a b
    (λ v ds is. ap (λ (x : List Deed). (view_from v x).tables) is) h

last_here : (id : List ℕ) (h : Heard) (calls : List Heard) → is_on id h.call ≡ true
    → last_on id (h ∷ calls) ≡ Some h
unfolding last_on
last_here id h calls on =
    ap (λ (b : Bool). if b then Some h else last_on id calls) on

-- a file that was found is still there, as far as the session's calls tell
found_here : (id : List ℕ) (finding : Finding) (v : View) (ds : List Deed)
    → FindsFile id finding v ds → Sees id finding (view_from v ds).tables (view_from v ds).calls
unfolding view_from
found_here id finding v ds h =
    let heard : Heard = record { call = Get (Item id); reply = Some h.0 } in
    let tables : (view_from v ds).tables ≡ v.tables =
    ap (λ (x : List Deed). (view_from v x).tables) h.4 in
    let calls : (view_from v ds).calls ≡ heard ∷ v.calls =
    ap (λ (x : List Deed). (view_from v x).calls) h.4 in
    record {
      reply = h.0;
      found = h.2 ∙ ap (λ (t : Tables). finding_of id (base_of (row_at t id)) h.0) (sym tables);
      last = ap (last_on id) calls ∙ last_here id heard v.calls (bytes_eq-refl id);
    }

pub found_behind : (id : List ℕ) (finding : Finding) (sort : Call → Bool) (a b : WorkNow)
    → Does (FindsFile id finding) sort a b → IsFound id finding b.site
found_behind id finding sort a b h =
    let s = behind (λ t cs u us. Sees id finding u us) (FindsFile id finding) sort a b
    (found_here id finding) h in
    record { reply = s.reply; found = s.found; last = s.last }

pub sound_behind : (id : List ℕ) (finding : Finding) (sort : Call → Bool) (a b : WorkNow)
    → Does (FindsFile id finding) sort a b → IsSoundFinding id finding
sound_behind id finding sort a b h = (h.part None).3

-- a get of a resource's bytes changes no tables, and is no call on an item's file
pub tables_fetched : (id : List ℕ) (sort : Call → Bool) (a b : WorkNow)
    → Does (Fetches id) sort a b → b.site.tables ≡ a.site.tables
unfolding view_from
tables_fetched id sort a b h =
    behind (λ t cs u us. u ≡ t) (Fetches id) sort a b
    (λ v ds it. ap (λ (x : List Deed). (view_from v x).tables) it.1.1) h

pub last_fetched : (id other : List ℕ) (sort : Call → Bool) (a b : WorkNow)
    → Does (Fetches id) sort a b
    → last_on other (session_calls b.site.line.trail)
    ≡ last_on other (session_calls a.site.line.trail)
unfolding view_from last_on
last_fetched id other sort a b h =
    behind (λ t cs u us. last_on other us ≡ last_on other cs) (Fetches id) sort a b
    (λ v ds it. ap (λ (x : List Deed). last_on other (view_from v x).calls) it.1.1) h

-- ---- changes

-- one change
pub tables_changed : (c : Change) (sort : Call → Bool) (a b : WorkNow)
    → Does (Changes c) sort a b → b.site.tables ≡ after a.site.tables c
unfolding view_from
tables_changed c sort a b h =
    behind (λ t calls u us. u ≡ after t c) (Changes c) sort a b
    (λ v ds is. ap (λ (x : List Deed). (view_from v x).tables) is) h

pub calls_changed : (c : Change) (sort : Call → Bool) (a b : WorkNow)
    → Does (Changes c) sort a b
    → session_calls b.site.line.trail ≡ session_calls a.site.line.trail
unfolding view_from
calls_changed c sort a b h =
    behind (λ t calls u us. us ≡ calls) (Changes c) sort a b
    (λ v ds is. ap (λ (x : List Deed). (view_from v x).calls) is) h

each_tables : (cs : List Change) (v : View) (ds : List Deed) → ForEach Changes cs v ds
    → (view_from v ds).tables ≡ after_all v.tables cs
unfolding view_from after_all ForEach
each_tables [] v ds h = ap (λ (x : List Deed). (view_from v x).tables) h
each_tables (c ∷ cs) v ds h =
    let w = view_from v h.first in
    let changed : w.tables ≡ after v.tables c =
    ap (λ (x : List Deed). (view_from v x).tables) h.before in
    ap (λ (x : List Deed). (view_from v x).tables) h.both
    ∙ (ap (λ (x : View). x.tables) (view_from-append v h.first h.second)
    ∙ (each_tables cs w h.second h.behind ∙ ap (λ (t : Tables). after_all t cs) changed))

each_calls : (cs : List Change) (v : View) (ds : List Deed) → ForEach Changes cs v ds
    → (view_from v ds).calls ≡ v.calls
unfolding view_from ForEach
each_calls [] v ds h = ap (λ (x : List Deed). (view_from v x).calls) h
each_calls (c ∷ cs) v ds h =
    let w = view_from v h.first in
    let same : w.calls ≡ v.calls = ap (λ (x : List Deed). (view_from v x).calls) h.before in
    ap (λ (x : List Deed). (view_from v x).calls) h.both
    ∙ (ap (λ (x : View). x.calls) (view_from-append v h.first h.second)
    ∙ (each_calls cs w h.second h.behind ∙ same))

pub tables_each : (cs : List Change) (sort : Call → Bool) (a b : WorkNow)
    → Does (ForEach Changes cs) sort a b → b.site.tables ≡ after_all a.site.tables cs
tables_each cs sort a b h =
    behind (λ t calls u us. u ≡ after_all t cs) (ForEach Changes cs) sort a b (each_tables cs) h

pub calls_each : (cs : List Change) (sort : Call → Bool) (a b : WorkNow)
    → Does (ForEach Changes cs) sort a b
    → session_calls b.site.line.trail ≡ session_calls a.site.line.trail
calls_each cs sort a b h =
    behind (λ t calls u us. us ≡ calls) (ForEach Changes cs) sort a b (each_calls cs) h

-- ---- stages

-- a part that isn't the last one
pub ends_working : {R : Type 0} (P : Part) (sort : Call → Bool) (a b : WorkNow)
    (result : Result R StepErr) → EndsAt Working P sort a result b → Ends P sort a result b
ends_working P sort a b (Ok value) h = h
ends_working P sort a b (Err e) h = h
