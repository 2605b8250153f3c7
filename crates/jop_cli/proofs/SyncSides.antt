-- What a sync leaves of a client's own side.
use Rattle.std.proofs.Common.{◌≡◌, ◌∙◌, refl, sym, ap, subst, inl, inr, ℕ, ◌+◌, List, [], ◌∷◌, ◌++◌, append-nil, length, map, All}
use Rattle.std.proofs.Common.{Bool, true, false, Option, Some, None, Result, Ok, Err}
use Rattle.std.specs.Prelude.{option_map}
use Rattle.std.proofs.lemmas.List.{append_cancel_left}
use Rattle.std.proofs.lemmas.List.Elements.{All-head, All-tail}
use Rattle.std.proofs.lemmas.Option.{same_Some}
use Rattle.conflicts.specs.declared.refusal.Refusal.{Refusal}
use Rattle.conflicts.specs.declared.report.SyncReport.{SyncReport}
use Rattle.jop_target.specs.declared.event.Event.{Event}
use Rattle.jop_target.specs.declared.event.Event.TheVariants.{Began, Called, Ended, Made, Sent}
use Rattle.law_licences.proofs.Settled.{made_inside, stays_inside}
use Rattle.law_licences.specs.Deeds.{Deed, Begins, Asks, Makes, MakesUntold, Ends, Stops, changes_in, deeds_of, events_of}
use Rattle.law_licences.specs.Licences.{Each, IsInside, MayChange, MayDo, MergesInfo, ObeysData}
use Rattle.law_licences.specs.Sealing.{no_keys}
use Rattle.law_licences.specs.Views.{View, at_rest, view_after_change, view_after_call, seen}
use Rattle.local_commands.specs.Keeping.{kept_after_all}
use Rattle.local_commands.specs.declared.act.Act.{Act}
use Rattle.local_commands.specs.declared.act.Act.TheVariants.{MakeChange, SaveBlob}
use Rattle.local_commands.specs.Keeping as keeping
use Rattle.item_text.specs.declared.item.Item.{Item}
use Rattle.local_store.specs.Changing.{after, after_all, conflicted, uploaded, opened}
use Rattle.keeper.specs.Keepers.{IsOfKept, KeeperNow, Kept, with_saved_blob}
use Rattle.keeper.specs.Keepers as keepers
use Rattle.local_store.specs.Tables.{row_at}
use Rattle.keeper.specs.declared.blob.Blob.{Blob}
use Rattle.local_store.specs.declared.change.Change.{Change}
use Rattle.local_store.specs.declared.change.Change.TheVariants.{Named, Uploaded, Conflict, Moved, Opened}
use Rattle.local_store.specs.declared.content.Content.{Content}
use Rattle.local_store.specs.declared.row.Row.{Row}
use Rattle.local_store.specs.declared.tables.Tables.{Tables}
use Rattle.session.proofs.Joins.{kept_after-append}
use Rattle.session.specs.Saving.{kept_after_saves, saved_all}
use Rattle.session.specs.Steps.{IsStep}
use Rattle.client.specs.Owning.{NamesClient}
use Rattle.client.specs.Sites.{SiteNow}
use Rattle.sync_session.specs.Ordering.{GivesDue}
use Rattle.sync_session.specs.Syncing.{AddsFrom, IsOpenSync, IsWholeSync}
use Rattle.sync_session.specs.Telling.{Tells}
use Rattle.sync_session.specs.Working.{is_sync}
use Rattle.sync_session.specs.declared.sync_err.SyncErr.{SyncErr}
use Rattle.sync_session.specs.declared.sync_err.SyncErr.TheVariants.{NoMemory}
use Rattle.jop_cli.specs.Run.{KeepsChanges, with_changes}

-- ---- what was made

-- a session made these changes, and had these bytes of resources saved, and they are kept
pub record IsAdded (old new : SiteNow) : Type 0 where
  pub changes : List Change
  pub saves : List Blob
  pub made : new.made ≡ old.made ++ changes
  pub kept : new.keeper.kept ≡ option_map (kept_after_saves changes saves) old.keeper.kept

of_tale : (Given : Refusal → Type 0) (old new : SiteNow) → Tells Given (at_rest no_keys old.tables) old new →
    IsAdded old new
of_tale Given old new h =
    record { changes = changes_in h.deeds; saves = h.saves; made = h.made; kept = h.kept }

pub added : (client : List ℕ) (old new : SiteNow) (result : Result SyncReport SyncErr) →
    AddsFrom client old result new → IsAdded old new
added client old new (Err NoMemory) h = of_tale (GivesDue {R = SyncReport} (Err NoMemory)) old new h.tells
added client old new result h = of_tale (GivesDue result) old new h.tells

-- ---- as acts

-- changes, and then bytes that are saved
abbrev acts_of : List Change → List Blob → List Act
acts_of changes saves = map MakeChange changes ++ map SaveBlob saves

only_saves : (saves : List Blob) → keeping.changes_among (map SaveBlob saves) ≡ []
only_saves [] = refl
only_saves (b ∷ saves) = only_saves saves

acts_changes : (changes : List Change) (saves : List Blob) →
    keeping.changes_among (acts_of changes saves) ≡ changes
acts_changes [] saves = only_saves saves
acts_changes (c ∷ changes) saves = ap (λ (cs : List Change). c ∷ cs) (acts_changes changes saves)

saves_kept : (saves : List Blob) (k : Kept) →
    kept_after_all (map SaveBlob saves) k ≡ kept_after_saves [] saves k
unfolding after_all saved_all
saves_kept [] k = refl
saves_kept (b ∷ saves) k = saves_kept saves (with_saved_blob b.id b.bytes k)

acts_kept : (changes : List Change) (saves : List Blob) (k : Kept) →
    kept_after_all (acts_of changes saves) k ≡ kept_after_saves changes saves k
unfolding after_all
acts_kept [] saves k = saves_kept saves k
acts_kept (c ∷ changes) saves k = acts_kept changes saves (keepers.changed c k)

all_kept : (changes : List Change) (saves : List Blob) (kept : Option Kept) →
    option_map (kept_after_all (acts_of changes saves)) kept
    ≡ option_map (kept_after_saves changes saves) kept
all_kept changes saves None = refl
all_kept changes saves (Some k) = ap (λ (x : Kept). Some x) (acts_kept changes saves k)

as_kept : (changes : List Change) (kept : Option Kept) →
    option_map (with_changes changes) kept ≡ option_map (kept_after_saves changes []) kept
unfolding saved_all
as_kept changes None = refl
as_kept changes (Some k) = refl

-- behind changes alone, those of a session are kept with them
pub keeps_acts : (keeper : KeeperNow) (old new : SiteNow) →
    KeepsChanges false keeper old.made old.keeper → IsAdded old new →
    KeepsChanges true keeper new.made new.keeper
keeps_acts keeper old new before more = record {
  acts = acts_of (old.made ++ more.changes) more.saves;
  changes = more.made ∙ sym (acts_changes (old.made ++ more.changes) more.saves);
  kept = more.kept
      ∙ (ap (option_map (kept_after_saves more.changes more.saves)) (before ∙ as_kept old.made keeper.kept)
      ∙ (kept_after-append keeper.kept old.made more.changes [] more.saves
      ∙ sym (all_kept (old.made ++ more.changes) more.saves keeper.kept)));
}

-- ---- a session's events

-- nothing stands behind the end, and nothing begins
unfoldable EndsOnce : List Event → Type 0
EndsOnce [] = Unit {0}
EndsOnce (Began ∷ es) = ⊥
EndsOnce (Sent call ∷ es) = EndsOnce es
EndsOnce (Called call reply ∷ es) = EndsOnce es
EndsOnce (Made number ∷ es) = EndsOnce es
EndsOnce (Ended ∷ es) = es ≡ []

-- one session, or none
unfoldable IsOneSession : List Event → Type 0
IsOneSession [] = Unit {0}
IsOneSession (Began ∷ es) = EndsOnce es
IsOneSession (e ∷ es) = ⊥

ends_once : (client : List ℕ) (es fs : List Event) → All (IsStep is_sync client) es → EndsOnce fs →
    EndsOnce (es ++ fs)
unfolding EndsOnce
ends_once client [] fs each once = once
ends_once client (Sent call ∷ es) fs each once =
    ends_once client es fs (All-tail (IsStep is_sync client) (Sent call) es each) once
ends_once client (Called call reply ∷ es) fs each once =
    ends_once client es fs (All-tail (IsStep is_sync client) (Called call reply) es each) once
ends_once client (Made number ∷ es) fs each once =
    ends_once client es fs (All-tail (IsStep is_sync client) (Made number) es each) once
ends_once client (Began ∷ es) fs each once =
    absurd (All-head (IsStep is_sync client) Began es each)
ends_once client (Ended ∷ es) fs each once =
    absurd (All-head (IsStep is_sync client) Ended es each)

one_whole : (client : List ℕ) (middle : List Event) → All (IsStep is_sync client) middle →
    IsOneSession (Began ∷ (middle ++ Ended ∷ []))
unfolding IsOneSession EndsOnce
one_whole client middle each = ends_once client middle (Ended ∷ []) each refl

one_open : (client : List ℕ) (middle : List Event) → All (IsStep is_sync client) middle →
    IsOneSession (Began ∷ (middle ++ []))
unfolding IsOneSession EndsOnce
one_open client middle each = ends_once client middle [] each tt

one_none : IsOneSession []
unfolding IsOneSession
one_none = tt

-- what was told of a session, and its events
record HasTold (Given : Refusal → Type 0) (old new : SiteNow) (more : List Event) : Type 0 where
  pub tells : Tells Given (at_rest no_keys old.tables) old new
  pub one : IsOneSession more

told_whole : (client : List ℕ) (old new : SiteNow) (result : Result SyncReport SyncErr)
    (more : List Event) → new.line.trail ≡ old.line.trail ++ more →
    IsWholeSync client old result new → HasTold (GivesDue result) old new more
told_whole client old new result more is h =
    let same : more ≡ Began ∷ (h.whole.middle ++ Ended ∷ []) =
    append_cancel_left old.line.trail more (Began ∷ (h.whole.middle ++ Ended ∷ []))
    (sym is ∙ h.whole.trail) in
    record {
      tells = h.tells;
      one = subst IsOneSession (sym same) (one_whole client h.whole.middle h.whole.each);
    }

told_open : (client : List ℕ) (old new : SiteNow) (more : List Event) →
    new.line.trail ≡ old.line.trail ++ more → IsOpenSync client old new →
    HasTold (GivesDue {R = SyncReport} (Err NoMemory)) old new more
told_open client old new more is h =
    let same : more ≡ h.begun.more =
    append_cancel_left old.line.trail more h.begun.more (sym is ∙ h.begun.trail) in
    record {
      tells = h.tells;
      one = subst IsOneSession (sym same) (elim h.begun.begun [
        | inl none ↦ subst IsOneSession (sym none) one_none
        | inr begun ↦
            subst IsOneSession
            (ap (λ (es : List Event). Began ∷ es) (append-nil begun.0) ∙ sym begun.1)
            (one_open client begun.0 begun.2)
      ]);
    }

told_from : (client : List ℕ) (old new : SiteNow) (result : Result SyncReport SyncErr)
    (more : List Event) → new.line.trail ≡ old.line.trail ++ more →
    AddsFrom client old result new → HasTold (GivesDue result) old new more
told_from client old new (Err NoMemory) more is h = told_open client old new more is h
told_from client old new (Ok report) more is h = told_whole client old new (Ok report) more is h
told_from client old new (Err error) more is h =
    told_whole client old new (Err error) more is h

-- ---- the client's name

uploaded_name : (t : Tables) (id bytes : List ℕ) (row : Option Row) →
    (uploaded t id bytes row).client ≡ t.client
uploaded_name t id bytes None = refl
uploaded_name t id bytes (Some r) = refl

conflicted_name : (t : Tables) (id : List ℕ) (remote : Option (List ℕ × Content)) (copies : Bool)
    (row : Option Row) → (conflicted t id remote copies row).client ≡ t.client
conflicted_name t id remote copies None = refl
conflicted_name t id None true (Some r) = refl
conflicted_name t id None false (Some r) = refl
conflicted_name t id (Some remote) true (Some r) = refl
conflicted_name t id (Some remote) false (Some r) = refl

opened_name : (t : Tables) (id : List ℕ) (item : Item) (row : Option Row) →
    (opened t id item row).client ≡ t.client
opened_name t id item None = refl
opened_name t id item (Some r) = refl

-- no change of a session names another client
keeps_name : (v : View) (c : Change) (t : Tables) → MayChange v c → (after t c).client ≡ t.client
keeps_name v (Named client) t may = absurd may
keeps_name v (Uploaded id bytes) t may = uploaded_name t id bytes (row_at t id)
keeps_name v (Conflict id remote copies) t may = conflicted_name t id remote copies (row_at t id)
keeps_name v (Moved id) t may = conflicted_name t id None true (row_at t id)
keeps_name v (Opened id item) t may = opened_name t id item (row_at t id)
keeps_name v c t may = refl

no_changes : (n : ℕ) (ds : List Deed) → events_of n ds ≡ [] → changes_in ds ≡ []
unfolding events_of changes_in
no_changes n [] none = refl
no_changes n (Stops ∷ ds) none = no_changes n ds none
no_changes n (Begins ∷ ds) none = cc
no_changes n (Asks call None ∷ ds) none = cc
no_changes n (Asks call (Some reply) ∷ ds) none = cc
no_changes n (Makes c ∷ ds) none = cc
no_changes n (MakesUntold ∷ ds) none = cc
no_changes n (Ends ∷ ds) none = cc

nothing_named : (t : Tables) (cs : List Change) → cs ≡ [] → (after_all t cs).client ≡ t.client
unfolding after_all
nothing_named t cs none = ap (λ (xs : List Change). (after_all t xs).client) none

inside_name : (n : ℕ) (v w : View) (t : Tables) (ds : List Deed) → IsInside v.stage →
    Each MayDo w ds → EndsOnce (events_of n ds) →
    Each MayDo v (deeds_of (events_of n ds) (changes_in ds)) →
    (after_all t (changes_in ds)).client ≡ t.client
unfolding Each deeds_of events_of changes_in after_all EndsOnce
inside_name n v w t [] inside may once each = refl
inside_name n v w t (Stops ∷ ds) inside may once each =
    inside_name n v (seen w Stops) t ds inside may.1 once each
inside_name n v w t (Asks call None ∷ ds) inside may once each =
    inside_name n (view_after_call v call None)
    (seen w (Asks call None)) t ds inside may.1 once each.1
inside_name n v w t (Asks call (Some reply) ∷ ds) inside may once each =
    inside_name n (view_after_call v call (Some reply))
    (seen w (Asks call (Some reply))) t ds inside may.1
    once each.1
inside_name n v w t (Makes c ∷ ds) inside may once each =
    inside_name (n + 1) (view_after_change v c) (seen w (Makes c)) (after t c) ds
    (stays_inside v.stage c inside) may.1 once each.1
    ∙ keeps_name v c t (made_inside v.stage v c inside each.0)
inside_name n v w t (MakesUntold ∷ ds) inside may once each = absurd may.0
inside_name n v w t (Begins ∷ ds) inside may once each = absurd once
inside_name n v w t (Ends ∷ ds) inside may once each =
    nothing_named t (changes_in ds) (no_changes n ds once)

session_name : (n : ℕ) (w : View) (t : Tables) (ds : List Deed) → Each MayDo w ds →
    IsOneSession (events_of n ds) → ObeysData (at_rest no_keys t) (deeds_of (events_of n ds) (changes_in ds)) →
    (after_all t (changes_in ds)).client ≡ t.client
unfolding Each deeds_of events_of changes_in after_all IsOneSession
session_name n w t [] may one each = refl
session_name n w t (Stops ∷ ds) may one each = session_name n (seen w Stops) t ds may.1 one each
session_name n w t (Begins ∷ ds) may one each =
    inside_name n (seen (at_rest no_keys t) Begins) (seen w Begins) t ds tt may.1 one each.1
session_name n w t (Asks call None ∷ ds) may one each = absurd one
session_name n w t (Asks call (Some reply) ∷ ds) may one each = absurd one
session_name n w t (Makes c ∷ ds) may one each = absurd one
session_name n w t (MakesUntold ∷ ds) may one each = absurd one
session_name n w t (Ends ∷ ds) may one each = absurd one

-- each call and change of what was added has its licence, from the tables that are kept, if they are
-- told
abbrev pub IsLicensed : SiteNow → SiteNow → List Event → Type 0
IsLicensed old new more =
    (k : Kept) (changes : List Change) → old.keeper.kept ≡ Some k → new.made ≡ old.made ++ changes →
    ObeysData (at_rest no_keys k.tables) (deeds_of more changes)
    × MergesInfo (at_rest no_keys k.tables) (deeds_of more changes)

pub told_tables : (kept : Option Kept) (k : Kept) (t : Tables) → IsOfKept kept t → kept ≡ Some k →
    t ≡ k.tables
told_tables None k t told is = absurd cc
told_tables (Some other) k t told is =
    told ∙ ap (λ (x : Kept). x.tables) (same_Some other k is)

-- so it is from tables that are those that are kept, if that is told
pub licensed_kept : (old new : SiteNow) (more : List Event) →
    IsOfKept old.keeper.kept old.tables →
    ((changes : List Change) → new.made ≡ old.made ++ changes →
    ObeysData (at_rest no_keys old.tables) (deeds_of more changes)
    × MergesInfo (at_rest no_keys old.tables) (deeds_of more changes)) →
    IsLicensed old new more
licensed_kept old new more of_kept licensed = λ k changes told made.
    subst (λ (u : Tables). ObeysData (at_rest no_keys u) (deeds_of more changes)
    × MergesInfo (at_rest no_keys u) (deeds_of more changes)) (told_tables old.keeper.kept k old.tables of_kept told)
    (licensed changes made)

named_still : (Given : Refusal → Type 0) (old new : SiteNow) (more : List Event) →
    new.line.trail ≡ old.line.trail ++ more → HasTold Given old new more →
    IsLicensed old new more →
    (client : List ℕ) → NamesClient old.keeper.kept (Some client) →
    NamesClient new.keeper.kept (Some client)
named_still Given old new more is h licensed client names =
    subst (λ (k : Option Kept). NamesClient k (Some client)) (sym h.tells.kept)
    (by old.keeper.kept refl names) where
      by : (kept : Option Kept) → old.keeper.kept ≡ kept → NamesClient kept (Some client) →
          NamesClient (option_map (kept_after_saves (changes_in h.tells.deeds) h.tells.saves) kept)
          (Some client)
      by None told names = tt
      by (Some k) told names =
          let n = length old.made in
          let ds = h.tells.deeds in
          let same : more ≡ events_of n ds =
          append_cancel_left old.line.trail more (events_of n ds) (sym is ∙ h.tells.trail) in
          session_name n (at_rest no_keys old.tables) k.tables ds h.tells.obeys (subst IsOneSession same h.one)
          (subst (λ (es : List Event). ObeysData (at_rest no_keys k.tables) (deeds_of es (changes_in ds))) same
          (licensed k (changes_in ds) told h.tells.made).0)
          ∙ names

-- the tables name the client still
pub names_after : (client : List ℕ) (old new : SiteNow)
    (result : Result SyncReport SyncErr) (more : List Event) →
    new.line.trail ≡ old.line.trail ++ more → IsLicensed old new more →
    AddsFrom client old result new → NamesClient old.keeper.kept (Some client) →
    NamesClient new.keeper.kept (Some client)
names_after client old new result more is licensed adds names =
    named_still (GivesDue result) old new more is (told_from client old new result more is adds)
    licensed client names
