-- How rows go whose files are gone.
use Rattle.std.specs.Prelude.{ℕ, ◌≡◌, List, filter, All, Bool, true, false, ◌&&◌, not, Option, Some, None, Result, refl}
use Rattle.std.proofs.Common.{sym, ap, subst, ◌∙◌, inl}
use Rattle.std.proofs.lemmas.Bool.{and_parts}
use Rattle.conflicts.specs.Rules.{folder_gone_changes}
use Rattle.conflicts.specs.declared.error.StepErr.{StepErr}
use Rattle.client.specs.Sites.{SiteNow}
use Rattle.download.specs.Downloading.{Closes, ClosesIf, Goes, GoesIf, LeavesOne, is_leaf, is_place}
use Rattle.download.specs.Reading.{Lacks}
use Rattle.jop_base.specs.Keyed.{IsSorted}
use Rattle.jop_target.specs.declared.call.Call.{Call}
use Rattle.law_licences.specs.Checks.{is_pending}
use Rattle.law_licences.specs.Deeds.{Deed}
use Rattle.law_licences.specs.Items.{is_folder, is_note_in}
use Rattle.law_licences.specs.Views.{Shown, View}
use Rattle.local_store.specs.Changing.{after_all}
use Rattle.local_store.specs.Rows.{item_of, row_id}
use Rattle.local_store.specs.Sound.{IsAllowed}
use Rattle.local_store.specs.Tables.{row_at}
use Rattle.local_store.specs.declared.change.Change.{Change}
use Rattle.local_store.specs.declared.change.Change.TheVariants.{Gone}
use Rattle.local_store.specs.declared.row.Row.{Row}
use Rattle.local_store.specs.declared.tables.Tables.{Tables}
use Rattle.session.proofs.Ending.{does_as, does_nothing, ends_as}
use Rattle.session.proofs.Folders.{IsGoing, goes_on, moves_allowed, moves_may}
use Rattle.session.specs.Doing.{Does, Ends}
use Rattle.session.specs.Making.{MayMakeAll, MayMakeAllBy, MayMakeBy}
use Rattle.session.specs.Parts.{Changes, ForEach, Nothing, Then}
use Rattle.session.specs.Work.{IsReady, WorkNow, view_of}

-- ---- licences

not_true : (a b : Bool) → (not a && b) ≡ true → a ≡ false
not_true true b h = absurd cc
not_true false b h = refl

leaf_by : (row : Option Row) → is_leaf row ≡ true → is_pending row ≡ false
leaf_by None h = refl
leaf_by (Some row) h = not_true row.pending (not (is_folder (item_of row.content))) h

pub may_go : (known : Shown) (id : List ℕ) (d : SiteNow) → Lacks known id
    → is_pending (row_at d.tables id) ≡ false → MayMakeBy (Some known) d (Gone id)
may_go known id d lacks unchanged shown fits = record {
  page = lacks.page;
  has = record { shown = known; last = fits; is = lacks.is };
  gone = lacks.gone;
  unchanged = unchanged;
}

pub leaf_may_go : (known : Shown) (id : List ℕ) (d : SiteNow) → Lacks known id
    → is_leaf (row_at d.tables id) ≡ true → MayMakeBy (Some known) d (Gone id)
leaf_may_go known id d lacks leaf = may_go known id d lacks (leaf_by (row_at d.tables id) leaf)

-- the row of a folder that doesn't wait
pub record IsPlace (t : Tables) (id : List ℕ) : Type 0 where
  pub row : Row
  pub at : row_at t id ≡ Some row
  pub unchanged : row.pending ≡ false
  pub is : is_folder (item_of row.content) ≡ true

place_by : (t : Tables) (id : List ℕ) (row : Option Row) → row_at t id ≡ row → is_place row ≡ true
    → IsPlace t id
place_by t id None at h = absurd cc
place_by t id (Some row) at h = record {
  row = row;
  at = at;
  unchanged = not_true row.pending (is_folder (item_of row.content)) h;
  is = (and_parts (not row.pending) (is_folder (item_of row.content)) h).1;
}

pub place : (t : Tables) (id : List ℕ) → is_place (row_at t id) ≡ true → IsPlace t id
place t id h = place_by t id (row_at t id) refl h

pub going : (known : Shown) (id : List ℕ) (d : SiteNow) (shown : Option Shown) → Lacks known id
    → (p : IsPlace d.tables id) → IsSorted row_id d.tables.rows → shown ≡ Some known
    → IsGoing (view_of shown d) id p.row
going known id d shown lacks p ordered fits = record {
  ordered = ordered;
  stands = p.at;
  is = p.is;
  may = inl (may_go known id d lacks (ap is_pending p.at ∙ p.unchanged) shown fits);
}

-- the notes in the folder may be moved
pub all_may : (known : Shown) (id : List ℕ) (d : SiteNow) (changes : List Change)
    → Lacks known id → IsPlace d.tables id → IsSorted row_id d.tables.rows
    → changes ≡ folder_gone_changes d.tables id
    → MayMakeAllBy (Some known) d changes
all_may known id d changes lacks p ordered are shown fits =
    subst (λ (cs : List Change). MayMakeAll (view_of shown d) cs) (sym are)
    (moves_may (filter (is_note_in id) d.tables.rows) (view_of shown d) id p.row
    (going known id d shown lacks p ordered fits) refl)

pub all_allowed : (id : List ℕ) (d : SiteNow) (changes : List Change)
    → changes ≡ folder_gone_changes d.tables id → All IsAllowed changes
all_allowed id d changes are =
    subst (λ (cs : List Change). All IsAllowed cs) (sym are)
    (moves_allowed (filter (is_note_in id) d.tables.rows))

-- and then the folder may go
pub closed_may_go : (known : Shown) (id : List ℕ) (old new : SiteNow) (changes : List Change)
    → Lacks known id → IsPlace old.tables id → IsSorted row_id old.tables.rows
    → changes ≡ folder_gone_changes old.tables id
    → new.tables ≡ after_all old.tables changes
    → MayMakeBy (Some known) new (Gone id)
closed_may_go known id old new changes lacks p ordered are tables =
    let notes = filter (is_note_in id) old.tables.rows in
    let still = goes_on notes (view_of (Some known) old) id p.row
    (going known id old (Some known) lacks p ordered refl) refl in
    let at : row_at new.tables id ≡ Some p.row =
    ap (λ (t : Tables). row_at t id)
    (tables ∙ ap (λ (cs : List Change). after_all old.tables cs) are)
    ∙ still.stands in
    may_go known id new lacks (ap is_pending at ∙ p.unchanged)

-- ---- told

pub stays_put : (id : List ℕ) (sort : Call → Bool) (a : WorkNow)
    → is_leaf (row_at a.site.tables id) ≡ false → IsReady a.site a.lease → Does (Goes id) sort a a
stays_put id sort a leaf ready =
    does_as Nothing (Goes id) sort a a
    (λ shown ds h. none (is_leaf (row_at a.site.tables id)) (view_of shown a.site) ds leaf h)
    (does_nothing sort a ready) where
      none : (leaf : Bool) (v : View) (ds : List Deed) → leaf ≡ false → Nothing v ds
          → GoesIf id leaf v ds
      none true v ds e h = absurd cc
      none false v ds e h = h

pub goes_away : {R : Type 0} (id : List ℕ) (sort : Call → Bool) (a b : WorkNow)
    (result : Result R StepErr) → is_leaf (row_at a.site.tables id) ≡ true
    → Ends (Changes (Gone id)) sort a result b → Ends (Goes id) sort a result b
goes_away id sort a b result leaf h =
    ends_as (Changes (Gone id)) (Goes id) sort a b result
    (λ shown ds part. some (is_leaf (row_at a.site.tables id)) (view_of shown a.site) ds leaf part)
    h where
      some : (leaf : Bool) (v : View) (ds : List Deed) → leaf ≡ true → Changes (Gone id) v ds
          → GoesIf id leaf v ds
      some true v ds e h = h
      some false v ds e h = absurd cc

pub stays_open : (id : List ℕ) (sort : Call → Bool) (a : WorkNow)
    → is_place (row_at a.site.tables id) ≡ false → IsReady a.site a.lease
    → Does (Closes id) sort a a
stays_open id sort a place ready =
    does_as Nothing (Closes id) sort a a
    (λ shown ds h. none (is_place (row_at a.site.tables id)) (view_of shown a.site) ds place h)
    (does_nothing sort a ready) where
      none : (place : Bool) (v : View) (ds : List Deed) → place ≡ false → Nothing v ds
          → ClosesIf id place v ds
      none true v ds e h = absurd cc
      none false v ds e h = h

pub closes_up : {R : Type 0} (id : List ℕ) (sort : Call → Bool) (a b : WorkNow)
    (result : Result R StepErr) → is_place (row_at a.site.tables id) ≡ true
    → Ends (ClosesIf id true) sort a result b → Ends (Closes id) sort a result b
closes_up id sort a b result place h =
    ends_as (ClosesIf id true) (Closes id) sort a b result
    (λ shown ds part. some (is_place (row_at a.site.tables id)) (view_of shown a.site) ds place part)
    h where
      some : (place : Bool) (v : View) (ds : List Deed) → place ≡ true → ClosesIf id true v ds
          → ClosesIf id place v ds
      some true v ds e h = h
      some false v ds e h = absurd cc

-- the notes are moved, and then the folder goes
pub closes_then : {R : Type 0} (id : List ℕ) (sort : Call → Bool) (changes : List Change)
    (a b : WorkNow) (result : Result R StepErr)
    → changes ≡ folder_gone_changes a.site.tables id
    → Ends (Then (ForEach Changes changes) (Changes (Gone id))) sort a result b
    → Ends (ClosesIf id true) sort a result b
closes_then id sort changes a b result are h =
    ends_as (Then (ForEach Changes changes) (Changes (Gone id))) (ClosesIf id true) sort a b result
    (λ shown ds. subst (λ (cs : List Change).
    Then (ForEach Changes cs) (Changes (Gone id)) (view_of shown a.site) ds) are)
    h

-- what a turn is for
pub leaves_one : {R : Type 0} (folders turn : Bool) (id : List ℕ) (sort : Call → Bool)
    (a b : WorkNow) (result : Result R StepErr) → folders ≡ turn
    → Ends (LeavesOne turn id) sort a result b → Ends (LeavesOne folders id) sort a result b
leaves_one folders turn id sort a b result is h =
    subst (λ (x : Bool). Ends (LeavesOne x id) sort a result b) (sym is) h
