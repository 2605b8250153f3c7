-- A folder whose file was found to be gone, and what its clearing comes to.
use Rattle.std.specs.Prelude.{ℕ, ◌≡◌, List, filter, Bool, true, false, Option, None, Result, OnOk, Ok, Err, refl}
use Rattle.std.proofs.Common.{ap, subst, ◌∙◌, inr}
use Rattle.conflicts.specs.Rules.{folder_gone_changes}
use Rattle.conflicts.specs.declared.error.StepErr.{StepErr}
use Rattle.client.specs.Sites.{SiteNow}
use Rattle.jop_base.specs.Keyed.{IsSorted}
use Rattle.jop_target.specs.declared.call.Call.{Call}
use Rattle.law_licences.specs.Checks.{last_on}
use Rattle.law_licences.specs.Conflicts.{MayConflict}
use Rattle.law_licences.specs.Copies.{copies_for}
use Rattle.law_licences.specs.Items.{is_folder, is_note_in}
use Rattle.law_licences.specs.Trails.{session_calls}
use Rattle.law_licences.specs.Views.{Shown}
use Rattle.local_store.specs.Changing.{after_all}
use Rattle.local_store.specs.Rows.{item_of, row_id}
use Rattle.local_store.specs.Tables.{row_at}
use Rattle.local_store.specs.declared.change.Change.{Change}
use Rattle.local_store.specs.declared.row.Row.{Row}
use Rattle.local_store.specs.declared.tables.Tables.{Tables}
use Rattle.session.proofs.Behind.{calls_each, tables_each}
use Rattle.session.proofs.Ending.{does_nothing, ends_as}
use Rattle.session.proofs.Folders.{IsGoing, goes_on}
use Rattle.session.specs.Doing.{Does, Ends}
use Rattle.session.specs.Parts.{Changes, ForEach}
use Rattle.session.specs.Work.{IsReady, WorkNow, view_of}
use Rattle.session.specs.declared.finding.Finding.TheVariants.{Missing}
use Rattle.session.proofs.Found.{missing_found}
use Rattle.upload.specs.Found.{IsFoundForRow}
use Rattle.upload.specs.Uploading.{ClearsIf}

-- a row whose file is gone may give way to nothing
pub may_go : (row : Row) (d : SiteNow) (shown : Option Shown) → IsFoundForRow row Missing d
    → MayConflict (view_of shown d) row.id None (copies_for row.content None)
may_go row d shown h = record {
  row = row;
  reply = h.reply;
  pending = record { at = h.at; pending = h.pending };
  check = h.last;
  other = missing_found row.id row.base h.reply h.found;
  copied = refl;
}

pub is_going : (row : Row) (d : SiteNow) (shown : Option Shown) → IsFoundForRow row Missing d
    → is_folder (item_of row.content) ≡ true → IsSorted row_id d.tables.rows
    → IsGoing (view_of shown d) row.id row
is_going row d shown h is ordered = record {
  ordered = ordered;
  stands = h.at;
  is = is;
  may = inr (copies_for row.content None, may_go row d shown h);
}

-- it is still found gone behind the moves
pub found_still : (row : Row) (a b : SiteNow) (changes : List Change) → IsFoundForRow row Missing a
    → is_folder (item_of row.content) ≡ true → IsSorted row_id a.tables.rows
    → changes ≡ folder_gone_changes a.tables row.id → b.tables ≡ after_all a.tables changes
    → session_calls b.line.trail ≡ session_calls a.line.trail → IsFoundForRow row Missing b
found_still row a b changes h is ordered are tables calls =
    let notes = filter (is_note_in row.id) a.tables.rows in
    let gone = goes_on notes (view_of None a) row.id row (is_going row a None h is ordered) refl in
    record {
      reply = h.reply;
      found = h.found;
      at =
          ap (λ (t : Tables). row_at t row.id)
          (tables ∙ ap (λ (cs : List Change). after_all a.tables cs) are)
          ∙ gone.stands;
      pending = h.pending;
      last = ap (last_on row.id) calls ∙ h.last;
    }

pub found_behind_moves : (row : Row) (changes : List Change) (sort : Call → Bool) (a b : WorkNow)
    (result : Result (Unit {0}) StepErr) → IsFoundForRow row Missing a.site
    → is_folder (item_of row.content) ≡ true → IsSorted row_id a.site.tables.rows
    → changes ≡ folder_gone_changes a.site.tables row.id
    → Ends (ForEach Changes changes) sort a result b
    → OnOk result (IsFoundForRow row Missing b.site)
found_behind_moves row changes sort a b (Ok done) h is ordered are k =
    found_still row a.site b.site changes h is ordered are (tables_each changes sort a b k)
    (calls_each changes sort a b k)
found_behind_moves row changes sort a b (Err e) h is ordered are k = tt

-- all moves are the clearing of the folder
pub clears_if : (folder : List ℕ) (changes : List Change) (sort : Call → Bool) (a b : WorkNow)
    (result : Result (Unit {0}) StepErr) → changes ≡ folder_gone_changes a.site.tables folder
    → Ends (ForEach Changes changes) sort a result b → Ends (ClearsIf folder true) sort a result b
clears_if folder changes sort a b result are h =
    ends_as (ForEach Changes changes) (ClearsIf folder true) sort a b result
    (λ shown deeds. subst (λ (cs : List Change).
    ForEach Changes cs (view_of shown a.site) deeds) are)
    h

-- what is no folder is cleared as it is
pub clears_nothing : (folder : List ℕ) (is : Bool) (sort : Call → Bool) (a : WorkNow)
    → is ≡ false → IsReady a.site a.lease → Does (ClearsIf folder is) sort a a
clears_nothing folder true sort a e ready = absurd cc
clears_nothing folder false sort a e ready = does_nothing sort a ready

pub ends_all : (folder : List ℕ) (is : Bool) (sort : Call → Bool) (a b : WorkNow)
    (result : Result (Unit {0}) StepErr) → is ≡ true → Ends (ClearsIf folder true) sort a result b
    → Ends (ClearsIf folder is) sort a result b
ends_all folder true sort a b result e h = h
ends_all folder false sort a b result e h = absurd cc
