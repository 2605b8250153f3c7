-- How an upload's parts are told of one row.
use Rattle.std.specs.Prelude.{ℕ, ◌≡◌, List, Bool, true, false, ◌&&◌, is_none, Option, Some, Result, Ok, Err}
use Rattle.std.proofs.Common.{sym, ap, subst, ◌∙◌}
use Rattle.conflicts.specs.declared.error.StepErr.{StepErr}
use Rattle.law_licences.specs.Deeds.{Deed}
use Rattle.law_licences.specs.Views.{View, view_from}
use Rattle.local_store.specs.Tables.{base_of, row_at}
use Rattle.local_store.specs.declared.row.Row.{Row}
use Rattle.session.proofs.WaitingRow.{Waits}
use Rattle.session.proofs.Ending.{does_as, does_nothing, ends_as, ends_then}
use Rattle.session.specs.Doing.{Does, Ends}
use Rattle.session.specs.Findings.{finding_of, waiting}
use Rattle.session.specs.Parts.{Then}
use Rattle.session.specs.Sessions.{FindsFile}
use Rattle.session.specs.Work.{IsReady, WorkNow, view_of}
use Rattle.session.specs.declared.finding.Finding.{Finding}
use Rattle.session.specs.declared.finding.Finding.TheVariants.{Unreadable}
use Rattle.keeper.specs.declared.blob.Blob.{Blob}
use Rattle.upload.specs.Conditions.{CanUploadAny, is_new_row}
use Rattle.upload.specs.Found.{IsUploadable}
use Rattle.upload.specs.Uploading.{Settles, UploadsFound, UploadsOne, UploadsRow, is_upload}

-- the file is got, and then that is done
row_told : (blobs : Option (List Blob)) (row : Row) (finding : Finding) (v : View)
    (ds : List Deed) → row_at v.tables row.id ≡ Some row
    → Then (FindsFile row.id finding) (Settles blobs row finding) v ds → UploadsRow blobs row v ds
row_told blobs row finding v ds at h =
    let f = h.before in
    let is : finding ≡ finding_of row.id row.base f.0 =
    f.2 ∙ ap (λ (o : Option Row). finding_of row.id (base_of o) f.0) at in (
      f.0,
      (
        f.1,
        record {
          first = h.first;
          second = h.second;
          both = h.both;
          before = f.4;
          behind = subst (λ (x : Finding). Settles blobs row x (view_from v h.first) h.second) is h.behind;
        },
      ),
    )

pub ends_row : (blobs own : Option (List Blob)) (row : Row) (finding : Finding)
    (a b c : WorkNow) (result : Result (Unit {0}) StepErr) → own ≡ blobs
    → row_at a.site.tables row.id ≡ Some row → Does (FindsFile row.id finding) is_upload a b
    → Ends (Settles own row finding) is_upload b result c
    → Ends (UploadsRow blobs row) is_upload a result c
ends_row blobs own row finding a b c result same at h k =
    ends_as (Then (FindsFile row.id finding) (Settles blobs row finding)) (UploadsRow blobs row)
    is_upload a c result
    (λ shown ds it. row_told blobs row finding (view_of shown a.site) ds at it)
    (ends_then (FindsFile row.id finding) (Settles blobs row finding) is_upload a b c result h
    (subst (λ (x : Option (List Blob)). Ends (Settles x row finding) is_upload b result c) same k))

-- what is done, told by what was found
pub settles_as : {R : Type 0} (blobs : Option (List Blob)) (row : Row) (finding f : Finding)
    (a b : WorkNow) (result : Result R StepErr) → finding ≡ f
    → Ends (Settles blobs row f) is_upload a result b
    → Ends (Settles blobs row finding) is_upload a result b
settles_as blobs row finding f a b result is h =
    subst (λ (x : Finding). Ends (Settles blobs row x) is_upload a result b) (sym is) h

-- of a file that can't be read nothing comes
pub settles_nothing : (blobs : Option (List Blob)) (row : Row) (finding : Finding) (a : WorkNow)
    → finding ≡ Unreadable → IsReady a.site a.lease → Does (Settles blobs row finding) is_upload a a
settles_nothing blobs row finding a is ready =
    subst (λ (x : Finding). Does (Settles blobs row x) is_upload a a) (sym is)
    (does_nothing is_upload a ready)

-- ---- the row of an id

both_true : (a b : Bool) → a ≡ true → b ≡ true → (a && b) ≡ true
both_true true b h k = k
both_true false b h k = absurd cc

pub uploadable_at : (w : WorkNow) (id : List ℕ) (row : Row) → Waits w.site.tables id row
    → CanUploadAny w → IsUploadable row w
uploadable_at w id row h can = record {
  ready = can.ready;
  at = h.own;
  pending = h.pending;
  readable = can.readable;
  unput = λ none.
      can.unput row.id
      (ap is_new_row h.own ∙ both_true row.pending (is_none row.base) h.pending none);
}

pub uploads_found : (blobs : Option (List Blob)) (id : List ℕ) (row : Option Row) (a b : WorkNow)
    → row ≡ waiting (row_at a.site.tables id) → Does (UploadsFound blobs row) is_upload a b
    → Does (UploadsOne blobs id) is_upload a b
uploads_found blobs id row a b is h =
    does_as (UploadsFound blobs row) (UploadsOne blobs id) is_upload a b
    (λ shown ds. subst (λ (r : Option Row). UploadsFound blobs r (view_of shown a.site) ds) is)
    h

-- whatever became of it
pub ends_found : (blobs : Option (List Blob)) (id : List ℕ) (row : Option Row) (a b : WorkNow)
    (result : Result (Unit {0}) StepErr) → row ≡ waiting (row_at a.site.tables id)
    → Ends (UploadsFound blobs row) is_upload a result b
    → Ends (UploadsOne blobs id) is_upload a result b
ends_found blobs id row a b (Ok done) is h = uploads_found blobs id row a b is h
ends_found blobs id row a b (Err e) is h = h
