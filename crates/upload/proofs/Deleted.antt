-- What deletes come to.
use Rattle.std.specs.Prelude.{◌≡◌, List, [], ◌∷◌, Bool, true, false, if◌then◌else◌, Option, Some, Result, Ok, Err, OnOk, refl}
use Rattle.std.proofs.Common.{sym, ap, subst, ◌∙◌, inl, inr}
use Rattle.conflicts.specs.declared.error.StepErr.{StepErr}
use Rattle.client.specs.Sites.{SiteNow}
use Rattle.jop_base.proofs.KeyedLaws.{bytes_eq-refl}
use Rattle.jop_base.specs.Keyed.{at, cut}
use Rattle.jop_base.specs.declared.path.Path.{Path}
use Rattle.jop_base.specs.declared.path.Path.TheVariants.{Item, Blob}
use Rattle.jop_target.specs.Replies.{IsReplyTo}
use Rattle.jop_target.specs.declared.call.Call.TheVariants.{Delete}
use Rattle.jop_target.specs.declared.reply.Reply.{Reply}
use Rattle.jop_target.specs.declared.reply.Reply.TheVariants.{Listed, Got, GotBlob, Absent, Done, Failed, TooLarge}
use Rattle.law_licences.proofs.Joins.{view_from-append}
use Rattle.law_licences.specs.Deeds.{Deed}
use Rattle.law_licences.specs.Deletions.{IsDeleted, MayDrop, WasDeleted}
use Rattle.law_licences.specs.Sealing.{no_keys}
use Rattle.law_licences.specs.Views.{Heard, Shown, View, Working, is_about_locks, view_from}
use Rattle.local_store.specs.Rows.{deletion_id}
use Rattle.local_store.specs.Tables.{deletion_at}
use Rattle.local_store.specs.declared.deletion.Deletion.{Deletion}
use Rattle.local_store.specs.declared.tables.Tables.{Tables}
use Rattle.session.proofs.Behind.{behind}
use Rattle.session.proofs.Ending.{does_as, does_nothing}
use Rattle.session.proofs.Joins.{does_then}
use Rattle.session.specs.Doing.{Does, Ends}
use Rattle.session.specs.Parts.{ForEach, Then}
use Rattle.session.specs.Sessions.{is_data}
use Rattle.session.specs.Work.{IsReady, WorkNow, view_of}
use Rattle.upload.specs.Deleting.{Deletes, DeletesBytes, DeletesFile, DeletesOne, is_deletion}

-- ---- a file

pub gone_by : (path : Path) (reply : Reply) → IsReplyTo (Delete path) reply
    → ¬ (reply ≡ Failed) → IsDeleted reply
gone_by path (Done now) shape heard = tt
gone_by path (Absent now) shape heard = tt
gone_by path Failed shape heard = absurd (heard refl)
gone_by path (Listed listing) shape heard = shape
gone_by path (Got now content) shape heard = shape
gone_by path (GotBlob now len) shape heard = shape
gone_by path (TooLarge len) shape heard = shape

no-lock : (path : Path) → is_data path ≡ true → is_about_locks (Delete path) ≡ false
no-lock (Item id) h = refl
no-lock (Blob id) h = refl
no-lock path h = absurd cc

kept_if : (about : Bool) (h : Heard) (calls : List Heard) → about ≡ false
    → (if about then calls else h ∷ calls) ≡ h ∷ calls
kept_if true h calls e = absurd cc
kept_if false h calls e = refl

file_tables : (path : Path) (v : View) (ds : List Deed) → DeletesFile path v ds
    → (view_from v ds).tables ≡ v.tables
unfolding view_from
file_tables path v ds h = ap (λ (x : List Deed). (view_from v x).tables) h.2

file_calls : (path : Path) (v : View) (ds : List Deed) → is_data path ≡ true
    → (h : DeletesFile path v ds)
    → (view_from v ds).calls ≡ record { call = Delete path; reply = Some h.0 } ∷ v.calls
unfolding view_from
file_calls path v ds ok h =
    ap (λ (x : List Deed). (view_from v x).calls) h.2
    ∙ kept_if (is_about_locks (Delete path)) (record { call = Delete path; reply = Some h.0 })
    v.calls (no-lock path ok)

file_was : (path : Path) (v : View) (ds : List Deed) → is_data path ≡ true
    → DeletesFile path v ds → WasDeleted path (view_from v ds).calls
unfolding WasDeleted
file_was path v ds ok h =
    subst (WasDeleted path) (sym (file_calls path v ds ok h))
    (inl (record { reply = h.0; done = h.1; is = refl }))

file_still : (path other : Path) (v : View) (ds : List Deed) → is_data path ≡ true
    → DeletesFile path v ds → WasDeleted other v.calls → WasDeleted other (view_from v ds).calls
unfolding WasDeleted
file_still path other v ds ok h was =
    subst (WasDeleted other) (sym (file_calls path v ds ok h)) (inr was)

-- ---- the bytes of a resource

bytes_tables : (d : Deletion) (resource : Bool) (v : View) (ds : List Deed)
    → DeletesBytes d resource v ds → (view_from v ds).tables ≡ v.tables
unfolding view_from
bytes_tables d true v ds h = file_tables (Blob d.id) v ds h
bytes_tables d false v ds h = ap (λ (x : List Deed). (view_from v x).tables) h

bytes_were : (d : Deletion) (resource : Bool) (v : View) (ds : List Deed)
    → DeletesBytes d resource v ds → resource ≡ true
    → WasDeleted (Blob d.id) (view_from v ds).calls
bytes_were d true v ds h is = file_was (Blob d.id) v ds refl h
bytes_were d false v ds h is = absurd cc

bytes_still : (d : Deletion) (resource : Bool) (other : Path) (v : View) (ds : List Deed)
    → DeletesBytes d resource v ds → WasDeleted other v.calls
    → WasDeleted other (view_from v ds).calls
unfolding view_from
bytes_still d true other v ds h was = file_still (Blob d.id) other v ds refl h was
bytes_still d false other v ds h was =
    subst (WasDeleted other) (sym (ap (λ (x : List Deed). (view_from v x).calls) h)) was

pub nothing_for : (d : Deletion) (resource : Bool) (a : WorkNow) → resource ≡ false
    → IsReady a.site a.lease → Does (DeletesBytes d resource) is_deletion a a
nothing_for d true a e ready = absurd cc
nothing_for d false a e ready = does_nothing is_deletion a ready

-- ---- a deletion

first_at : (d : Deletion) (ds : List Deletion) → at deletion_id (d ∷ ds) d.id ≡ Some d
unfolding at
first_at d ds =
    ap (λ (same : Bool). if same then Some d else at deletion_id ds d.id) (bytes_eq-refl d.id)

pub stands : (old : SiteNow) (d : Deletion) (rest : List Deletion)
    → old.tables.deletions ≡ d ∷ rest → deletion_at old.tables d.id ≡ Some d
stands old d rest is =
    ap (λ (ds : List Deletion). at deletion_id ds d.id) is ∙ first_at d rest

-- it stands there while its files are deleted
pub still_there : (d : Deletion) (a b : WorkNow) → deletion_at a.site.tables d.id ≡ Some d
    → Does (DeletesFile (Item d.id)) is_deletion a b → deletion_at b.site.tables d.id ≡ Some d
still_there d a b at h =
    ap (λ (t : Tables). deletion_at t d.id)
    (behind (λ t cs u us. u ≡ t) (DeletesFile (Item d.id)) is_deletion a b
    (file_tables (Item d.id)) h)
    ∙ at

both_gone : (d : Deletion) (v : View) (ds : List Deed) → deletion_at v.tables d.id ≡ Some d
    → Then (DeletesFile (Item d.id)) (DeletesBytes d d.resource) v ds
    → MayDrop (view_from v ds) d.id
both_gone d v ds at h =
    let w = view_from v h.first in
    let both : view_from v ds ≡ view_from w h.second =
    ap (λ (x : List Deed). view_from v x) h.both ∙ view_from-append v h.first h.second in
    subst (λ (x : View). MayDrop x d.id) (sym both) (record {
      deletion = d;
      at =
          ap (λ (t : Tables). deletion_at t d.id)
          (bytes_tables d d.resource w h.second h.behind
          ∙ file_tables (Item d.id) v h.first h.before)
          ∙ at;
      file = bytes_still d d.resource (Item d.id) w h.second h.behind
          (file_was (Item d.id) v h.first refl h.before);
      blob = bytes_were d d.resource w h.second h.behind;
    })

-- once they are, it may be dropped
pub may_drop : (d : Deletion) (a b w : WorkNow) → deletion_at a.site.tables d.id ≡ Some d
    → Does (DeletesFile (Item d.id)) is_deletion a b
    → Does (DeletesBytes d d.resource) is_deletion b w → (shown : Option Shown)
    → MayDrop (view_of shown w.site) d.id
may_drop d a b w at h k shown =
    let may = behind
    (λ t cs u us. deletion_at t d.id ≡ Some d
    → MayDrop (record {
      tables = u;
      calls = us;
      shown = shown;
      stage = Working;
      sealing = no_keys;
    }) d.id)
    (Then (DeletesFile (Item d.id)) (DeletesBytes d d.resource)) is_deletion a w
    (λ v ds it was.
    let m = both_gone d v ds was it in
    record { deletion = m.deletion; at = m.at; file = m.file; blob = m.blob })
    (does_then (DeletesFile (Item d.id)) (DeletesBytes d d.resource) is_deletion a b w h k) in
    may at

-- ---- all of them

first_cut : (d : Deletion) (ds : List Deletion) → cut deletion_id (d ∷ ds) d.id ≡ ds
unfolding cut
first_cut d ds =
    ap (λ (same : Bool). if same then ds else d ∷ cut deletion_id ds d.id) (bytes_eq-refl d.id)

pub all_of_them : (ds : List Deletion) (a b : WorkNow) → ds ≡ a.site.tables.deletions
    → Does (ForEach DeletesOne ds) is_deletion a b → Does Deletes is_deletion a b
all_of_them ds a b is h =
    does_as (ForEach DeletesOne ds) Deletes is_deletion a b
    (λ shown es one.
    subst (λ (xs : List Deletion). ForEach DeletesOne xs (view_of shown a.site) es) is one)
    h

rest_of : (d : Deletion) (rest : List Deletion) (v : View) (ds : List Deed)
    → DeletesOne d v ds → v.tables.deletions ≡ d ∷ rest
    → (view_from v ds).tables.deletions ≡ rest
unfolding view_from
rest_of d rest v ds h is =
    let j = h.behind in
    let v1 = view_from v h.first in
    let v2 = view_from v1 j.first in
    let same : v2.tables ≡ v.tables =
    bytes_tables d d.resource v1 j.first j.before ∙ file_tables (Item d.id) v h.first h.before in
    let gone : (view_from v2 j.second).tables.deletions ≡ cut deletion_id v2.tables.deletions d.id =
    ap (λ (x : List Deed). (view_from v2 x).tables.deletions) j.behind in
    ap (λ (x : List Deed). (view_from v x).tables.deletions) h.both
    ∙ (ap (λ (w : View). w.tables.deletions) (view_from-append v h.first h.second)
    ∙ (ap (λ (x : List Deed). (view_from v1 x).tables.deletions) j.both
    ∙ (ap (λ (w : View). w.tables.deletions) (view_from-append v1 j.first j.second)
    ∙ (gone
    ∙ (ap (λ (t : Tables). cut deletion_id t.deletions d.id) same
    ∙ (ap (λ (xs : List Deletion). cut deletion_id xs d.id) is ∙ first_cut d rest))))))

none_of : (xs : List Deletion) (v : View) (ds : List Deed) → ForEach DeletesOne xs v ds
    → v.tables.deletions ≡ xs → (view_from v ds).tables.deletions ≡ []
unfolding view_from ForEach
none_of [] v ds h is = ap (λ (x : List Deed). (view_from v x).tables.deletions) h ∙ is
none_of (d ∷ rest) v ds h is =
    ap (λ (x : List Deed). (view_from v x).tables.deletions) h.both
    ∙ (ap (λ (w : View). w.tables.deletions) (view_from-append v h.first h.second)
    ∙ none_of rest (view_from v h.first) h.second h.behind (rest_of d rest v h.first h.before is))

pub rest_behind : (d : Deletion) (rest : List Deletion) (a b : WorkNow)
    → a.site.tables.deletions ≡ d ∷ rest → Does (DeletesOne d) is_deletion a b
    → b.site.tables.deletions ≡ rest
rest_behind d rest a b is h =
    let left = behind (λ t cs u us. t.deletions ≡ d ∷ rest → u.deletions ≡ rest) (DeletesOne d)
    is_deletion a b (rest_of d rest) h in
    left is

pub none_behind : (a b : WorkNow) (result : Result (Unit {0}) StepErr)
    → Ends Deletes is_deletion a result b → OnOk result (b.site.tables.deletions ≡ [])
none_behind a b (Ok done) h =
    behind (λ t cs u us. u.deletions ≡ []) Deletes is_deletion a b
    (λ v ds it. none_of v.tables.deletions v ds it refl) h
none_behind a b (Err e) h = tt
