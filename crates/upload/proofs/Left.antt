-- What is left of an upload: each row that waits is still to be looked at, or its file can't be read.
use Rattle.std.specs.Prelude.{ℕ, ◌<◌, ◌≡◌, ◌⊎◌, List, [], ◌∷◌, length, map, filter, Bool, true, false, ◌&&◌, bytes_eq, is_none, if◌then◌else◌, Option, Some, None, Result, refl}
use Rattle.std.proofs.Common.{sym, ap, subst, ◌∙◌, arith, inl, inr}
use Rattle.std.proofs.lemmas.Bool.{or_cases, or_left, or_right}
use Rattle.conflicts.specs.declared.error.StepErr.{StepErr}
use Rattle.delta.specs.Order.{includes}
use Rattle.client.specs.Sites.{SiteNow}
use Rattle.jop_base.proofs.KeyedLaws.{bytes_eq-refl, same_text}
use Rattle.jop_base.specs.Keyed.{IsSorted, at}
use Rattle.jop_target.specs.declared.call.Call.{Call}
use Rattle.law_licences.specs.Checks.{is_pending}
use Rattle.law_licences.specs.Deeds.{Deed}
use Rattle.law_licences.specs.Puts.{has_put}
use Rattle.law_licences.specs.Trails.{session_calls}
use Rattle.law_licences.specs.Views.{Shown, View, view_from}
use Rattle.local_store.specs.Rows.{row_id}
use Rattle.local_store.specs.Tables.{row_at}
use Rattle.keeper.specs.declared.blob.Blob.{Blob}
use Rattle.local_store.specs.declared.row.Row.{Row}
use Rattle.session.proofs.Ending.{ends_as}
use Rattle.session.proofs.Joins.{view_at}
use Rattle.session.proofs.Seen.{view_from-but_locks}
use Rattle.session.specs.Doing.{Does, Ends}
use Rattle.session.specs.Parts.{ForEach, Part, but_locks}
use Rattle.session.specs.Work.{WorkNow, view_of}
use Rattle.upload.proofs.Tending.{IsTended, tended_one}
use Rattle.upload.specs.Conditions.{AreUnput, CanPut, IsPlain, is_new_row}
use Rattle.upload.specs.Settled.{AreLeft, AreSettled, WasUnreadable}
use Rattle.upload.specs.Uploading.{Uploads, UploadsOne, blobs_of, is_upload, pending_ids}

-- ---- what is seen behind a part

-- behind a part what is seen is what the client shows
pub record Sees (P : Part) (a b : SiteNow) : Type 0 where
  pub deeds : List Deed
  pub shown : Option Shown
  pub part : P (view_of None a) deeds
  pub is : view_from (view_of None a) deeds ≡ view_of shown b

pub sees : (P : Part) (sort : Call → Bool) (a b : WorkNow) → Does P sort a b → Sees P a.site b.site
sees P sort a b h =
    let v = view_of None a.site in
    record {
      deeds = but_locks h.went.deeds;
      shown = (view_from v h.went.deeds).shown;
      part = h.part None;
      is = view_from-but_locks v h.went.deeds
          ∙ view_at sort a b h.went h.told None (h.stands None);
    }

-- ---- one row

-- the row of this id was tended, and the client shows it
pub record HasTended (id : List ℕ) (a b : SiteNow) : Type 0 where
  pub shown : Option Shown
  pub tended : IsTended id (view_of None a) (view_of shown b)

pub tended : (blobs : Option (List Blob)) (sort : Call → Bool) (id : List ℕ) (a b : WorkNow)
    → IsSorted row_id a.site.tables.rows → Does (UploadsOne blobs id) sort a b
    → HasTended id a.site b.site
tended blobs sort id a b ordered h =
    let s = sees (UploadsOne blobs id) sort a b h in
    record {
      shown = s.shown;
      tended = subst (λ (w : View). IsTended id (view_of None a.site) w) s.is
          (tended_one blobs id (view_of None a.site) s.deeds ordered s.part);
    }

new_waits : (row : Option Row) → is_new_row row ≡ true → is_pending row ≡ true
new_waits None h = absurd cc
new_waits (Some r) h = both r.pending (is_none r.base) h where
  both : (a b : Bool) → (a && b) ≡ true → a ≡ true
  both true b h = refl
  both false b h = absurd cc

unput_if : (same : Bool) (id other : List ℕ) (a b : SiteNow) → bytes_eq id other ≡ same
    → (h : HasTended id a b) → is_pending (row_at b.tables other) ≡ true
    → has_put other (session_calls b.line.trail) ≡ has_put other (session_calls a.line.trail)
unput_if true id other a b e h waits =
    let is = same_text id other e in
    subst (λ (k : List ℕ). has_put k (session_calls b.line.trail)
    ≡ has_put k (session_calls a.line.trail)) is
    (h.tended.unput (ap (λ (k : List ℕ). is_pending (row_at b.tables k)) is ∙ waits))
unput_if false id other a b e h waits = h.tended.tends.puts other e

pub unput_on : (id : List ℕ) (a b : SiteNow) → HasTended id a b → AreUnput a → AreUnput b
unput_on id a b h unput other new =
    let waits = new_waits (row_at b.tables other) new in
    let same = h.tended.tends.keeps.rows other waits in
    unput_if (bytes_eq id other) id other a b refl h waits
    ∙ unput other (ap is_new_row same ∙ new)

-- ---- those that are left

left_if : (a b : SiteNow) (id other : List ℕ) (rest : List (List ℕ)) → HasTended id a b
    → is_pending (row_at b.tables other) ≡ true
    → (includes (id ∷ rest) other ≡ true) ⊎ WasUnreadable other (session_calls a.line.trail)
    → (includes rest other ≡ true) ⊎ WasUnreadable other (session_calls b.line.trail)
left_if a b id other rest h waits (inr was) = inr (h.tended.tends.heard other was)
left_if a b id other rest h waits (inl here) =
    elim (or_cases (bytes_eq other id) (includes rest other) here) [
      | inl e ↦ inr (subst (λ (k : List ℕ). WasUnreadable k (session_calls b.line.trail))
          (sym (same_text other id e))
          (h.tended.settled
          (ap (λ (k : List ℕ). is_pending (row_at b.tables k)) (sym (same_text other id e)) ∙ waits)))
      | inr e ↦ inl e
    ]

pub left_on : (a b : SiteNow) (id : List ℕ) (rest : List (List ℕ)) → HasTended id a b
    → AreLeft a (id ∷ rest) → AreLeft b rest
left_on a b id rest h left other waits =
    let same = h.tended.tends.keeps.rows other waits in
    left_if a b id other rest h waits (left other (ap is_pending same ∙ waits))

nothing_left : (d : SiteNow) (id : List ℕ)
    → (includes [] id ≡ true) ⊎ WasUnreadable id (session_calls d.line.trail)
    → WasUnreadable id (session_calls d.line.trail)
nothing_left d id (inl h) = absurd cc
nothing_left d id (inr was) = was

pub settled : (d : SiteNow) → AreLeft d [] → AreSettled d
settled d left id waits = nothing_left d id (left id waits)

-- ---- at first

first_if : (y : Row) (ys : List Row) (id : List ℕ) (same waits : Bool) → bytes_eq y.id id ≡ same
    → y.pending ≡ waits
    → is_pending (if same then Some y else at row_id ys id) ≡ true
    → (is_pending (at row_id ys id) ≡ true
    → includes (map row_id (filter (λ (r : Row). r.pending) ys)) id ≡ true)
    → includes (map row_id (if waits then y ∷ filter (λ (r : Row). r.pending) ys
    else filter (λ (r : Row). r.pending) ys)) id ≡ true
first_if y ys id true true e p h rest =
    or_left (bytes_eq id y.id) (includes (map row_id (filter (λ (r : Row). r.pending) ys)) id)
    (ap (λ (k : List ℕ). bytes_eq id k) (same_text y.id id e) ∙ bytes_eq-refl id)
first_if y ys id true false e p h rest = absurd cc
first_if y ys id false true e p h rest =
    or_right (bytes_eq id y.id)
    (includes (map row_id (filter (λ (r : Row). r.pending) ys)) id) (rest h)
first_if y ys id false false e p h rest = rest h

has_each : (rows : List Row) (id : List ℕ) → is_pending (at row_id rows id) ≡ true
    → includes (map row_id (filter (λ (r : Row). r.pending) rows)) id ≡ true
unfolding at
has_each [] id h = absurd cc
has_each (y ∷ ys) id h =
    first_if y ys id (bytes_eq y.id id) y.pending refl refl h (has_each ys id)

pub left_first : (d : SiteNow) → AreLeft d (pending_ids d.tables)
left_first d id waits = inl (has_each d.tables.rows id waits)

-- ---- the whole upload

-- while some are left to be put, they can be
pub can_put : (d : SiteNow) (ids : List (List ℕ)) (i : ℕ) → i < length ids → CanPut d ids
    → IsPlain d
can_put d ids i within (inl readable) = readable
can_put d ids i within (inr none) =
    let e : length ids ≡ 0 = ap (λ (xs : List (List ℕ)). length xs) none in
    absurd (omega (arith, e))

pub ends_all : (ids : List (List ℕ)) (a b : WorkNow) (result : Result (Unit {0}) StepErr)
    → ids ≡ pending_ids a.site.tables
    → Ends (ForEach (UploadsOne (blobs_of a.site.keeper.kept)) ids) is_upload a result b
    → Ends (Uploads a.site.keeper.kept) is_upload a result b
ends_all ids a b result is h =
    let P = UploadsOne (blobs_of a.site.keeper.kept) in
    ends_as (ForEach P ids) (Uploads a.site.keeper.kept) is_upload a b result
    (λ shown deeds. subst (λ (xs : List (List ℕ)). ForEach P xs (view_of shown a.site) deeds) is)
    h
