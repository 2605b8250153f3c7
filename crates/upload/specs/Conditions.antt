-- What an upload asks of the client.
use Rattle.std.specs.Prelude.{ℕ, ◌≡◌, ◌⊎◌, List, [], Bool, true, false, ◌&&◌, is_none, Option, Some, None}
use Rattle.client.specs.Sites.{SiteNow}
use Rattle.law_licences.specs.Puts.{PutsPlain, has_put}
use Rattle.law_licences.specs.Trails.{session_calls}
use Rattle.local_store.specs.Tables.{row_at}
use Rattle.local_store.specs.declared.row.Row.{Row}
use Rattle.session.specs.Work.{IsAtWork, WorkNow}
use Rattle.upload.specs.Uploading.{pending_ids}

-- files are put as they are, as no key is known here
abbrev pub IsPlain : SiteNow → Type 0
IsPlain d = PutsPlain d.tables.info (session_calls d.line.trail)

-- so they are, or none of these is to be put
abbrev pub CanPut : SiteNow → List (List ℕ) → Type 0
CanPut d ids = IsPlain d ⊎ (ids ≡ [])

-- so it is for all rows that wait
abbrev pub IsReadable : SiteNow → Type 0
IsReadable d = CanPut d (pending_ids d.tables)

-- the row waits, and its file was never there
abbrev pub is_new_row : Option Row → Bool
is_new_row None = false
is_new_row (Some r) = r.pending && is_none r.base

-- no file of such a row was put in this session, so the bytes of a resource still come before it
abbrev pub AreUnput : SiteNow → Type 0
AreUnput d =
    (id : List ℕ) → is_new_row (row_at d.tables id) ≡ true
    → has_put id (session_calls d.line.trail) ≡ false

-- A session may upload the row of any id: it is at work, files are put as they are, and no file of a new row was put in
-- it.
pub record CanUploadAny (w : WorkNow) : Type 0 where
  pub ready : IsAtWork w
  pub readable : IsPlain w.site
  pub unput : AreUnput w.site

-- A session may upload: it is at work, all rows that wait may be put, and no file of a new one was put in it.
pub record CanUpload (w : WorkNow) : Type 0 where
  pub ready : IsAtWork w
  pub readable : IsReadable w.site
  pub first : AreUnput w.site
