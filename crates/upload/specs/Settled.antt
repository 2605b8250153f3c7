-- Which rows are settled.
use Rattle.std.specs.Prelude.{ℕ, ◌≡◌, ◌⊎◌, List, [], ◌∷◌, true, None, Some}
use Rattle.delta.specs.Order.{includes}
use Rattle.client.specs.Sites.{SiteNow}
use Rattle.jop_base.specs.declared.path.Path.TheVariants.{Item}
use Rattle.jop_target.specs.declared.call.Call.TheVariants.{Get}
use Rattle.jop_target.specs.declared.reply.Reply.{Reply}
use Rattle.jop_target.specs.declared.reply.Reply.TheVariants.{Got, TooLarge}
use Rattle.law_licences.specs.Checks.{is_pending}
use Rattle.law_licences.specs.Items.{remote_in}
use Rattle.law_licences.specs.Sealing.{no_keys}
use Rattle.law_licences.specs.Trails.{session_calls}
use Rattle.law_licences.specs.Views.{Heard}
use Rattle.local_store.specs.Tables.{row_at}
use Rattle.session.specs.Work.{IsAtWork, WorkNow}
use Rattle.upload.specs.Conditions.{AreUnput, CanPut}

-- the file is no item of this id, or too large
abbrev pub IsNoItem : List ℕ → Reply → Type 0
IsNoItem id (Got now bytes) = remote_in no_keys id bytes ≡ None
IsNoItem id (TooLarge len) = Unit {0}
IsNoItem id reply = ⊥

-- the call was a get of the item's file, which was none
pub record HasNoItem (id : List ℕ) (h : Heard) : Type 0 where
  pub reply : Reply
  pub none : IsNoItem id reply
  pub is : h ≡ record { call = Get (Item id); reply = Some reply }

-- one of these calls was
unfoldable pub WasUnreadable : List ℕ → List Heard → Type 0
WasUnreadable id [] = ⊥
WasUnreadable id (h ∷ hs) = HasNoItem id h ⊎ WasUnreadable id hs

-- the row doesn't wait, or its file was seen in this session and can't be read
abbrev pub IsSettled : List ℕ → SiteNow → Type 0
IsSettled id d =
    is_pending (row_at d.tables id) ≡ true → WasUnreadable id (session_calls d.line.trail)

abbrev pub AreSettled : SiteNow → Type 0
AreSettled d = (id : List ℕ) → IsSettled id d

-- each row that waits is one of these, or was seen so
abbrev pub AreLeft : SiteNow → List (List ℕ) → Type 0
AreLeft d ids =
    (id : List ℕ) → is_pending (row_at d.tables id) ≡ true
    → (includes ids id ≡ true) ⊎ WasUnreadable id (session_calls d.line.trail)

-- A session is at work, and may put these; no file of a new row was put in it, and each row that waits is one of these
-- or settled.
pub record AreUploadable (ids : List (List ℕ)) (w : WorkNow) : Type 0 where
  pub ready : IsAtWork w
  pub readable : CanPut w.site ids
  pub unput : AreUnput w.site
  pub left : AreLeft w.site ids
