-- A row that waits, and what its file is to it.
use Rattle.std.specs.Prelude.{ℕ, ◌≡◌, List, true, false, is_none, Option, Some}
use Rattle.client.specs.Sites.{SiteNow}
use Rattle.jop_base.specs.declared.path.Path.TheVariants.{Item}
use Rattle.jop_target.specs.declared.call.Call.TheVariants.{Get}
use Rattle.jop_target.specs.declared.reply.Reply.{Reply}
use Rattle.law_licences.specs.Checks.{last_on}
use Rattle.law_licences.specs.Conflicts.{MayConflict}
use Rattle.law_licences.specs.Copies.{copies_for}
use Rattle.law_licences.specs.Puts.{has_put}
use Rattle.law_licences.specs.Trails.{session_calls}
use Rattle.law_licences.specs.Views.{Heard, Shown}
use Rattle.local_store.specs.Sound.{IsRemoteOf}
use Rattle.local_store.specs.Tables.{row_at}
use Rattle.local_store.specs.declared.content.Content.{Content}
use Rattle.local_store.specs.declared.row.Row.{Row}
use Rattle.session.specs.Findings.{IsSoundFinding, finding_of}
use Rattle.session.specs.Work.{IsAtWork, WorkNow, view_of}
use Rattle.session.specs.declared.finding.Finding.{Finding}
use Rattle.session.specs.declared.finding.Finding.TheVariants.{Same}
use Rattle.upload.specs.Conditions.{IsPlain}

-- a get of the row's file
abbrev pub row_file_got : Row → Reply → Heard
row_file_got row reply = record { call = Get (Item row.id); reply = Some reply }

-- the row waits, and the session's last call on its file row_file_got this
pub record IsFoundForRow (row : Row) (finding : Finding) (d : SiteNow) : Type 0 where
  pub reply : Reply
  pub found : finding ≡ finding_of row.id row.base reply
  pub at : row_at d.tables row.id ≡ Some row
  pub pending : row.pending ≡ true
  pub last : last_on row.id (session_calls d.line.trail) ≡ Some (row_file_got row reply)

-- a session is at work, and has found this file of the row
pub record HasFoundFile (row : Row) (finding : Finding) (w : WorkNow) : Type 0 where
  pub ready : IsAtWork w
  pub found : IsFoundForRow row finding w.site

-- a session is at work, has found the row's file as the client left it, and puts files as they are
pub record MayPutText (row : Row) (w : WorkNow) : Type 0 where
  pub ready : IsAtWork w
  pub found : IsFoundForRow row Same w.site
  pub readable : IsPlain w.site

-- A session is at work, and may upload the row, which waits: files are put as they are, as no key is known here, and no
-- file of it was put in this session if it is new.
pub record IsUploadable (row : Row) (w : WorkNow) : Type 0 where
  pub ready : IsAtWork w
  pub at : row_at w.site.tables row.id ≡ Some row
  pub pending : row.pending ≡ true
  pub readable : IsPlain w.site
  pub unput : is_none row.base ≡ true → has_put row.id (session_calls w.site.line.trail) ≡ false

-- a session is at work, and its last call on the row's file got this, which may take the row's place
pub record HasSeenFile (row : Row) (finding : Finding) (w : WorkNow) : Type 0 where
  pub ready : IsAtWork w
  pub found : IsFoundForRow row finding w.site
  pub sound : IsSoundFinding row.id finding
  pub readable : IsPlain w.site
  pub unput : is_none row.base ≡ true → has_put row.id (session_calls w.site.line.trail) ≡ false

-- the row may give way to this, or to nothing, whatever the session was shown
pub record MayYieldTo (row : Row) (remote : Option (List ℕ × Content)) (d : SiteNow) : Type 0 where
  pub sound : IsRemoteOf row.id remote
  pub may : (shown : Option Shown)
      → MayConflict (view_of shown d) row.id remote (copies_for row.content remote)

-- and the session is at work
pub record MayYield (row : Row) (remote : Option (List ℕ × Content)) (w : WorkNow) : Type 0 where
  pub ready : IsAtWork w
  pub yields : MayYieldTo row remote w.site
