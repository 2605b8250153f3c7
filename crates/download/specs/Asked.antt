-- Which files a listing asks for.
use Rattle.std.specs.Prelude.{ℕ, List, All, Contains, Bool, Some, Result}
use Rattle.client.specs.Sites.{SiteNow}
use Rattle.conflicts.specs.declared.error.StepErr.{StepErr}
use Rattle.delta.specs.declared.page.Page.{Page}
use Rattle.download.specs.Taking.{Meets, is_taking}
use Rattle.jop_target.specs.declared.call.Call.{Call}
use Rattle.law_licences.specs.Pages.{IsPage}
use Rattle.law_licences.specs.Views.{Shown}
use Rattle.local_store.specs.Tables.{row_at}
use Rattle.local_store.specs.declared.content.Content.{Content}
use Rattle.session.specs.Doing.{Ends}
use Rattle.session.specs.Findings.{IsSoundFinding, waiting}
use Rattle.session.specs.Parts.{Part}
use Rattle.session.specs.Sessions.{IsFound}
use Rattle.session.specs.Work.{WorkNow, knowing}
use Rattle.session.specs.declared.finding.Finding.{Finding}

-- the page asks for this file
pub record PageAsksFor (known : Shown) (id : List ℕ) : Type 0 where
  pub page : Page
  pub is : IsPage known page
  pub taken : Contains page.taken id

-- it asks for all of these
abbrev pub AsksForAll : List (List ℕ) → Shown → Type 0
AsksForAll ids known = All (PageAsksFor known) ids

-- for each listing that the session was shown, if it was, and from which this was asked, it was this part, or gave
-- nothing
abbrev pub EndsShown : (Shown → Type 0) → (Call → Bool) → Part → WorkNow →
    Result (Unit {0}) StepErr → WorkNow → Type 0
EndsShown Asked sort P old result new =
    (known : Shown) → Asked known
    → Ends P sort (knowing (Some known) old) result (knowing (Some known) new)

-- if the session's last listing asks for this file, it was this part, or gave nothing
abbrev pub EndsIfAsked : List ℕ → Part → WorkNow → Result (Unit {0}) StepErr → WorkNow → Type 0
EndsIfAsked id P old result new =
    EndsShown (λ known. PageAsksFor known id) is_taking P old result new

-- if it asks for this file, which holds this, the row of its id met it, or that gave nothing
abbrev pub EndsMet : List ℕ → List ℕ × Content → WorkNow → Result (Unit {0}) StepErr → WorkNow →
    Type 0
EndsMet id remote old result new =
    EndsIfAsked id (Meets id remote (waiting (row_at old.site.tables id))) old result new

-- ---- a file

-- the session's last call on the item's file got this, which may take the place of the row
pub record IsGot (id : List ℕ) (finding : Finding) (d : SiteNow) : Type 0 where
  pub found : IsFound id finding d
  pub sound : IsSoundFinding id finding
