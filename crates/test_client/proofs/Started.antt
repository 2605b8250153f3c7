-- What stands when a session has begun, and once it holds its lease.
use Rattle.std.specs.Prelude.{ℕ, ◌≡◌, List, [], ◌∷◌, ◌++◌, false}
use Rattle.std.proofs.Common.{ap, ◌∙◌}
use Rattle.client.specs.Sites.{SiteNow}
use Rattle.jop_target.specs.declared.event.Event.{Event}
use Rattle.jop_target.specs.declared.event.Event.TheVariants.{Began}
use Rattle.lease.proofs.Sessions.{session_from-last}
use Rattle.lease.specs.Calls.{LeaseGoesOn}
use Rattle.lease.specs.Discipline.{Session, outside, session_of}
use Rattle.lease.specs.Phase.{Free}
use Rattle.lease.specs.Standing.{StandsIn}
use Rattle.law_licences.proofs.Told.{calls_from-append}
use Rattle.law_licences.specs.Infos.{info_read}
use Rattle.law_licences.specs.Puts.{has_put, seals_by}
use Rattle.law_licences.specs.Trails.{calls_from, session_calls}
use Rattle.law_licences.specs.Views.{Heard}
use Rattle.session.proofs.Asked.{calls_locks}
use Rattle.upload.specs.Conditions.{AreUnput, IsPlain}
use Rattle.test_client.specs.Begun.{EndsAtBeginning}

session_begun : (client : List ℕ) (trail : List Event) → (h : EndsAtBeginning trail)
    → session_of client trail ≡ session_of client (h.before ++ Began ∷ [])
session_begun client trail h = ap (session_of client) h.is

pub stands_begun : (client : List ℕ) (trail : List Event) → EndsAtBeginning trail
    → StandsIn client trail Free
stands_begun client trail h =
    let same = session_begun client trail h ∙ session_from-last client outside h.before Began in
    record {
      running = ap (λ (s : Session). s.running) same;
      lawful = ap (λ (s : Session). s.lawful) same;
      phase = ap (λ (s : Session). s.phase) same;
    }

calls_begun : (trail : List Event) → EndsAtBeginning trail → session_calls trail ≡ []
unfolding calls_from
calls_begun trail h = ap session_calls h.is ∙ calls_from-append [] h.before (Began ∷ [])

-- no info was read yet
pub plain_begun : (client : List ℕ) (old new : SiteNow) → EndsAtBeginning old.line.trail
    → LeaseGoesOn client old.line new.line → new.tables.info.e2ee.value ≡ false → IsPlain new
unfolding info_read
plain_begun client old new h goes plain =
    ap (λ (calls : List Heard). seals_by new.tables.info (info_read calls))
    (calls_locks client old new.line goes ∙ calls_begun old.line.trail h)
    ∙ plain

-- nothing was put yet
pub unput_begun : (client : List ℕ) (old new : SiteNow) → EndsAtBeginning old.line.trail
    → LeaseGoesOn client old.line new.line → AreUnput new
unfolding has_put
unput_begun client old new h goes id is_new =
    ap (has_put id) (calls_locks client old new.line goes ∙ calls_begun old.line.trail h)
