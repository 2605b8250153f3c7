-- A session from its begin to its end.
use Rattle.std.proofs.Common.{◌≡◌, ◌∙◌, refl, sym, ap, subst, ℕ, List, [], ◌∷◌, ◌++◌, append_assoc, append-nil, true, false, Result, Err}
use Rattle.std.proofs.lemmas.List.{append_cancel_left, append_cancel_right}
use Rattle.jop_target.specs.declared.event.Event.{Event}
use Rattle.jop_target.specs.declared.event.Event.TheVariants.{Began, Sent, Called, Made, Ended}
use Rattle.jop_target.specs.Runs.{Continues}
use Rattle.jop_target.specs.Trail.{LineNow}
use Rattle.jop_target.proofs.Runs.{continues_weaker}
use Rattle.lease.specs.Discipline.{ends_released, phase_of}
use Rattle.lease.specs.WholeSession.{IsInner}
use Rattle.lease.specs.Work.{NoneFailed}
use Rattle.lease.proofs.WholeSessions.{adds_begun, adds_none, adds_whole, at_seam}
use Rattle.target_upgrade.specs.Course.{KeepsVersions, course_of}
use Rattle.target_upgrade.proofs.Whole.{keeps_begun, keeps_none, keeps_whole}
use Rattle.sync_run.proofs.Starved.{none_failed_begun, none_failed_unbegun}
use Rattle.sync_run.specs.Sessions.{AddsTask, RunsTask, IsMarkOr, IsOpen, IsWholeSession, has_ended}
use Rattle.sync_run.specs.declared.session_err.SessionErr.{SessionErr}
use Rattle.sync_run.specs.declared.session_err.SessionErr.TheVariants.{NoMemory}

-- ---- the session is made

-- what stands before the end of a session
pub before_end : (old middle trail new : List Event) → new ≡ trail ++ Ended ∷ [] →
    new ≡ old ++ Began ∷ (middle ++ Ended ∷ []) → trail ≡ old ++ Began ∷ middle
before_end old middle trail new ends whole =
    append_cancel_right trail (old ++ Began ∷ middle) (Ended ∷ [])
    (sym ends ∙ (whole ∙ sym (append_assoc old (Began ∷ middle) (Ended ∷ []))))

-- the calls of a task are within its session
abbrev pub AreInner : (List ℕ → Event → Type 0) → Type 0
AreInner calls = (client : List ℕ) (e : Event) → calls client e → IsInner e

whole : {T : Type 0} (calls : List ℕ → Event → Type 0)
    (answers : List ℕ → List Event → Result T SessionErr → Type 0) (client : List ℕ)
    (old new : List Event) (start mid : LineNow) (result : Result T SessionErr) → AreInner calls →
    start.trail ≡ old ++ Began ∷ [] → RunsTask calls answers client start mid result →
    answers client mid.trail result → ends_released (phase_of client mid.trail) ≡ true →
    new ≡ mid.trail ++ Ended ∷ [] →
    IsWholeSession (calls client) (answers client) client old new result
whole calls answers client old new start mid result inner begun runs because released ends =
    let adds = adds_whole (calls client) client old new start mid (inner client) begun runs.on.goes
    released ends in
    let at = before_end old adds.middle mid.trail new ends adds.trail in
    record {
      whole = adds;
      work = keeps_whole client old adds.middle (λ i d lt. inner client _ (adds.each i d lt))
          (ap (λ (t : List Event). (course_of client t).lawful) (sym at) ∙ runs.on.work);
      because = subst (λ (t : List Event). answers client t result) at because;
    }

pub adds_ended : {T : Type 0} (calls : List ℕ → Event → Type 0)
    (answers : List ℕ → List Event → Result T SessionErr → Type 0) (client : List ℕ)
    (old new : List Event) (start mid : LineNow) (result : Result T SessionErr) → AreInner calls →
    start.trail ≡ old ++ Began ∷ [] → RunsTask calls answers client start mid result →
    has_ended result ≡ true → new ≡ mid.trail ++ Ended ∷ [] →
    AddsTask calls answers client old new result
adds_ended calls answers client old new start mid (Err NoMemory) inner begun runs ended ends = cc
adds_ended calls answers client old new start mid result inner begun runs ended ends =
    whole calls answers client old new start mid result inner begun runs runs.ends.released.0
    runs.ends.released.1 ends

adds_open : {T : Type 0} (calls : List ℕ → Event → Type 0)
    (answers : List ℕ → List Event → Result T SessionErr → Type 0) (client : List ℕ)
    (old new : List Event) (start mid : LineNow) (result : Result T SessionErr) → AreInner calls →
    start.trail ≡ old ++ Began ∷ [] → RunsTask calls answers client start mid result →
    NoneFailed start.trail mid.trail → new ≡ mid.trail → IsOpen (calls client) client old new
adds_open calls answers client old new start mid result inner begun runs none same =
    let more = runs.on.goes.line.more in
    let at = at_seam old more start.trail mid.trail begun runs.on.goes.line.trail in
    let adds = adds_begun (calls client) client old new start mid (inner client) begun runs.on.goes
    same in
    let kept = keeps_begun client old more
    (λ i d lt. inner client _ (runs.on.goes.line.each i d lt))
    (ap (λ (t : List Event). (course_of client t).lawful) (sym at) ∙ runs.on.work) in
    record {
      begun = adds;
      work = subst (KeepsVersions client)
          (append_cancel_left old (Began ∷ more) adds.more (sym (same ∙ at) ∙ adds.trail)) kept;
      heard = none_failed_begun old start.trail mid.trail adds.more begun none
          (sym same ∙ adds.trail);
    }

pub adds_nothing : (P : Event → Type 0) (client : List ℕ) (old new : List Event) → new ≡ old →
    IsOpen P client old new
adds_nothing P client old new same =
    let adds = adds_none P client old new same in
    record {
      begun = adds;
      work = subst (KeepsVersions client)
          (append_cancel_left old [] adds.more (append-nil old ∙ (sym same ∙ adds.trail)))
          (keeps_none client);
      heard = none_failed_unbegun old new adds.more same adds.trail;
    }

pub adds_unended : {T : Type 0} (calls : List ℕ → Event → Type 0)
    (answers : List ℕ → List Event → Result T SessionErr → Type 0) (client : List ℕ)
    (old new : List Event) (start mid : LineNow) (result : Result T SessionErr) → AreInner calls →
    start.trail ≡ old ++ Began ∷ [] → RunsTask calls answers client start mid result →
    has_ended result ≡ false → new ≡ mid.trail → AddsTask calls answers client old new result
adds_unended calls answers client old new start mid (Err NoMemory) inner begun runs ended same =
    adds_open calls answers client old new start mid (Err NoMemory) inner begun runs
    (runs.ends.heard refl) same
adds_unended calls answers client old new start mid result inner begun runs ended same = cc

pub as_marked : (P : Event → Type 0) (old new : LineNow) → Continues P old new →
    Continues (IsMarkOr P) old new
as_marked P old new h = continues_weaker P (IsMarkOr P) old new allowed h where
  allowed : (e : Event) → P e → IsMarkOr P e
  allowed Began h = tt
  allowed Ended h = tt
  allowed (Sent call) h = h
  allowed (Called call reply) h = h
  allowed (Made n) h = h
