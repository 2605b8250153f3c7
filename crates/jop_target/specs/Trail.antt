-- What is known of a line, and what a call on it changes.
use Rattle.std.specs.Prelude.{ℕ, ◌≤◌, ◌≡◌, ◌⊎◌, List, [], ◌∷◌, ◌++◌, Option, Some, None, unwrap_or, Result, Ok, Err}
use Rattle.std.specs.declared.alloc.AllocError.{AllocError}
use Rattle.jop_outside.specs.Outside.{HasRisen}
use Rattle.jop_target.specs.declared.call.Call.{Call}
use Rattle.jop_target.specs.declared.reply.Reply.{Reply}
use Rattle.jop_target.specs.declared.reply.Reply.TheVariants.{Listed, Got, GotBlob, Absent, Done, Failed, TooLarge}
use Rattle.jop_target.specs.declared.event.Event.{Event}
use Rattle.jop_target.specs.declared.event.Event.TheVariants.{Began, Sent, Called, Made, Ended}
use Rattle.jop_target.specs.Replies.{TargetNow, Answers, IsReplyTo, KeepsBlob, contents_in}

-- what was done, and the target
pub record LineNow : Type 0 where
  pub trail : List Event
  pub target : TargetNow

-- the target answered a call, and that reply stands in the trail
pub record IsAnswered (old : LineNow) (call : Call) (before : List ℕ)
    (new : LineNow) (after : List ℕ) (reply : Reply) : Type 0 where
  pub trail : new.trail ≡ old.trail ++ Called call reply ∷ []
  pub shape : IsReplyTo call reply
  pub later : old.target.faults ≤ new.target.faults
  pub fault : reply ≡ Failed → HasRisen old.target.faults new.target.faults
  pub stays : ¬ (reply ≡ Failed) → new.target.faults ≡ old.target.faults
  pub answers : Answers old.target.store call before (Ok reply) new.target.store
  pub blob : KeepsBlob (contents_in old.target.store) call before (Ok reply) after

-- the target was asked, and its reply is not known: the call stands in the trail without one
pub record IsSent (old : LineNow) (call : Call) (before : List ℕ)
    (new : LineNow) (after : List ℕ) (e : AllocError) : Type 0 where
  pub trail : new.trail ≡ old.trail ++ Sent call ∷ []
  pub stays : new.target.faults ≡ old.target.faults
  pub answers : Answers old.target.store call before (Err e) new.target.store
  pub blob : KeepsBlob (contents_in old.target.store) call before (Err e) after

-- there was no memory: the target was not asked, and all is as it was; or its reply is not known
abbrev pub IsUnheard : LineNow → Call → List ℕ → LineNow → List ℕ → AllocError → Type 0
IsUnheard old call before new after e =
    ((new ≡ old) × (after ≡ before)) ⊎ IsSent old call before new after e

abbrev pub Asks : {R : Type 0} →
    LineNow → Call → List ℕ → Result R AllocError → LineNow → List ℕ → Type 0
Asks old call before (Ok done) new after =
    (reply : Reply) × IsAnswered old call before new after reply
Asks old call before (Err e) new after = IsUnheard old call before new after e

-- the trail ends in a call with this reply
abbrev pub EndsWith : List Event → Call → Reply → Type 0
EndsWith trail call reply = (before : List Event) × (trail ≡ before ++ Called call reply ∷ [])

-- ---- moments

-- the moment that a reply tells, if any
abbrev pub moment_of : Reply → Option ℕ
moment_of (Listed listing) = Some listing.now
moment_of (Got now content) = Some now
moment_of (GotBlob now len) = Some now
moment_of (Absent now) = Some now
moment_of (Done now) = Some now
moment_of Failed = None
moment_of (TooLarge len) = None

-- the moment that a reply tells, or else the one that was told last
abbrev pub told : ℕ → Reply → ℕ
told last reply = unwrap_or (moment_of reply) last

-- the moment that was told last after an event; a session begins without one
abbrev pub moment_after : ℕ → Event → ℕ
moment_after last Began = 0
moment_after last (Sent call) = last
moment_after last (Called call reply) = told last reply
moment_after last (Made number) = last
moment_after last Ended = last

unfoldable pub moment_from : ℕ → List Event → ℕ
moment_from last [] = last
moment_from last (e ∷ es) = moment_from (moment_after last e) es

-- the last moment that the last session of a trail was told, 0 before the first
abbrev pub last_moment : List Event → ℕ
last_moment trail = moment_from 0 trail
