-- How a line goes on over several calls.
use Rattle.std.specs.Prelude.{ℕ, ◌≤◌, ◌≡◌, ◌⊎◌, List, [], ◌∷◌, ◌++◌, All, Bool, true, false, ◌||◌, Option, Some, None}
use Rattle.jop_outside.specs.Outside.{HasRisen}
use Rattle.jop_target.specs.declared.reply.Reply.{Reply}
use Rattle.jop_target.specs.declared.reply.Reply.TheVariants.{Failed}
use Rattle.jop_target.specs.declared.event.Event.{Event}
use Rattle.jop_target.specs.declared.event.Event.TheVariants.{Called, Sent}
use Rattle.jop_target.specs.Replies.{IsCallable}
use Rattle.jop_target.specs.Store.{Store, store_after, store_reply}
use Rattle.jop_target.specs.Trail.{LineNow}

-- The calls of these events lead from one store to another: each reply is the store's, in order,
-- and a call without a reply landed or was never asked. The bytes of a blob that was put don't
-- stand in the events.
unfoldable pub LeadsTo : Store → List Event → Store → Type 0
LeadsTo s [] t = t ≡ s
LeadsTo s (Called call reply ∷ es) t =
    (bytes : List ℕ)
    × IsCallable call bytes
    × (reply ≡ store_reply s call)
    × LeadsTo (store_after s call bytes) es t
LeadsTo s (Sent call ∷ es) t =
    ((bytes : List ℕ) × IsCallable call bytes × LeadsTo (store_after s call bytes) es t)
    ⊎ LeadsTo s es t
LeadsTo s (e ∷ es) t = LeadsTo s es t

-- the same of a target, if it tells what it holds
abbrev pub TellsRun : Option Store → List Event → Option Store → Type 0
TellsRun None events after = after ≡ None
TellsRun (Some s) events after = (t : Store) × (after ≡ Some t) × LeadsTo s events t

abbrev pub is_failed : Reply → Bool
is_failed Failed = true
is_failed reply = false

-- whether a call was answered `Failed`
unfoldable pub has_failed : List Event → Bool
has_failed [] = false
has_failed (Called call reply ∷ es) = is_failed reply || has_failed es
has_failed (e ∷ es) = has_failed es

-- A line has gone on: by these events, each as P says; the target's count has risen if a call
-- failed, and stays if none did; and its store, if it tells, is what their calls leave.
pub record Continues (P : Event → Type 0) (old new : LineNow) : Type 0 where
  pub more : List Event
  pub trail : new.trail ≡ old.trail ++ more
  pub each : All P more
  pub later : old.target.faults ≤ new.target.faults
  pub fault : has_failed more ≡ true → HasRisen old.target.faults new.target.faults
  pub stays : has_failed more ≡ false → new.target.faults ≡ old.target.faults
  pub store : TellsRun old.target.store more new.target.store
