-- What is left of a run that was stopped: what it had done by then.
use Rattle.std.specs.Prelude.{ℕ, ◌≡◌, ◌⊎◌, List, [], ◌∷◌, ◌++◌, take, drop, length}
use Rattle.jop_target.specs.declared.call.Call.{Call}
use Rattle.jop_target.specs.declared.event.Event.{Event}
use Rattle.jop_target.specs.declared.event.Event.TheVariants.{Sent, Called}
use Rattle.jop_target.specs.declared.reply.Reply.{Reply}
use Rattle.local_store.specs.Tale.{made_in}
use Rattle.local_store.specs.declared.change.Change.{Change}

-- it was stopped behind its first events, so many of them
abbrev pub IsFirst : List Event → ℕ → List Event → Type 0
IsFirst trail n cut = cut ≡ take n trail

-- it was stopped in the call behind them, whose reply it didn't hear
pub record IsAmidCall (trail : List Event) (n : ℕ) (cut : List Event) : Type 0 where
  pub call : Call
  pub reply : Reply
  pub rest : List Event
  pub next : drop n trail ≡ Called call reply ∷ rest
  pub left : cut ≡ take n trail ++ Sent call ∷ []

-- this is left of the trail, wherever it was
abbrev pub IsCut : List Event → List Event → Type 0
IsCut trail cut = (n : ℕ) × (IsFirst trail n cut ⊎ IsAmidCall trail n cut)

-- and this of its changes, those that it had made
abbrev pub IsCutWith : List Event → List Change → List Event → List Change → Type 0
IsCutWith trail made cut kept = IsCut trail cut × (kept ≡ take (length (made_in cut)) made)
