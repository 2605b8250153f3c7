-- What all clients do at one store, as one sees it who sees all of them and the store.
use Rattle.std.specs.Prelude.{ℕ, ◌≤◌, ◌≡◌, All, List, [], ◌∷◌, ◌++◌, take, slice_get, Bool, true, false, if◌then◌else◌, bytes_eq, Option, Some, None}
use Rattle.jop_base.specs.Keyed.{IsSorted}
use Rattle.jop_base.specs.Paths.{IsPath, is_guarded}
use Rattle.jop_target.specs.declared.call.Call.{Call}
use Rattle.jop_target.specs.declared.call.Call.TheVariants.{Put, Delete, PutBlob}
use Rattle.jop_target.specs.declared.reply.Reply.{Reply}
use Rattle.jop_target.specs.declared.reply.Reply.TheVariants.{Failed}
use Rattle.jop_target.specs.declared.event.Event.{Event}
use Rattle.jop_target.specs.declared.event.Event.TheVariants.{Began, Sent, Called, Made, Ended}
use Rattle.jop_target.specs.declared.tree.File.{File}
use Rattle.jop_target.specs.declared.tree.Tree.{Tree}
use Rattle.jop_target.specs.Store.{file_key, reply_of, tree_after}

-- ---- what happens

-- A call landed if the store took it in, whatever its client heard of it.
pub data Happening : Type 0 where
  Begins : Happening
  Answered : (call : Call) (reply : Reply) (landed : Bool) → Happening
  Unheard : (call : Call) (landed : Bool) → Happening
  -- A change is made to the client's own tables: that of this number, from 0 on, in the list of the
  -- run that makes it. Each run of a client counts afresh, so over several runs a number alone says
  -- nothing: what was changed stands in the list of the run to which the step belongs.
  Changed : (number : ℕ) → Happening
  Ends : Happening
  -- the program was stopped, or had no memory
  Stopped : Happening

-- one client does something, at a moment of the store's clock
pub record Step : Type 0 where
  pub client : List ℕ
  pub moment : ℕ
  pub happens : Happening

-- what the store held at first, and all that ever happened there, in order
pub record History : Type 0 where
  pub opening : Tree
  pub steps : List Step

-- ---- the store

-- the call that landed
abbrev pub landed_call : Happening → Option Call
landed_call (Answered call reply true) = Some call
landed_call (Unheard call true) = Some call
landed_call happening = None

-- only a call that landed changes the tree
abbrev pub tree_with : Tree → ℕ → Option Call → Tree
tree_with tree moment None = tree
tree_with tree moment (Some call) = tree_after tree moment call

unfoldable pub tree_from : Tree → List Step → Tree
tree_from tree [] = tree
tree_from tree (s ∷ ss) = tree_from (tree_with tree s.moment (landed_call s.happens)) ss

-- what the store holds when this place, counted from 0, is reached
abbrev pub tree_at : History → ℕ → Tree
tree_at h place = tree_from h.opening (take place h.steps)

-- A reply other than `Failed` is the store's, though the moment that it tells may be an earlier
-- one, and its call landed.
abbrev pub IsHonestReply : Tree → ℕ → Happening → Type 0
IsHonestReply tree moment (Answered call Failed landed) = Unit {0}
IsHonestReply tree moment (Answered call reply landed) =
    (landed ≡ true) × ((now : ℕ) × (now ≤ moment) × (reply ≡ reply_of tree now call))
IsHonestReply tree moment happening = Unit {0}

-- each file's name is a path, and stands once, in the order of the texts
pub record IsOrderly (tree : Tree) : Type 0 where
  pub paths : All (λ (f : File). IsPath f.path) tree.files
  pub ordered : IsSorted file_key tree.files

-- Moments never fall, each reply is honest, and only calls that land change the tree.
abbrev pub IsHonestFrom : Tree → ℕ → List Step → Type 0
IsHonestFrom tree now [] = Unit {0}
IsHonestFrom tree now (s ∷ ss) =
    (now ≤ s.moment)
    × IsHonestReply tree s.moment s.happens
    × IsHonestFrom (tree_with tree s.moment (landed_call s.happens)) s.moment ss

-- the store was in order at first, and told the truth ever since
pub record IsHonest (h : History) : Type 0 where
  pub opening : IsOrderly h.opening
  pub steps : IsHonestFrom h.opening 0 h.steps

-- ---- the clients

-- what the client itself writes down
abbrev pub noted : Happening → List Event
noted Begins = Began ∷ []
noted (Answered call reply landed) = Called call reply ∷ []
noted (Unheard call landed) = Sent call ∷ []
noted (Changed number) = Made number ∷ []
noted Ends = Ended ∷ []
noted Stopped = []

-- a client's part of what happens: all that it writes down, in order
abbrev pub part_of : List ℕ → List Step → List Event
part_of client [] = []
part_of client (s ∷ ss) =
    if bytes_eq s.client client then noted s.happens ++ part_of client ss else part_of client ss

-- ---- who writes

-- a call that changes files other than locks and temporary ones
abbrev pub is_guarded_call : Call → Bool
is_guarded_call (Put path content) = is_guarded path
is_guarded_call (Delete path) = is_guarded path
is_guarded_call (PutBlob id len) = true
is_guarded_call call = false

-- at this place, counted from 0, such a call of the client lands
pub record WritesAt (h : History) (place : ℕ) (client : List ℕ) : Type 0 where
  pub step : Step
  pub call : Call
  pub here : slice_get h.steps place ≡ Some step
  pub by : step.client ≡ client
  pub landed : landed_call step.happens ≡ Some call
  pub guarded : is_guarded_call call ≡ true
