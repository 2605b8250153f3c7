-- What a client does, one deed after the other, each change told beside it.
use Rattle.std.specs.Prelude.{ℕ, ◌+◌, List, [], ◌∷◌, ◌++◌, bytes_eq, if◌then◌else◌, Option, Some, None}
use Rattle.jop_target.specs.History as histories
use Rattle.jop_target.specs.declared.call.Call.{Call}
use Rattle.jop_target.specs.declared.event.Event.{Event}
use Rattle.jop_target.specs.declared.event.Event.TheVariants.{Began, Sent, Called, Made, Ended}
use Rattle.jop_target.specs.declared.reply.Reply.{Reply}
use Rattle.local_store.specs.declared.change.Change.{Change}
use Rattle.local_store.specs.Tale.{TaleStep}

pub data Deed : Type 0 where
  Begins : Deed
  -- a call, and its reply if one was heard
  Asks : (call : Call) (reply : Option Reply) → Deed
  Makes : (change : Change) → Deed
  -- a change was made, and it isn't told which
  MakesUntold : Deed
  Ends : Deed
  -- the program was stopped, or had no memory
  Stops : Deed

-- the change is made that is told, if one is
abbrev pub making : Option Change → Deed
making None = MakesUntold
making (Some change) = Makes change

-- ---- in a trail

-- what a trail tells, where its changes are these, in their order
unfoldable pub deeds_of : List Event → List Change → List Deed
deeds_of [] cs = []
deeds_of (Began ∷ es) cs = Begins ∷ deeds_of es cs
deeds_of (Sent call ∷ es) cs = Asks call None ∷ deeds_of es cs
deeds_of (Called call reply ∷ es) cs = Asks call (Some reply) ∷ deeds_of es cs
deeds_of (Made number ∷ es) [] = MakesUntold ∷ deeds_of es []
deeds_of (Made number ∷ es) (c ∷ cs) = Makes c ∷ deeds_of es cs
deeds_of (Ended ∷ es) cs = Ends ∷ deeds_of es cs

-- what is written down of a deed, where the next change has this number
abbrev pub event_of : ℕ → Deed → List Event
event_of n Begins = Began ∷ []
event_of n (Asks call None) = Sent call ∷ []
event_of n (Asks call (Some reply)) = Called call reply ∷ []
event_of n (Makes change) = Made n ∷ []
event_of n MakesUntold = Made n ∷ []
event_of n Ends = Ended ∷ []
event_of n Stops = []

abbrev pub number_after : ℕ → Deed → ℕ
number_after n (Makes change) = n + 1
number_after n MakesUntold = n + 1
number_after n deed = n

-- the trail of these deeds, whose changes have the numbers from this one on
unfoldable pub events_of : ℕ → List Deed → List Event
events_of n [] = []
events_of n (d ∷ ds) = event_of n d ++ events_of (number_after n d) ds

abbrev pub change_by : Deed → List Change
change_by (Makes change) = change ∷ []
change_by deed = []

-- the changes among these deeds, in their order
unfoldable pub changes_in : List Deed → List Change
changes_in [] = []
changes_in (d ∷ ds) = change_by d ++ changes_in ds

-- ---- in a history of all clients

-- what happens, as its client's deed
abbrev pub deed_by : histories.Happening → Option Change → Deed
deed_by histories.Begins change = Begins
deed_by (histories.Answered call reply landed) change = Asks call (Some reply)
deed_by (histories.Unheard call landed) change = Asks call None
deed_by (histories.Changed number) change = making change
deed_by histories.Ends change = Ends
deed_by histories.Stopped change = Stops

-- all that a client does in these steps, and where it is stopped
unfoldable pub deeds_in : List ℕ → List TaleStep → List Deed
deeds_in client [] = []
deeds_in client (s ∷ ss) =
    if bytes_eq s.step.client client
    then deed_by s.step.happens s.change ∷ deeds_in client ss
    else deeds_in client ss
