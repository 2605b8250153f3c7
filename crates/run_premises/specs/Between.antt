-- Whether another client's put of a file lands between a client's check and its put.
use Rattle.std.specs.Prelude.{ℕ, ◌<◌, ◌≡◌, List, map, slice_get, bytes_eq, Bool, true, false, if◌then◌else◌, Option, Some, None}
use Rattle.jop_base.specs.declared.path.Path.TheVariants.{Item}
use Rattle.jop_target.specs.History.{Happening, Begins, Answered, Unheard, Changed, Ends, Stopped, Step, landed_call}
use Rattle.jop_target.specs.declared.call.Call.{Call}
use Rattle.jop_target.specs.declared.call.Call.TheVariants.{Get, Put, Delete}
use Rattle.law_licences.specs.Checks.{is_file_of}
use Rattle.run_premises.specs.declared.turn.Turn.{Turn}
use Rattle.run_premises.specs.declared.turn.Turn.TheVariants.{Checks, Breaks, Uploads, Nothing}

abbrev pub is_own_turn : Turn → Bool
is_own_turn Checks = true
is_own_turn Breaks = true
is_own_turn turn = false

abbrev pub is_check_turn : Turn → Bool
is_check_turn Checks = true
is_check_turn turn = false

abbrev pub is_upload_turn : Turn → Bool
is_upload_turn Uploads = true
is_upload_turn turn = false

abbrev pub turn_on : Bool → Turn → Turn
turn_on is_on turn = if is_on then turn else Nothing

abbrev pub put_turn : Bool → Turn
put_turn true = Uploads
put_turn false = Breaks

abbrev pub turn_of_call : List ℕ → Call → Bool → Turn
turn_of_call id (Get path) landed = turn_on (is_file_of id path) Checks
turn_of_call id (Put path content) landed = turn_on (is_file_of id path) (put_turn landed)
turn_of_call id (Delete path) landed = turn_on (is_file_of id path) Breaks
turn_of_call id call landed = Nothing

-- what is done with the item's file, whoever does it
abbrev pub turn_of : List ℕ → Happening → Turn
turn_of id Begins = Breaks
turn_of id (Answered call reply landed) = turn_of_call id call landed
turn_of id (Unheard call landed) = turn_of_call id call landed
turn_of id (Changed number) = Nothing
turn_of id Ends = Breaks
turn_of id Stopped = Breaks

-- its own put, too, is a break for a client
abbrev pub own_turn : Turn → Turn
own_turn Uploads = Breaks
own_turn turn = turn

abbrev pub other_turn : Turn → Turn
other_turn Uploads = Uploads
other_turn turn = Nothing

abbrev pub turn_for : List ℕ → List ℕ → Turn → Turn
turn_for client other turn = if bytes_eq other client then own_turn turn else other_turn turn

abbrev pub step_turn : List ℕ → List ℕ → Step → Turn
step_turn id client s = turn_for client s.client (turn_of id s.happens)

abbrev pub turns_for : List ℕ → List ℕ → List Step → List Turn
turns_for id client steps = map (step_turn id client) steps

abbrev pub uploaded_by : Call → Option (List ℕ)
uploaded_by (Put (Item id) content) = Some id
uploaded_by call = None

abbrev pub uploaded_in : Option Call → Option (List ℕ)
uploaded_in None = None
uploaded_in (Some call) = uploaded_by call

abbrev pub uploaded_item : Step → Option (List ℕ)
uploaded_item s = uploaded_in (landed_call s.happens)

-- before this place the client checks, then another one's put lands, and the client does nothing
-- with the file meanwhile
pub record IsCrossedAt (ts : List Turn) (put : ℕ) : Type 0 where
  pub check : ℕ
  pub crossing : ℕ
  pub checks : slice_get ts check ≡ Some Checks
  pub crosses : slice_get ts crossing ≡ Some Uploads
  pub after : check < crossing
  pub before : crossing < put
  pub still : (place : ℕ) (t : Turn) → check < place → place < put → slice_get ts place ≡ Some t →
      is_own_turn t ≡ false

-- the step at this place puts an item's file, and the check before it is crossed
pub record IsGapAt (steps : List Step) (put : ℕ) : Type 0 where
  pub step : Step
  pub id : List ℕ
  pub here : slice_get steps put ≡ Some step
  pub puts : uploaded_item step ≡ Some id
  pub crossed : IsCrossedAt (turns_for id step.client steps) put
