-- `tidy`: the canonical text of the item that the input reads to.
use Rattle.std.specs.Prelude.{ℕ, ◌+◌, ◌<◌, ◌≤◌, ◌≡◌, ◌⊎◌, List, length}
use Rattle.std.specs.Prelude.{Some, Result, Ok, Err}
use Rattle.client.specs.Outside.{IsReadOf, OutsideNow}
use Rattle.jop_status.specs.Outcomes.{Outcome}
use Rattle.jop_status.specs.declared.status.Status.{Status}
use Rattle.jop_status.specs.declared.status.Status.TheVariants as statuses
use Rattle.item_text.specs.Canonical.{IsCanonical}
use Rattle.item_text.specs.Grammar.{first_fault}
use Rattle.item_text.specs.declared.bad_item.BadItem.{BadItem}
use Rattle.item_text.specs.declared.bad_item.ItemErr.{ItemErr}
use Rattle.item_text.specs.declared.bad_item.ItemErr.TheVariants as item_errors
use Rattle.jop_outside.specs.Outside.{HasRisen, SourceNow}
use Rattle.jop_outside.specs.Reading.{WasRead, WasTooLarge}
use Rattle.jop_outside.specs.declared.reading.ReadErr.{ReadErr}
use Rattle.jop_outside.specs.declared.reading.ReadErr.TheVariants as read_errors
use Rattle.jop_cli.specs.Worlds.{EmitsTo}
use Rattle.jop_cli.specs.declared.command.tidy.TidyErr.{TidyErr}
use Rattle.jop_cli.specs.declared.command.tidy.TidyErr.TheVariants as tidy_errors

-- the most bytes of an input that is tidied: 16 MiB
abbrev pub TIDY_LIMIT : ℕ
TIDY_LIMIT = 16777216

abbrev pub read_err : ReadErr → TidyErr
read_err read_errors.Fault = tidy_errors.Fault
read_err read_errors.TooLarge = tidy_errors.TooLarge
read_err read_errors.NoMemory = tidy_errors.NoMemory

abbrev pub item_err : ItemErr → TidyErr
item_err (item_errors.Bad bad) = tidy_errors.Bad bad
item_err item_errors.NoMemory = tidy_errors.NoMemory

-- the input was read to its end, and this is its canonical text
pub record IsTidied (old new : SourceNow) (text : List ℕ) : Type 0 where
  pub bytes : List ℕ
  pub read : WasRead TIDY_LIMIT old bytes new
  pub canonical : IsCanonical bytes text

-- the input was read to its end, and this is its first fault
pub record IsFaulty (old new : SourceNow) (bad : BadItem) : Type 0 where
  pub bytes : List ℕ
  pub read : WasRead TIDY_LIMIT old bytes new
  pub first : first_fault bytes ≡ Some bad

-- each answer that these bytes can have
abbrev pub TidiesBytes : List ℕ → Result (List ℕ) ItemErr → Type 0
TidiesBytes bytes (Ok text) = IsCanonical bytes text
TidiesBytes bytes (Err (item_errors.Bad bad)) = first_fault bytes ≡ Some bad
TidiesBytes bytes (Err item_errors.NoMemory) = Unit {0}

abbrev pub TidiesInput : SourceNow → Result (List ℕ) TidyErr → SourceNow → Type 0
TidiesInput old (Ok text) new = IsTidied old new text
TidiesInput old (Err tidy_errors.Fault) new = HasRisen old.faults new.faults
TidiesInput old (Err tidy_errors.TooLarge) new = WasTooLarge TIDY_LIMIT old new
TidiesInput old (Err (tidy_errors.Bad bad)) new = IsFaulty old new bad
TidiesInput old (Err tidy_errors.NoMemory) new = Unit {0}

-- ---- the command

abbrev pub tidy_status : TidyErr → Status
tidy_status tidy_errors.Fault = statuses.SourceFault
tidy_status tidy_errors.TooLarge = statuses.TooLarge (TIDY_LIMIT + 1)
tidy_status (tidy_errors.Bad bad) = statuses.BadItem bad
tidy_status tidy_errors.NoMemory = statuses.NoMemory

abbrev pub tidy_outcome : Result (List ℕ) TidyErr → Outcome
tidy_outcome (Ok text) = Ok text
tidy_outcome (Err error) = Err (tidy_status error)

abbrev pub bytes_outcome : Result (List ℕ) ItemErr → Outcome
bytes_outcome (Ok text) = Ok text
bytes_outcome (Err error) = Err (tidy_status (item_err error))

-- what these bytes come to is printed, or told as a status
pub record EmitsTidied (bytes : List ℕ) (old : OutsideNow) (status : Status) (new : OutsideNow)
    : Type 0 where
  pub text : Result (List ℕ) ItemErr
  pub tidies : TidiesBytes bytes text
  pub emits : EmitsTo (bytes_outcome text) old status new

-- a text, or its failing print, stands for what was read; a refusal for itself
abbrev pub HasTidyStatus : Result (List ℕ) TidyErr → Status → Type 0
HasTidyStatus (Ok text) status = (status ≡ statuses.Ok) ⊎ (status ≡ statuses.SinkFault)
HasTidyStatus (Err error) status = status ≡ tidy_status error

-- the input is tidied, and nothing else was used
pub record Tidies (old : OutsideNow) (outcome : Outcome) (new : OutsideNow) : Type 0 where
  pub result : Result (List ℕ) TidyErr
  pub tidies : TidiesInput old.input result new.input
  pub is : outcome ≡ tidy_outcome result
  pub within : IsReadOf TIDY_LIMIT old.input new.input
  pub same : new ≡ record old { input = new.input }

-- ---- an input that tells its bytes

-- These bytes are past the limit, or have a first fault, or are an item's text: and `TooLarge`, `Bad`
-- and a text come exactly then, unless a read fails first or memory runs out.
abbrev pub IsTidyAnswer : List ℕ → Result (List ℕ) TidyErr → Type 0
IsTidyAnswer bytes (Err tidy_errors.TooLarge) = TIDY_LIMIT < length bytes
IsTidyAnswer bytes (Err (tidy_errors.Bad bad)) =
    (length bytes ≤ TIDY_LIMIT) × (first_fault bytes ≡ Some bad)
IsTidyAnswer bytes (Ok text) = (length bytes ≤ TIDY_LIMIT) × IsCanonical bytes text
IsTidyAnswer bytes (Err tidy_errors.Fault) = Unit {0}
IsTidyAnswer bytes (Err tidy_errors.NoMemory) = Unit {0}
