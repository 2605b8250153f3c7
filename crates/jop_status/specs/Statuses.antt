-- How a run ends: a row for each status, with its exit number and its line on standard error.
use Rattle.std.specs.Prelude.{ℕ, List, [], ◌∷◌, ◌++◌, codes, Bool, true, false, Some, None}
use Rattle.std.specs.Fmt.{decimal}
use Rattle.conflicts.specs.declared.refusal.Refusal.TheVariants as refusals
use Rattle.jop_base.specs.LockNames.{Name, file_name}
use Rattle.item_text.specs.declared.bad_item.BadWhy.{BadWhy}
use Rattle.item_text.specs.declared.bad_item.BadWhy.TheVariants.{NotText, NoColon, NoType, TypeValue}
use Rattle.target_upgrade.specs.Steps.{SUPPORTED}
use Rattle.jop_status.specs.declared.status.Status.{Status}
use Rattle.jop_status.specs.declared.status.Status.TheVariants as statuses

pub record StatusRow : Type 0 where
  pub exit : ℕ
  pub line : List ℕ

abbrev pub row : ℕ → List ℕ → StatusRow
row exit line = record { exit = exit; line = line }

-- a line, with its line feed
abbrev pub line_of : List ℕ → List ℕ
line_of text = text ++ 10 ∷ []

-- how the program is called
abbrev pub usage_line : List ℕ
usage_line = codes "usage: jop [--profile PATH] COMMAND" ++ 10 ∷ []

-- the name of the lock that is in the way, and its stamp
abbrev pub busy_text : Name → ℕ → List ℕ
busy_text name stamp = codes "busy " ++ (file_name name ++ (codes " " ++ decimal stamp))

-- a number between two words
abbrev pub within_text : List ℕ → ℕ → List ℕ → List ℕ
within_text word number behind = word ++ (decimal number ++ behind)

-- the first digits of an id, and how many rows have an id that begins so
abbrev pub not_one_text : List ℕ → ℕ → List ℕ
not_one_text start count =
    codes "not found " ++ (start ++ (codes ", " ++ (decimal count ++ codes " ids begin so")))

-- why a text is no item's, in words
abbrev pub why_text : BadWhy → List ℕ
why_text NotText = codes "not text"
why_text NoColon = codes "no colon"
why_text NoType = codes "no type"
why_text TypeValue = codes "type value"

-- the version of a target, and how it stands to the one of this program
abbrev pub version_text : ℕ → List ℕ → List ℕ
version_text version stands =
    codes "target version " ++ (decimal version ++ (stands ++ decimal SUPPORTED))

-- the line of a text that is no item's, and why
abbrev pub bad_item_text : ℕ → List ℕ → List ℕ
bad_item_text line why = codes "bad item line " ++ (decimal line ++ (codes " " ++ why))

abbrev pub row_of : Status → StatusRow
row_of statuses.Ok = row 0 []
row_of statuses.Usage = row 2 usage_line
row_of (statuses.Busy lock now) = row 3 (line_of (busy_text lock.name lock.stamp))
row_of (statuses.LeaseLost seen) = row 4 (line_of (codes "lease lost"))
row_of (statuses.Refused (refusals.TargetOlder version)) =
    row 5 (line_of (version_text version (codes " is older than ")))
row_of (statuses.Refused (refusals.TargetNewer version)) =
    row 6 (line_of (version_text version (codes " is newer than ")))
row_of (statuses.Refused refusals.BadInfo) = row 7 (line_of (codes "info.json is not readable"))
row_of (statuses.Refused (refusals.FailSafe count)) =
    row 8 (line_of (within_text (codes "no items on the target, ") count (codes " kept here")))
row_of statuses.TargetFault = row 9 (line_of (codes "target fault"))
row_of statuses.KeeperFault = row 10 (line_of (codes "keeper fault"))
row_of statuses.SourceFault = row 11 (line_of (codes "input fault"))
row_of statuses.SinkFault = row 12 (line_of (codes "output fault"))
row_of statuses.ClockFault = row 13 (line_of (codes "clock fault"))
row_of statuses.EntropyFault = row 14 (line_of (codes "random source fault"))
row_of (statuses.NotFound id) = row 15 (line_of (codes "not found " ++ id))
row_of (statuses.NotOne count) = row 15 (line_of (not_one_text count.start count.count))
row_of (statuses.Sealed id) = row 16 (line_of (codes "sealed " ++ id))
row_of (statuses.TimeEnd id) = row 17 (line_of (codes "time end " ++ id))
row_of (statuses.TooLarge length) = row 18 (line_of (codes "too large " ++ decimal length))
row_of (statuses.Refused (refusals.NoKey None)) = row 20 (line_of (codes "no key"))
row_of (statuses.Refused (refusals.NoKey (Some id))) = row 20 (line_of (codes "no key " ++ id))
row_of (statuses.BadItem bad) = row 21 (line_of (bad_item_text bad.line (why_text bad.why)))
row_of statuses.NoMemory = row 22 (line_of (codes "no memory"))
row_of (statuses.NoConflict number) =
    row 23 (line_of (codes "no conflict " ++ decimal number))
row_of (statuses.NotEmpty id) = row 24 (line_of (codes "not empty " ++ id))
row_of statuses.NotText = row 25 (line_of (codes "input is not text"))
row_of (statuses.BelowItself id) = row 26 (line_of (codes "below itself " ++ id))
row_of (statuses.BadPassword id) = row 19 (line_of (codes "bad password " ++ id))
row_of (statuses.NoKey None) = row 20 (line_of (codes "no key"))
row_of (statuses.NoKey (Some id)) = row 20 (line_of (codes "no key " ++ id))

-- whether a status says why the words were not done
abbrev pub is_refusal : Status → Bool
is_refusal statuses.Ok = false
is_refusal statuses.NoMemory = false
is_refusal status = true

-- whether a status comes before anything is printed
abbrev pub is_early : Status → Bool
is_early statuses.Ok = false
is_early statuses.SinkFault = false
is_early status = true
