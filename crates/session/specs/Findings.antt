-- How a file that was got stands to its row.
use Rattle.std.specs.Prelude.{ℕ, ◌≡◌, List, Bool, true, false, bytes_eq, if◌then◌else◌, Option, Some, None}
use Rattle.conflicts.specs.Reports.{with_bad}
use Rattle.conflicts.specs.declared.report.SyncReport.{SyncReport}
use Rattle.jop_target.specs.declared.reply.Reply.{Reply}
use Rattle.jop_target.specs.declared.reply.Reply.TheVariants.{Got, Absent}
use Rattle.law_licences.specs.Items.{remote_in}
use Rattle.law_licences.specs.Sealing.{no_keys}
use Rattle.local_store.specs.Sound.{IsContentOf}
use Rattle.local_store.specs.declared.content.Content.{Content}
use Rattle.local_store.specs.declared.row.Row.{Row}
use Rattle.session.specs.declared.finding.Finding.{Finding}
use Rattle.session.specs.declared.finding.Finding.TheVariants.{Same, Other, Missing, Unreadable}

-- the file is these bytes, or there is none
abbrev pub is_base : Option (List ℕ) → List ℕ → Bool
is_base None bytes = false
is_base (Some base) bytes = bytes_eq base bytes

-- another file: an item of the id, or none that can be read
abbrev pub other_of : Option (List ℕ × Content) → Finding
other_of None = Unreadable
other_of (Some remote) = Other remote

-- no file: there never was one, or it is gone
abbrev pub absent_of : Option (List ℕ) → Finding
absent_of None = Same
absent_of (Some base) = Missing

-- what the reply to a get of the file of this id says to a row with this base
abbrev pub finding_of : List ℕ → Option (List ℕ) → Reply → Finding
finding_of id base (Got now bytes) =
    if is_base base bytes then Same else other_of (remote_in no_keys id bytes)
finding_of id base (Absent now) = absent_of base
finding_of id base reply = Unreadable

-- bytes were got that aren't the base
abbrev pub GivesOthers : Option (List ℕ) → Reply → Type 0
GivesOthers base (Got now bytes) = is_base base bytes ≡ false
GivesOthers base reply = ⊥

-- the row, if it waits to be uploaded
abbrev pub waiting : Option Row → Option Row
waiting None = None
waiting (Some row) = if row.pending then Some row else None

abbrev pub is_unreadable : Finding → Bool
is_unreadable Same = false
is_unreadable (Other remote) = false
is_unreadable Missing = false
is_unreadable Unreadable = true

-- what was found may take the row's place
abbrev pub IsSoundFinding : List ℕ → Finding → Type 0
IsSoundFinding id (Other remote) = IsContentOf id remote.1
IsSoundFinding id finding = Unit {0}

-- this is what the reply to a get of the file of this id says, and it may take the row's place
abbrev pub Judges : List ℕ → Option (List ℕ) → Reply → Finding → Type 0
Judges id base reply finding = (finding ≡ finding_of id base reply) × IsSoundFinding id finding

-- the report, once it is noted if a file can't be read
abbrev pub with_found : SyncReport → List ℕ → Finding → SyncReport
with_found r id finding = if is_unreadable finding then with_bad r id else r
