-- What a session has done, in numbers.
use Rattle.std.specs.Prelude.{ℕ, ◌+◌, ◌-◌, ◌^◌, min, List, [], ◌∷◌, ◌++◌, Bool, true, false, if◌then◌else◌}
use Rattle.delta.specs.Order.{includes}
use Rattle.local_store.specs.declared.change.Change.{Change}
use Rattle.local_store.specs.declared.change.Change.TheVariants.{Uploaded, Dropped, Taken, Conflict, Moved, Gone}
use Rattle.conflicts.specs.declared.report.SyncReport.{SyncReport}
use Rattle.conflicts.specs.declared.tally.Tally.{Tally}
use Rattle.conflicts.specs.declared.tally.Tally.TheVariants.{Put, Removed, Taken as TakenOne, Gone as GoneOne, Copied, Other}

-- nothing was done
abbrev pub new_report : SyncReport
new_report = record {
  put = 0;
  removed = 0;
  taken = 0;
  gone = 0;
  conflicts = 0;
  bad = [];
  locked = 0;
}

-- a count after one more; at the end of 64 bits it stays
abbrev pub one_more : ℕ → ℕ
one_more count = min (count + 1) (2 ^ 64 - 1)

abbrev pub if_copied : Bool → Tally
if_copied true = Copied
if_copied false = Other

-- the number that a change counts for
abbrev pub tally_of : Change → Tally
tally_of (Uploaded id bytes) = Put
tally_of (Dropped id) = Removed
tally_of (Taken id bytes content) = TakenOne
tally_of (Gone id) = GoneOne
tally_of (Conflict id remote copies) = if_copied copies
tally_of (Moved id) = Copied
tally_of change = Other

abbrev pub with_tally : SyncReport → Tally → SyncReport
with_tally r Put = record r { put = one_more r.put }
with_tally r Removed = record r { removed = one_more r.removed }
with_tally r TakenOne = record r { taken = one_more r.taken }
with_tally r GoneOne = record r { gone = one_more r.gone }
with_tally r Copied = record r { conflicts = one_more r.conflicts }
with_tally r Other = r

-- the report after a change: uploads, deletions, files taken, rows gone, and new conflict notes are counted
abbrev pub counted : SyncReport → Change → SyncReport
counted r change = with_tally r (tally_of change)

-- the ids with this one behind them, unless it stands there
abbrev pub with_bad_id : List (List ℕ) → List ℕ → List (List ℕ)
with_bad_id ids id = if includes ids id then ids else ids ++ id ∷ []

-- the report once the file of this id can't be read
abbrev pub with_bad : SyncReport → List ℕ → SyncReport
with_bad r id = record r { bad = with_bad_id r.bad id }
