-- `sync`: a session, of the client that the tables name, that brings its tables and a target
-- together.
use Rattle.std.specs.Prelude.{ℕ, List, [], ◌∷◌, ◌++◌, length, codes, Result, Ok, Err}
use Rattle.std.specs.Fmt.{decimal}
use Rattle.std.specs.List.{flat_map}
use Rattle.client.specs.Outside.{AreKeptTables, OutsideNow}
use Rattle.conflicts.specs.declared.report.SyncReport.{SyncReport}
use Rattle.jop_cli.specs.Commands.Sessions.{OwnRuns}
use Rattle.jop_cli.specs.Worlds.{RanSync}
use Rattle.jop_status.specs.Outcomes.{Outcome}
use Rattle.jop_status.specs.declared.status.Status.{Status}
use Rattle.jop_status.specs.declared.status.Status.TheVariants as statuses
use Rattle.local_store.specs.declared.tables.Tables.{Tables}
use Rattle.sync_session.specs.declared.sync_err.SyncErr.{SyncErr}
use Rattle.sync_session.specs.declared.sync_err.SyncErr.TheVariants as sync_errors

-- a session was added, from the tables that are kept
abbrev pub SyncsKept : List ℕ → OutsideNow → Result SyncReport SyncErr → OutsideNow → Type 0
SyncsKept client before result after =
    (t : Tables) × AreKeptTables before.keeper t × RanSync client t before result after

-- ---- what is printed

-- a line with an item whose file can't be read
abbrev pub bad_line : List ℕ → List ℕ
bad_line id = codes "bad " ++ (id ++ 10 ∷ [])

abbrev pub bad_text : List (List ℕ) → List ℕ
bad_text ids = flat_map bad_line ids

-- a line with what is counted and its number, and the lines behind it
abbrev pub count_line : List ℕ → ℕ → List ℕ → List ℕ
count_line word count behind = word ++ (decimal count ++ 10 ∷ behind)

-- a line for each count
abbrev pub counts_text : SyncReport → List ℕ
counts_text r =
    count_line (codes "put ") r.put
    (count_line (codes "removed ") r.removed
    (count_line (codes "taken ") r.taken
    (count_line (codes "gone ") r.gone
    (count_line (codes "conflicts ") r.conflicts
    (count_line (codes "bad ") (length r.bad)
    (count_line (codes "locked ") r.locked []))))))

-- the items whose files can't be read, in the order in which that was found, and then the counts
abbrev pub report_text : SyncReport → List ℕ
report_text r = bad_text r.bad ++ counts_text r

-- ---- the command

-- why a sync ended
abbrev pub sync_status : SyncErr → Status
sync_status (sync_errors.Busy lock now) = statuses.Busy lock now
sync_status (sync_errors.LeaseLost seen) = statuses.LeaseLost seen
sync_status (sync_errors.Refused why) = statuses.Refused why
sync_status sync_errors.TargetFault = statuses.TargetFault
sync_status sync_errors.KeeperFault = statuses.KeeperFault
sync_status sync_errors.NoMemory = statuses.NoMemory

abbrev pub sync_outcome : Result SyncReport SyncErr → Outcome
sync_outcome (Ok report) = Ok (report_text report)
sync_outcome (Err error) = Err (sync_status error)

-- the client is known or named, its session was added, and the report is printed when that went well
abbrev pub SyncsAsNamed : OutsideNow → Outcome → OutsideNow → Type 0
SyncsAsNamed before outcome after = OwnRuns SyncsKept sync_outcome before outcome after
