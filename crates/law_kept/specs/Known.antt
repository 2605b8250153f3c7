-- What one has seen of a client says what it knows of an item by its own calls and changes.
use Rattle.std.specs.Prelude.{ℕ, List, is_some, Option, Some, None}
use Rattle.jop_target.specs.declared.call.Call.{Call}
use Rattle.jop_target.specs.declared.call.Call.TheVariants.{Get, Put}
use Rattle.jop_target.specs.declared.reply.Reply.{Reply}
use Rattle.local_store.specs.Tables.{row_at, deletion_at}
use Rattle.local_store.specs.declared.row.Row.{Row}
use Rattle.local_store.specs.declared.tables.Tables.{Tables}
use Rattle.law_licences.specs.Checks.{last_on}
use Rattle.law_licences.specs.Views.{Heard, View, Stage, Outside, Working, Finished}
use Rattle.law_kept.specs.Own.{OwnRow, Check, Unchecked, OwnSession, Out, In, Own, check_of, check_put}
use Rattle.law_kept.specs.Telling.{answer_told, was_done}

-- the row without its id
abbrev pub row_known : Option Row → Option OwnRow
row_known None = None
row_known (Some r) =
    Some (record { content = r.content; base = r.base; pending = r.pending })

-- what comes of a call on the item's file
abbrev pub check_by : Call → Option Reply → Check
check_by (Get path) (Some reply) = check_of (answer_told reply)
check_by (Put path bytes) (Some reply) = check_put bytes (was_done reply)
check_by call reply = Unchecked

-- what came of the last one, if there was one
abbrev pub check_known : Option Heard → Check
check_known None = Unchecked
check_known (Some h) = check_by h.call h.reply

-- a check counts within its session, also once that has made its last change
abbrev pub session_known : Stage → Check → OwnSession
session_known Outside check = Out
session_known Working check = In check
session_known Finished check = In check

-- what the tables say of the item of this id
abbrev pub tables_known : List ℕ → Tables → OwnSession → Own
tables_known id t session = record {
  row = row_known (row_at t id);
  deleted = is_some (deletion_at t id);
  session = session;
}

-- what one has seen says of the item of this id
abbrev pub known : List ℕ → View → Own
known id v =
    tables_known id v.tables (session_known v.stage (check_known (last_on id v.calls)))
