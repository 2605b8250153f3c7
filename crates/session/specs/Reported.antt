-- What a report says of what was done.
use Rattle.std.specs.Prelude.{ℕ, List, [], ◌∷◌, Bool, true, false, Option, Some, if◌then◌else◌}
use Rattle.conflicts.specs.Reports.{counted, with_bad}
use Rattle.conflicts.specs.declared.report.SyncReport.{SyncReport}
use Rattle.jop_base.specs.declared.path.Path.TheVariants.{Item}
use Rattle.jop_target.specs.declared.call.Call.{Call}
use Rattle.jop_target.specs.declared.call.Call.TheVariants.{Get}
use Rattle.jop_target.specs.declared.reply.Reply.{Reply}
use Rattle.jop_target.specs.declared.reply.Reply.TheVariants.{Got, TooLarge}
use Rattle.law_licences.specs.Deeds.{Deed, Asks, Makes}
use Rattle.law_licences.specs.Views.{View, seen}
use Rattle.local_store.specs.Tables.{base_of, row_at}
use Rattle.session.specs.Findings.{finding_of, is_unreadable}

-- the file was got, isn't as the client left it, and can't be read
abbrev pub is_bad : List ℕ → Option (List ℕ) → Reply → Bool
is_bad id base (Got now bytes) = is_unreadable (finding_of id base (Got now bytes))
is_bad id base (TooLarge len) = true
is_bad id base reply = false

-- an item's file that can't be read is noted
abbrev pub report_after : View → SyncReport → Call → Option Reply → SyncReport
report_after v r (Get (Item id)) (Some reply) =
    if is_bad id (base_of (row_at v.tables id)) reply then with_bad r id else r
report_after v r call reply = r

-- changes are counted
abbrev pub after_deed : View → SyncReport → Deed → SyncReport
after_deed v r (Asks call reply) = report_after v r call reply
after_deed v r (Makes change) = counted r change
after_deed v r deed = r

-- the report after these deeds
unfoldable pub reported : View → SyncReport → List Deed → SyncReport
reported v r [] = r
reported v r (d ∷ ds) = reported (seen v d) (after_deed v r d) ds
