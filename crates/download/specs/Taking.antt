-- New files are got one after the other, and taken.
use Rattle.std.specs.Prelude.{ℕ, List, Bool, true, false, Option, Some, None}
use Rattle.conflicts.specs.Rules.{conflict_change}
use Rattle.item_text.specs.declared.item.Item.{Item}
use Rattle.jop_base.specs.declared.path.Path.{Path}
use Rattle.jop_base.specs.declared.path.Path.TheVariants.{Item as ItemFile}
use Rattle.jop_target.specs.declared.call.Call.{Call}
use Rattle.jop_target.specs.declared.call.Call.TheVariants.{Get, GetBlob}
use Rattle.jop_target.specs.declared.reply.Reply.{Reply}
use Rattle.local_store.specs.Rows.{has_kind, item_of}
use Rattle.local_store.specs.Tables.{base_of, row_at}
use Rattle.local_store.specs.declared.change.Change.{Change}
use Rattle.local_store.specs.declared.change.Change.TheVariants.{Taken}
use Rattle.local_store.specs.declared.content.Content.{Content}
use Rattle.local_store.specs.declared.row.Row.{Row}
use Rattle.session.specs.Asking.{IsAnswer}
use Rattle.session.specs.Findings.{finding_of, waiting}
use Rattle.session.specs.Parts.{Changes, Hears, Nothing, Part, Then}
use Rattle.session.specs.Sessions.{GetsBytesOf}
use Rattle.session.specs.declared.finding.Finding.{Finding}
use Rattle.session.specs.declared.finding.Finding.TheVariants.{Same, Other, Missing, Unreadable}

-- ---- calls

abbrev pub is_item : Path → Bool
is_item (ItemFile id) = true
is_item path = false

-- items are got, and the bytes of resources
abbrev pub is_taking : Call → Bool
is_taking (Get path) = is_item path
is_taking (GetBlob id) = true
is_taking call = false

-- ---- a new file

-- a row that waits gives way to the file, and else it becomes what the file holds
abbrev pub met_by : List ℕ → List ℕ × Content → Option Row → Change
met_by id remote None = Taken id remote.0 remote.1
met_by id remote (Some row) = conflict_change row (Some remote)

-- so the row that waits, if one does, meets the file; of a resource the bytes come first
abbrev pub Meets : List ℕ → List ℕ × Content → Option Row → Part
Meets id remote row = Then (GetsBytesOf id remote.1) (Changes (met_by id remote row))

-- a notebook's key, which other clients keep as an item
abbrev pub is_key_item : Item → Bool
is_key_item item = has_kind (record { 0 = 9 }) item

-- keys are passed over
abbrev pub MeetsUnlessKey : List ℕ → List ℕ × Content → Bool → Part
MeetsUnlessKey id remote true v ds = Nothing v ds
MeetsUnlessKey id remote false v ds = Meets id remote (waiting (row_at v.tables id)) v ds

-- What is done by what the file is. If it is as the client left it, is gone, or can't be read, that is nothing.
abbrev pub MeetsFound : List ℕ → Finding → Part
MeetsFound id Same = Nothing
MeetsFound id (Other remote) = MeetsUnlessKey id remote (is_key_item (item_of remote.1))
MeetsFound id Missing = Nothing
MeetsFound id Unreadable = Nothing

-- the file is got, and then that is done
abbrev pub TakesOne : List ℕ → Part
TakesOne id v ds =
    (reply : Reply) × (IsAnswer (Get (ItemFile id)) reply × Then (Hears (Get (ItemFile id)) reply)
    (MeetsFound id (finding_of id (base_of (row_at v.tables id)) reply)) v ds)
