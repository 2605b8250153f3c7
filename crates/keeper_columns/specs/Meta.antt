-- What a client knows of itself and its target, as the values of a table of keys.
use Rattle.std.specs.Prelude.{ℕ, ◌<◌, ◌^◌, ◌≡◌, List, All, Option, Some, IfSome, decimal}
use Rattle.jop_base.specs.Id.{IsIdText}
use Rattle.jop_base.specs.declared.context.Context.{Context}
use Rattle.sync_info.specs.Read.{info_in}
use Rattle.local_store.specs.declared.deletion.Deletion.{Deletion}
use Rattle.local_store.specs.declared.row.Row.{Row}
use Rattle.local_store.specs.declared.tables.Tables.{Tables}
use Rattle.local_store.specs.Sound.{IsSound}
use Rattle.keeper_columns.specs.declared.meta_record.MetaRecord.{MetaRecord}
use Rattle.keeper_columns.specs.Columns.{id_digits}

-- the digits of the client's id, numbers in decimal, the ids that were seen one after the other, and a text that reads
-- as the info
pub record HoldsMeta (s : MetaRecord) (t : Tables) : Type 0 where
  pub client : s.client ≡ t.client
  pub next_conflict : s.next_conflict ≡ decimal t.next_conflict
  pub moment : s.moment ≡ decimal t.context.moment
  pub seen : s.seen ≡ id_digits t.context.seen
  pub info : info_in s.info ≡ Some t.info

-- the moment fits 64 bits, and what was seen are ids
pub record IsSoundContext (c : Context) : Type 0 where
  pub moment : c.moment < 2 ^ 64
  pub seen : All IsIdText c.seen

-- the client's id is one, and the numbers fit 64 bits
pub record IsSoundMeta (t : Tables) : Type 0 where
  pub client : IfSome t.client IsIdText
  pub next_conflict : t.next_conflict < 2 ^ 64
  pub context : IsSoundContext t.context

-- the record holds no client's id
abbrev pub HoldsNoClient : MetaRecord → Type 0
HoldsNoClient s =
    (client : Option (List ℕ)) → IfSome client IsIdText → ¬ (s.client ≡ client)

-- the record holds no context
abbrev pub HoldsNoContext : MetaRecord → Type 0
HoldsNoContext s =
    (context : Context) → IsSoundContext context → s.moment ≡ decimal context.moment
    → ¬ (s.seen ≡ id_digits context.seen)

-- the record holds no sound tables that have these rows and deletions
abbrev pub HoldsNoTables : MetaRecord → List Row → List Deletion → Type 0
HoldsNoTables s rows deletions =
    (tables : Tables) → IsSound tables → IsSoundMeta tables → tables.rows ≡ rows
    → tables.deletions ≡ deletions → ¬ HoldsMeta s tables
