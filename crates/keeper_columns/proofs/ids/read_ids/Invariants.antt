use Rattle.std.proofs.Common.{◌≡◌, ◌++◌, length}
use Rattle.std.specs.Prelude.{All}
use Rattle.jop_base.specs.Id.{IsIdText}
use Rattle.keeper_columns.specs.Columns.{id_digits}
use Rattle.keeper_columns.proofs.ids.read_ids.Given as goal

abbrev pub invariant-ids : goal.invariant-ids
invariant-ids l = record {
  so_far : l.text ≡ id_digits l.ids ++ l.rest;
  valid : All IsIdText l.ids;
}

abbrev pub decreases-ids : goal.decreases-ids
decreases-ids l = length l.rest
