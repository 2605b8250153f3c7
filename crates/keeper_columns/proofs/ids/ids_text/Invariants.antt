use Rattle.std.proofs.Common.{◌≡◌, take}
use Rattle.keeper_columns.specs.Columns.{id_digits}
use Rattle.keeper_columns.proofs.ids.ids_text.Given as goal

abbrev pub invariant-loop-id : goal.invariant-loop-id
invariant-loop-id l = l.text ≡ id_digits (take l.id-index l.ids)
