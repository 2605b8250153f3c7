use Rattle.std.proofs.Common.{◌≡◌, take}
use Rattle.serde_json.specs.View.{items_view}
use Rattle.sync_info.specs.Json.{records_json}
use Rattle.sync_info.proofs.write.records_value.Given as goal

abbrev pub invariant-loop-key : goal.invariant-loop-key
invariant-loop-key l = items_view l.items.items ≡ records_json (take l.key-index l.keys)
