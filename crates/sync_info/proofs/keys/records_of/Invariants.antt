use Rattle.std.proofs.Common.{◌≡◌, ◌++◌, drop, false, option_map}
use Rattle.serde_json.specs.View.{items_view}
use Rattle.serde_json.specs.Written.{items_have_float}
use Rattle.sync_info.specs.Read.{records_of}
use Rattle.sync_info.proofs.keys.records_of.Given as goal

abbrev pub invariant-loop-item : goal.invariant-loop-item
invariant-loop-item l = let left = items_view (drop l.item-index l.items) in record {
  records : records_of (items_view l.items) ≡ option_map (λ more. l.keys ++ more) (records_of left);
  whole : items_have_float left ≡ false;
}
