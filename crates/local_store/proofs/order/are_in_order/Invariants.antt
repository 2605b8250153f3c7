use Rattle.std.proofs.Common.{drop}
use Rattle.std.specs.Prelude.{option_map}
use Rattle.jop_base.specs.Keyed.{IsSorted}
use Rattle.local_store.specs.Ordered.{IsSortedFrom}
use Rattle.local_store.proofs.order.are_in_order.Given as goal

abbrev pub invariant-loop-item : goal.invariant-loop-item
invariant-loop-item g l = record {
  back : IsSortedFrom g.T.Keyed.key (option_map g.T.Key.Key.text l.last) (drop l.item-index l.items)
      → IsSorted g.T.Keyed.key l.items;
  on : IsSorted g.T.Keyed.key l.items
      → IsSortedFrom g.T.Keyed.key (option_map g.T.Key.Key.text l.last) (drop l.item-index l.items);
}
