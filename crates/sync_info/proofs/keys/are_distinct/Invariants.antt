use Rattle.std.proofs.Common.{◌≡◌, ℕ, List, drop, true}
use Rattle.std.specs.BTreeSet.{contains}
use Rattle.std.specs.Cmp.Lexicographic.{slice_cmp}
use Rattle.std.specs.List.{list_any}
use Rattle.std.specs.Ordering.{nat_cmp}
use Rattle.sync_info.specs.Info.{has_id, are_distinct}
use Rattle.sync_info.proofs.keys.are_distinct.Given as goal

-- the records from here on are distinct, and their ids are those that were seen
abbrev pub invariant-loop-i : goal.invariant-loop-i
invariant-loop-i l = record {
  distinct : are_distinct (drop l.i l.keys) ≡ true;
  seen : (id : List ℕ)
      → contains (slice_cmp nat_cmp) l.seen id ≡ list_any (has_id id) (drop l.i l.keys);
}
