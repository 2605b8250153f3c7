use Rattle.std.proofs.Common.{◌≡◌, ℕ, List, drop}
use Rattle.std.specs.BTreeMap.{get}
use Rattle.std.specs.Cmp.Lexicographic.{slice_cmp}
use Rattle.std.specs.List.{find}
use Rattle.std.specs.Ordering.{nat_cmp}
use Rattle.std.specs.Prelude.{option_and_then, slice_get}
use Rattle.sync_info.specs.Info.{has_id}
use Rattle.sync_info.proofs.index.index_of.Given as goal

-- the records from here on are found
abbrev pub invariant-loop-i : goal.invariant-loop-i
invariant-loop-i l = (id : List ℕ)
    → option_and_then (slice_get l.keys) (get (slice_cmp nat_cmp) l.index id)
    ≡ find (has_id id) (drop l.i l.keys)
