use Rattle.std.proofs.Common.{rules}
use Rattle.std.proofs.lemmas.Fn.{always_returns_same}
use Rattle.std.specs.Ordering.{nat_cmp}
use Rattle.std.specs.Cmp.Lexicographic.{slice_cmp}
use Rattle.local_store.proofs.Places.{place_found, gap_found}
use Rattle.local_store.proofs.table.Table.search.Goals as goal

pub returns : goal.returns
returns g c =
    let key = g.T.Keyed.key in
    let k = g.T.Key.Key.text c.args.key.now in
    let facts = c.binary_search_by.ensures in
    let position = facts.position (λ x. slice_cmp nat_cmp (key x) k)
    (always_returns_same _ _ _ (λ a r f called. search rules)) in
    rw (← c.self.view_is, ← c.deref.ensures.value) (record {
      found = place_found key c.deref.result.now k c.binary_search_by.result facts.bound position;
      absent = gap_found key c.deref.result.now k c.binary_search_by.result
          (rw c.deref.ensures.value c.self.invariant) facts.bound position;
    })
