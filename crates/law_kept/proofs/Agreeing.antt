-- In the end each client's tables hold what the item's history tells of them.
use Rattle.std.proofs.Common.{◌∙◌, refl, ap, subst, ℕ, List, [], false, Option, Some, None}
use Rattle.std.specs.Prelude.{option_map}
use Rattle.local_store.proofs.Keeping.{new_sound}
use Rattle.local_store.specs.Tables.{new_tables, row_at}
use Rattle.local_store.specs.Tale.{Tale}
use Rattle.local_store.specs.declared.tables.Tables.{Tables}
use Rattle.jop_base.specs.Keyed.{at}
use Rattle.law_licences.specs.Checks.{last_on}
use Rattle.law_licences.specs.Deeds.{deeds_in}
use Rattle.law_licences.proofs.Keyed.{by_some}
use Rattle.law_kept.proofs.TaleFiles.{fair}
use Rattle.law_kept.specs.Standing.{opening_world}
use Rattle.law_kept.specs.Telling.{bytes_at, opening_version}
use Rattle.law_kept.proofs.Keeping.{fair_for}
use Rattle.law_kept.proofs.TrueCalls.{FileIsTrue, IsTrue}
use Rattle.law_kept.proofs.Standing.{true_from}
use Rattle.law_kept.specs.FairTables.{new_view, AllObeyData, AllObeyWithoutKeys, view_at_end, IsServed}
use Rattle.law_kept.specs.Holding.{RowIsTrue, copies_of, copies_onto, tables_of, standing_of, HoldsAsTold, IsToldWell}

opening_true : (id : List ℕ) (file : Option (List ℕ))
    → FileIsTrue id (option_map (opening_version id) file)
opening_true id None = tt
opening_true id (Some bytes) = λ item same. same

new_true : (id : List ℕ)
    → IsTrue id new_view new_tables
    (record { row = None; got = None; copies = []; crossed = false })
unfolding last_on at copies_onto
new_true id = record {
  same = refl;
  sound = new_sound;
  row = tt;
  copies = refl;
  got = tt;
  keyless = refl;
}

-- who has none has some
some_keys : (tale : Tale) → AllObeyWithoutKeys tale → AllObeyData tale
some_keys tale all client = by_some new_view (deeds_in client tale.steps) (all client)

true_in_end : (id client : List ℕ) (tale : Tale) → IsServed id tale → AllObeyWithoutKeys tale
    → IsToldWell tale
    → IsTrue id (view_at_end tale client) (tables_of tale client) (standing_of id tale client)
true_in_end id client tale served all well =
    let file = bytes_at id tale.opening.files in
    true_from id client (opening_world (option_map (opening_version id) file)) (λ c. new_view)
    (λ c. new_tables) tale.steps (λ c. new_true id) (opening_true id file) all well.told
    well.allowed (fair id tale (fair_for id tale served (some_keys tale all))).honest

pub agrees : (id client : List ℕ) (tale : Tale) → IsServed id tale → AllObeyWithoutKeys tale
    → IsToldWell tale → HoldsAsTold id tale client
agrees id client tale served all well =
    let end = true_in_end id client tale served all well in
    record {
      row = subst (λ (t : Tables). RowIsTrue (row_at t id) (standing_of id tale client).row)
          end.same end.row;
      copies = end.copies ∙ ap (λ (t : Tables). copies_of id t.conflicts) end.same;
    }
