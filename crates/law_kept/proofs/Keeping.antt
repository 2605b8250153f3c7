-- Where all clients obey, each does with each item what it may.
use Rattle.std.proofs.Common.{◌≡◌, ◌∙◌, ap, subst, ℕ, List, true}
use Rattle.local_store.specs.Tables.{new_tables}
use Rattle.local_store.specs.Tale.{Tale}
use Rattle.law_licences.specs.Items.{item_of_file}
use Rattle.law_kept.proofs.Accounts.{is_kept}
use Rattle.law_kept.proofs.TaleFiles.{fair}
use Rattle.law_kept.specs.Fair.{AllObey, DoesAsItMay}
use Rattle.law_kept.specs.Licences.{obeys}
use Rattle.law_kept.specs.Own.{Own, new_own, acts_by, own_from}
use Rattle.law_kept.specs.Telling.{history_of, steps_of, IsFairFor}
use Rattle.law_kept.specs.FairTables.{new_view, ClientObeys, AllObeyData, view_at_end, IsServed, KeepsItem}
use Rattle.law_kept.specs.Known.{known}
use Rattle.law_kept.proofs.LicensedSteps.{obeys_from}
use Rattle.local_store.proofs.Keeping.{ordered_new}
use Rattle.law_kept.proofs.Seeing.{known_from, known_new}

pub item_obeyed : (id client : List ℕ) (tale : Tale) → ClientObeys tale client
    → DoesAsItMay (item_of_file id) (steps_of id tale) client
item_obeyed id client tale obeys_data =
    subst (λ (own : Own). obeys (item_of_file id) own (acts_by client (steps_of id tale)) ≡ true)
    (known_new id)
    (obeys_from id client (λ c. new_tables) new_view tale.steps ordered_new obeys_data)

pub items_obey : (id : List ℕ) (tale : Tale) → AllObeyData tale
    → AllObey (item_of_file id) (steps_of id tale)
items_obey id tale all client = item_obeyed id client tale (all client)

fair_by : (id : List ℕ) (tale : Tale) → IsServed id tale
    → AllObey (item_of_file id) (steps_of id tale) → IsFairFor id tale
fair_by id tale served all = record {
  honest = served.honest;
  text = served.text;
  obey = all;
  gapless = served.gapless;
}

pub fair_for : (id : List ℕ) (tale : Tale) → IsServed id tale → AllObeyData tale
    → IsFairFor id tale
fair_for id tale served all = fair_by id tale served (items_obey id tale all)

pub keeps_by : (id : List ℕ) (tale : Tale) → IsServed id tale
    → AllObey (item_of_file id) (steps_of id tale) → KeepsItem id tale
keeps_by id tale served all =
    is_kept (item_of_file id) (history_of id tale) (fair id tale (fair_by id tale served all))

pub keeps_item : (id : List ℕ) (tale : Tale) → IsServed id tale → AllObeyData tale
    → KeepsItem id tale
keeps_item id tale served all = keeps_by id tale served (items_obey id tale all)

pub known_in_end : (id client : List ℕ) (tale : Tale) → ClientObeys tale client
    → known id (view_at_end tale client) ≡ own_from new_own (acts_by client (steps_of id tale))
known_in_end id client tale obeys =
    known_from id client (λ c. new_tables) new_view tale.steps ordered_new obeys
    ∙ ap (λ (own : Own). own_from own (acts_by client (steps_of id tale))) (known_new id)
