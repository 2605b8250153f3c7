use Rattle.law_kept.proofs.Joins.{all_obey}
use Rattle.law_kept.proofs.Keeping.{keeps_by, keeps_item}
use Rattle.law_kept.proofs.tables.notes_are_kept_by_tables.Goals as goal

pub returns : goal.returns
returns c = record {
  kept = keeps_item;
  joined = λ client s t trail made obeys id tale served ends others.
      keeps_by id tale served (all_obey id tale client s t trail made ends others obeys);
}
