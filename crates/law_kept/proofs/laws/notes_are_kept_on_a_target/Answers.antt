use Rattle.law_licences.specs.Items.{item_of_file}
use Rattle.law_kept.specs.Telling.{history_of}
use Rattle.law_kept.proofs.Accounts.{is_kept}
use Rattle.law_kept.proofs.TaleFiles.{fair, trees_file}
use Rattle.law_kept.proofs.laws.notes_are_kept_on_a_target.Goals as goal

pub returns : goal.returns
returns c = record {
  kept = λ id tale f. is_kept (item_of_file id) (history_of id tale) (fair id tale f);
  stored = trees_file;
}
