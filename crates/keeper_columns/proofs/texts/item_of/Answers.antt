use Rattle.std.proofs.Common.{◌≡◌, List, ℕ, Some, Err}
use Rattle.item_text.specs.Answers.{ReadsOrRefuses}
use Rattle.item_text.specs.Grammar.{first_fault}
use Rattle.item_text.specs.declared.bad_item.BadItem.{BadItem}
use Rattle.item_text.specs.declared.bad_item.ItemErr.TheVariants as errors
use Rattle.keeper_columns.proofs.texts.item_of.Goals as goal

refused_for : (bytes : List ℕ) (bad : BadItem) → ReadsOrRefuses bytes (Err (errors.Bad bad))
    → first_fault bytes ≡ Some bad
unfolding ReadsOrRefuses
refused_for bytes bad is = is

pub returns-in-Err-Bad-clause-bad : goal.returns-in-Err-Bad-clause-bad
returns-in-Err-Bad-clause-bad c is =
    let known = rw c.in-Err-Bad.field-0-is at c.in-Err-Bad.ensures in
    let fault = refused_for c.as_slice.result.now c.in-Err-Bad.field-0-0 known.exact in
    c.reads_to_what_it_reads_as.ensures.refused c.args.text.now c.in-Err-Bad.field-0-0
    (cc (fault, c.as_slice.ensures))
