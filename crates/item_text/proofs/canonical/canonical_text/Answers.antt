use Rattle.std.proofs.Common.{◌∙◌}
use Rattle.std.proofs.lemmas.Result.{err_from_is_err_and}
use Rattle.item_text.specs.declared.item.Item.{Item}
use Rattle.item_text.specs.Lines.{lines}
use Rattle.item_text.specs.Grammar.{item_of_lines}
use Rattle.item_text.specs.Steps.{lines_of}
use Rattle.item_text.proofs.Answered.{fault_text, length_block, fault_type, reads_parts}
use Rattle.item_text.proofs.Parted.{item_in-reads}
use Rattle.item_text.proofs.Whole.{written_parts}
use Rattle.item_text.proofs.canonical.canonical_text.Goals as goal

pub returns-in_err-above : goal.returns-in_err-above
returns-in_err-above c =
    let p = err_from_is_err_and c.from_residual.result c.from_residual.ensures.1 in
    rw (p.1, p.2) (fault_text c.args.text.now c.utf8.text ∙ c.in_err-above.ensures)

pub type_refusal-requires : goal.type_refusal-requires
type_refusal-requires c =
    length_block
    (lines c.args.text.now) c.in_ok-above.above c.in_ok-above.block c.in_ok-above.ensures

pub returns-in-Some : goal.returns-in-Some
returns-in-Some c =
    fault_type c.args.text.now c.in_ok-above.above c.in_ok-above.block _ c.utf8.text
    c.in_ok-above.ensures
    c.type_refusal.ensures
    ∙ c.in-Some.is

pub returns : goal.returns
returns c =
    let text = c.args.text.now in
    let above = c.in_ok-above.above in
    let block = c.in_ok-above.block in
    let good = fault_type text above block _ c.utf8.text c.in_ok-above.ensures
    c.type_refusal.ensures ∙ c.in_default.is in
    let item : Item = item_of_lines (lines_of above) (lines_of block) in
    record {
      item = item;
      is_read = item_in-reads text item
          (reads_parts text above block c.utf8.text c.in_ok-above.ensures) good;
      is_written =
          written_parts _ _ _ _ (lines_of above)
          (lines_of block) c.in_ok-before.ensures c.head_of.ensures.title
          c.head_of.ensures.body c.in_ok-behind.ensures;
    }
