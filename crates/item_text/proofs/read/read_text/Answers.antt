use Rattle.std.proofs.Common.{◌∙◌}
use Rattle.std.proofs.lemmas.Result.{err_from_is_err_and}
use Rattle.item_text.specs.Answers.{ReadsOrRefuses}
use Rattle.item_text.specs.Lines.{lines}
use Rattle.item_text.specs.Grammar.{item_of_lines}
use Rattle.item_text.specs.declared.item.Item.{Item}
use Rattle.item_text.proofs.Answered.{length_block, fault_type, answered_bad, answered_ok}
use Rattle.item_text.proofs.read.read_text.Goals as goal

pub returns-in_err-above : goal.returns-in_err-above
returns-in_err-above c =
    let p = err_from_is_err_and c.from_residual.result c.from_residual.ensures.1 in
    rw (p.1, p.2) (answered_bad c.args.text.now _ c.utf8.text c.in_err-above.ensures)

pub type_refusal-requires : goal.type_refusal-requires
type_refusal-requires c =
    length_block
    (lines c.args.text.now) c.in_ok-above.above c.in_ok-above.block c.in_ok-above.ensures

pub returns-in-Some : goal.returns-in-Some
unfolding ReadsOrRefuses
returns-in-Some c =
    fault_type c.args.text.now c.in_ok-above.above c.in_ok-above.block _ c.utf8.text
    c.in_ok-above.ensures
    c.type_refusal.ensures
    ∙ c.in-Some.is

pub returns : goal.returns
unfolding item_of_lines
returns c =
    let text = c.args.text.now in
    let above = c.in_ok-above.above in
    let block = c.in_ok-above.block in
    let good = fault_type text above block _ c.utf8.text c.in_ok-above.ensures
    c.type_refusal.ensures ∙ c.in_default.is in
    let item : Item = record {
      title = c.in_ok-owned.field-0;
      body = c.in_ok-of.field-0;
      props = c.in_ok-read_pairs.field-0;
    } in
    let title = c.in_ok-owned.ensures ∙ c.head_of.ensures.title in
    let body = c.in_ok-of.ensures ∙ c.head_of.ensures.body in
    let props = c.in_ok-read_pairs.ensures in
    answered_ok text above block item c.utf8.text c.in_ok-above.ensures
    (λ i. record { title = title i; body = body i; props = props i }) good
