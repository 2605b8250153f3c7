use Rattle.std.proofs.Common.{rules, subst}
use Rattle.std.specs.Prelude.{◌≡◌, Some}
use Rattle.local_store.specs.Rows.{item_of}
use Rattle.item_text.specs.Grammar.{item_in}
use Rattle.keeper_columns.specs.Columns.{text_beside}
use Rattle.keeper_columns.proofs.Beside.{reads_beside}
use Rattle.keeper_columns.proofs.row_record.RowRecord.of.Goals as goal

pub returns-clause-holds : goal.returns-clause-holds
returns-clause-holds c =
    let content : item_in (text_beside c.in_ok-item_text.field-0 c.in_ok-copy.field-0)
    ≡ Some (item_of c.args.row.now.content)
    = reads_beside _ _ _ (subst (λ item. item_in c.in_ok-item_text.field-0 ≡ Some item)
    c.item.ensures c.in_ok-item_text.ensures.back) in
    search rules
