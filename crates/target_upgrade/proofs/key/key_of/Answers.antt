use Rattle.std.proofs.Common.{sym, ◌∙◌}
use Rattle.item_text.specs.Answers.{ReadsOrRefuses}
use Rattle.target_upgrade.proofs.KeyFacts.{key_read, key_refused}
use Rattle.target_upgrade.proofs.key.key_of.Goals as goal

pub returns-in_ok-key_of_item-in-Ok-clause-key : goal.returns-in_ok-key_of_item-in-Ok-clause-key
returns-in_ok-key_of_item-in-Ok-clause-key c =
    c.in_ok-key_of_item-in-Ok.ensures.key ∙ key_read _ _ _ c.in-Ok.ensures.item

pub returns-in-Err-Bad-clause-key : goal.returns-in-Err-Bad-clause-key
unfolding ReadsOrRefuses
returns-in-Err-Bad-clause-key c =
    sym (key_refused _ _ _ (rw c.in-Err-Bad.field-0-is at c.in-Err-Bad.ensures.exact))
