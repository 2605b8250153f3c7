use Rattle.std.proofs.Common.{sym, ap, ◌∙◌, option_map}
use Rattle.target_upgrade.proofs.KeyFacts.{key_made, key_valid}
use Rattle.target_upgrade.proofs.key.key_of_item.Goals as goal

pub returns-clause-key : goal.returns-clause-key
returns-clause-key c = rw (c.in_ok-copy.ensures, c.new.ensures)
    (key_made c.args.id.now c.args.item.now c.in-Some.content.now c.updated_of.result
    (sym c.is_key.ensures ∙ c.if-not-is_key.false) (sym c.prop.ensures ∙ ap
    (option_map (λ v. v.now)) c.in-Some.is) c.updated_of.ensures)

pub returns-clause-valid : goal.returns-clause-valid
returns-clause-valid c = rw c.new.ensures (key_valid c.args.id.now c.in_ok-copy.field-0
    c.updated_of.result c.args.item.now.props c.prove_valid.ensures c.updated_of.ensures)
