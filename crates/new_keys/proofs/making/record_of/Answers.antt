use Rattle.new_keys.proofs.Records.{record_valid}
use Rattle.new_keys.proofs.making.record_of.Goals as goal

pub returns-clause-valid : goal.returns-clause-valid
returns-clause-valid c =
    record_valid c.id_of-id.result c.in_ok-content.content c.args.now c.in_ok-others.others c.prove_valid.ensures
    c.requires.time c.in_ok-others.ensures
