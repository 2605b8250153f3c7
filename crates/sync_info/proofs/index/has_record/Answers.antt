use Rattle.std.proofs.Common.{ap, sym, ◌∙◌, is_some}
use Rattle.sync_info.specs.Info.{has_id}
use Rattle.sync_info.proofs.KeyLemmas.{is_some-copied, is_some-find}
use Rattle.sync_info.proofs.index.has_record.Goals as goal

pub returns : goal.returns
returns c =
    c.is_some.ensures
    ∙ sym (is_some-copied c.record_of.result)
    ∙ ap is_some c.record_of.ensures
    ∙ is_some-find (has_id c.args.id.now) c.args.keys.now
