use Rattle.std.proofs.Common.{sym, ap, ◌∙◌}
use Rattle.serde_json.specs.Read.{read}
use Rattle.serde_json.specs.View.{view}
use Rattle.sync_info.proofs.JsonLemmas.{value_in-read}
use Rattle.sync_info.proofs.write.value_in.Goals as goal

pub returns-in-Ok : goal.returns-in-Ok
returns-in-Ok c =
    value_in-read c.args.json.now (view c.in-Ok.value)
    (ap read (sym c.as_str.ensures) ∙ c.in-Ok.ensures.ok)
