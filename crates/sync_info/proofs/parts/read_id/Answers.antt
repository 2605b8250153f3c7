use Rattle.std.proofs.Common.{ap, ◌∙◌, Some}
use Rattle.jop_base.specs.Id.{is_id}
use Rattle.sync_info.specs.Read.{option_filter}
use Rattle.sync_info.proofs.IdLemmas.{option_filter-is_id}
use Rattle.sync_info.proofs.parts.read_id.Goals as goal

pub returns : goal.returns
returns c = option_filter-is_id _ c.read.result c.read.ensures.some c.read.ensures.none
    ∙ ap (λ text. option_filter is_id (Some text)) c.as_bytes.ensures.value
