use Rattle.std.proofs.Common.{ℕ, List, Some, ap, ◌∙◌}
use Rattle.jed_format.proofs.Ids.{passing-is_id}
use Rattle.jed_format.specs.Chunk.{passing}
use Rattle.jop_base.specs.Id.{is_id}
use Rattle.master_keys.proofs.unlocking.id_in.Goals as goal

pub returns : goal.returns
returns c =
    passing-is_id c.as_slice.result.now c.read.result c.read.ensures.some c.read.ensures.none
    ∙ ap (λ (text : List ℕ). passing is_id (Some text)) c.as_slice.ensures
