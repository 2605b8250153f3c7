use Rattle.std.proofs.Common.{List, ℕ, ap, ◌∙◌, rules}
use Rattle.aes_ccm.specs.Aes.{shift_rows, sub_bytes}
use Rattle.aes_ccm.proofs.States.{state_shifted}
use Rattle.aes_ccm.proofs.state.State.shifted.Goals as goal

pub returns : goal.returns
returns c =
    state_shifted c.bytes.result _ _ _ _ (search rules)
    c.plain_column.ensures c.plain_column-2.ensures c.plain_column-3.ensures c.plain_column-4.ensures
    ∙ ap (λ (s : List ℕ). shift_rows (sub_bytes s)) c.bytes.ensures
