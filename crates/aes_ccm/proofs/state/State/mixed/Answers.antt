use Rattle.std.proofs.Common.{List, ℕ, ap, ◌∙◌, rules}
use Rattle.aes_ccm.specs.Aes.{mix_columns, shift_rows, sub_bytes}
use Rattle.aes_ccm.proofs.States.{state_mixed}
use Rattle.aes_ccm.proofs.state.State.mixed.Goals as goal

pub returns : goal.returns
returns c =
    state_mixed c.bytes.result _ _ _ _ (search rules)
    c.mixed_column.ensures c.mixed_column-2.ensures c.mixed_column-3.ensures c.mixed_column-4.ensures
    ∙ ap (λ (s : List ℕ). mix_columns (shift_rows (sub_bytes s))) c.bytes.ensures
