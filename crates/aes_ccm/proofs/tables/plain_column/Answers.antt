use Rattle.std.proofs.Common.{[], ◌∷◌, ◌∙◌, arith}
use Rattle.aes_ccm.proofs.States.{word_back}
use Rattle.aes_ccm.proofs.tables.plain_column.Goals as goal

pub returns : goal.returns
returns c =
    word_back c.substituted.result c.substituted-2.result c.substituted-3.result c.substituted-4.result c.from_be_bytes.result
    (omega arith) (omega arith) (omega arith) (omega arith) c.from_be_bytes.ensures
    ∙ (λ i. c.substituted.ensures i ∷ c.substituted-2.ensures i ∷ c.substituted-3.ensures i ∷ c.substituted-4.ensures i ∷ [])
