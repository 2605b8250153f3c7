use Rattle.std.proofs.Common.{slice_index, arith}
use Rattle.aes_ccm.specs.declared.tables.TheConstants.{FIRST, SECOND, THIRD, FOURTH}
use Rattle.aes_ccm.specs.Field.{substituted}
use Rattle.aes_ccm.proofs.TableWords.{column_mixed, first_at, second_at, third_at, fourth_at}
use Rattle.aes_ccm.proofs.tables.mixed_column.Goals as goal

pub returns : goal.returns
returns c =
    column_mixed (slice_index FIRST c.args.a) (slice_index SECOND c.args.b) (slice_index THIRD c.args.c) (slice_index FOURTH c.args.d)
    (substituted c.args.a) (substituted c.args.b) (substituted c.args.c) (substituted c.args.d)
    (first_at c.args.a (omega arith)) (second_at c.args.b (omega arith)) (third_at c.args.c (omega arith)) (fourth_at c.args.d (omega arith))
