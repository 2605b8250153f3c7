use Rattle.std.proofs.Common.{List, ℕ, sym, ◌∙◌, subst}
use Rattle.std.specs.Str.{IsUtf8}
use Rattle.std.proofs.lemmas.Result.{IfOk-weaker}
use Rattle.item_kinds.proofs.NewItems.{time_field}
use Rattle.item_kinds.proofs.Visible.{visible_utf8, time_visible}
use Rattle.item_kinds.proofs.time.write_time.Goals as goal

pub returns-clause-field : goal.returns-clause-field
returns-clause-field c =
    IfOk-weaker c.of.result _ _
    (λ text e. time_field text c.stamp.result c.args.time
    (e ∙ c.in-Ok.ensures.cases.0) c.stamp.ensures c.requires) c.of.ensures

pub unreachable-requires : goal.unreachable-requires
unreachable-requires c =
    let P : List ℕ → Type 0 = λ bytes. IsUtf8 bytes in
    c.in-Err.ensures.cases.0
    (subst P (sym c.stamp.ensures) (visible_utf8 _ (time_visible c.args.time c.requires)))
