use Rattle.std.proofs.Common.{arith, rules, ◌≡◌, ◌<◌, ◌∙◌, length, take, sym, subst}
use Rattle.jop_base.specs.Id.{IsIdText}
use Rattle.keeper_columns.proofs.Digits.{no_ids_behind}
use Rattle.keeper_columns.proofs.ids.read_ids.Goals as goal

pub returns-then-rest-lt32-clause-bad : goal.returns-then-rest-lt32-clause-bad
returns-then-rest-lt32-clause-bad c is ids valid same =
    let some : 0 < length c.ids.rest.now = grind arith in
    no_ids_behind c.ids.ids c.ids.rest.now c.ids.invariant.valid some
    (λ long. absurd (omega (arith, long))) ids valid (sym c.ids.invariant.so_far ∙ same)

pub returns-in-None-clause-bad : goal.returns-in-None-clause-bad
returns-in-None-clause-bad c is ids valid same =
    let some : 0 < length c.ids.rest.now = grind arith in
    let front : take 32 c.ids.rest.now ≡ c.split_at.result.0.now = search rules in
    no_ids_behind c.ids.ids c.ids.rest.now c.ids.invariant.valid some
    (λ long id. c.in-None.ensures.none (subst IsIdText front id))
    ids valid (sym c.ids.invariant.so_far ∙ same)
