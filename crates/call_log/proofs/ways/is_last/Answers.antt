use Rattle.std.proofs.Common.{sym, subst, ℕ}
use Rattle.std.specs.List.{Contains}
use Rattle.std.proofs.lemmas.Bool.{eqb-true}
use Rattle.call_log.proofs.Leading.{contains_at}
use Rattle.call_log.proofs.ways.is_last.Goals as goal

pub returns-in-Some : goal.returns-in-Some
returns-in-Some c = λ same. subst (λ (n : ℕ). Contains c.args.list.now n)
    (eqb-true c.in-Some.last.now c.args.number same)
    (contains_at _ _ _ (sym c.in-Some.ensures.value))
