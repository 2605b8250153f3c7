use Rattle.std.proofs.Common.{sym, subst, ℕ, List, ◌≡◌, ◌⊎◌, ◌↔◌}
use Rattle.std.specs.List.{Contains}
use Rattle.call_log.proofs.Leading.{contains_pushed}
use Rattle.call_log.proofs.ways.add.Goals as goal

pub returns : goal.returns
returns c = λ n.
    subst (λ (ys : List ℕ). Contains ys n ↔ (Contains c.args.list.now.items n ⊎ (n ≡ c.args.number)))
    (sym c.in_ok-push.ensures.items) (contains_pushed c.args.list.now.items c.args.number n)
