use Rattle.std.proofs.Common.{ℕ, ◌≡◌, ◌↔◌}
use Rattle.std.specs.Prelude.{Some}
use Rattle.call_log.proofs.Leading.{adds_as}
use Rattle.call_log.proofs.ways.add_some.Goals as goal

pub returns-in_ok-add-in-Some : goal.returns-in_ok-add-in-Some
returns-in_ok-add-in-Some c =
    let is = c.in-Some.is in
    let same : (n : ℕ) → (n ≡ c.in-Some.number) ↔ (Some n ≡ c.args.number) =
    λ n. (λ e. cc, λ e. cc) in
    adds_as (λ (n : ℕ). n ≡ c.in-Some.number) (λ (n : ℕ). Some n ≡ c.args.number)
    c.args.list.now.items c.add.new.list.items same c.in_ok-add-in-Some.ensures
