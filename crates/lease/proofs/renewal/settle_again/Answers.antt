use Rattle.std.proofs.Common.{refl, sym, ap, ◌∙◌, ℕ, Some}
use Rattle.lease.specs.Added.{leave_calls}
use Rattle.lease.specs.Phase.{Renewing}
use Rattle.lease.proofs.Added.{adds_none}
use Rattle.lease.proofs.Outcomes.{left_calls}
use Rattle.lease.proofs.Renewals.{lapsed_leaving, missed, renewed}
use Rattle.lease.proofs.Sessions.{lease_nowhere}
use Rattle.lease.proofs.renewal.settle_again.Goals as goal

pub returns-in-Some-clause-gives : goal.returns-in-Some-clause-gives
returns-in-Some-clause-gives g c =
    renewed c.args.lease.now _ c.args.sight _ c.in-Some.stamp (ap (λ (n : ℕ). Some n) c.end.ensures)
    c.requires.seen
    (sym c.stamp_in_time.ensures ∙ c.in-Some.is)

pub returns-in-Some-clause-calls : goal.returns-in-Some-clause-calls
returns-in-Some-clause-calls g c =
    let calls = leave_calls c.args.lease.now.kind c.args.lease.now.client in
    (calls, adds_none calls _ _ refl)

pub returns-in-Some-clause-goes : goal.returns-in-Some-clause-goes
returns-in-Some-clause-goes g c = lease_nowhere _ _ _ c.requires.seen.asked.stands

pub leave-requires : goal.leave-requires
leave-requires g c =
    lapsed_leaving c.args.lease.now _ c.args.sight _ (ap (λ (n : ℕ). Some n) c.end.ensures)
    c.requires.seen
    (sym c.stamp_in_time.ensures ∙ c.in-None.is)

pub returns-in_ok-leave-in-None-clause-calls : goal.returns-in_ok-leave-in-None-clause-calls
returns-in_ok-leave-in-None-clause-calls g c =
    let left = c.in_ok-leave-in-None.ensures.left in left_calls _ _ left.0 _ _ left.1

pub returns-in_ok-leave-in-None-clause-gives : goal.returns-in_ok-leave-in-None-clause-gives
returns-in_ok-leave-in-None-clause-gives g c =
    let lease = c.args.lease.now in
    let left = c.in_ok-leave-in-None.ensures.left in
    let end = ap (λ (n : ℕ). Some n) c.end.ensures in
    missed _ _ (Renewing lease.kind lease.stamp) c.args.sight _ c.seen.result _ _ left.0
    c.requires.seen (sym end) (sym c.stamp_in_time.ensures ∙ c.in-None.is) c.seen.ensures left.1
    left.2
