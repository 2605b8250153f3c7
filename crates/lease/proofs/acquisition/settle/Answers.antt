use Rattle.std.proofs.Common.{refl, sym, ◌∙◌, None}
use Rattle.lease.specs.Added.{leave_calls}
use Rattle.lease.specs.Phase.{Asked}
use Rattle.lease.proofs.Added.{adds_none}
use Rattle.lease.proofs.Outcomes.{left_calls}
use Rattle.lease.proofs.Renewals.{acquired, blocked, blocked_leaving, missed, missed_leaving}
use Rattle.lease.proofs.Sessions.{lease_nowhere}
use Rattle.lease.proofs.acquisition.settle.Goals as goal

pub returns-in-Some-None-clause-gives : goal.returns-in-Some-None-clause-gives
returns-in-Some-None-clause-gives g c = record {
  whole = refl;
  fresh = acquired _ _ _ c.args.sight c.in-Some-None.stamp c.requires
      (sym c.stamp_in_time.ensures ∙ c.in-Some-None.is-0) c.in-Some-None.is-1;
}

pub returns-in-Some-None-clause-calls : goal.returns-in-Some-None-clause-calls
returns-in-Some-None-clause-calls g c =
    let calls = leave_calls c.args.kind c.args.client.now in (calls, adds_none calls _ _ refl)

pub returns-in-Some-None-clause-goes : goal.returns-in-Some-None-clause-goes
returns-in-Some-None-clause-goes g c = lease_nowhere _ _ _ c.requires.asked.stands

pub leave-requires : goal.leave-requires
leave-requires g c =
    blocked_leaving _ _ _ c.args.sight c.in-Some-Some.field-0-0 c.in-Some-Some.lock c.requires
    (sym c.stamp_in_time.ensures ∙ c.in-Some-Some.is-0) c.in-Some-Some.is-1

pub leave-requires-in-None-default : goal.leave-requires-in-None-default
leave-requires-in-None-default g c =
    missed_leaving _ _ _ c.args.sight c.requires
    (sym c.stamp_in_time.ensures ∙ c.in-None-default.is-0)

pub returns-in_ok-leave-in-Some-Some-clause-gives :
    goal.returns-in_ok-leave-in-Some-Some-clause-gives
returns-in_ok-leave-in-Some-Some-clause-gives g c =
    let left = c.in_ok-leave-in-Some-Some.ensures.left in
    blocked _ _ c.args.sight c.in-Some-Some.field-0-0 c.in-Some-Some.lock _ _ left.0 c.requires
    (sym c.stamp_in_time.ensures ∙ c.in-Some-Some.is-0) c.in-Some-Some.is-1 left.1 left.2

pub returns-in_ok-leave-in-Some-Some-clause-calls :
    goal.returns-in_ok-leave-in-Some-Some-clause-calls
returns-in_ok-leave-in-Some-Some-clause-calls g c =
    let left = c.in_ok-leave-in-Some-Some.ensures.left in left_calls _ _ left.0 _ _ left.1

pub returns-in_ok-leave-in-None-default-clause-gives :
    goal.returns-in_ok-leave-in-None-default-clause-gives
returns-in_ok-leave-in-None-default-clause-gives g c =
    let left = c.in_ok-leave-in-None-default.ensures.left in
    missed _ _ (Asked c.args.kind) c.args.sight None c.seen.result _ _ left.0 c.requires refl
    (sym c.stamp_in_time.ensures ∙ c.in-None-default.is-0) c.seen.ensures left.1 left.2

pub returns-in_ok-leave-in-None-default-clause-calls :
    goal.returns-in_ok-leave-in-None-default-clause-calls
returns-in_ok-leave-in-None-default-clause-calls g c =
    let left = c.in_ok-leave-in-None-default.ensures.left in left_calls _ _ left.0 _ _ left.1
