use Rattle.jop_base.specs.Id.{AreDigits}
use Rattle.jop_base.proofs.CountUp.{IsWrapped}
use Rattle.jop_base.proofs.id.Id.after.Given as goal

-- from the place on the digits have been counted up, and wrapped
abbrev pub invariant-loop-place : goal.invariant-loop-place
invariant-loop-place l = record {
  digits : AreDigits l.digits;
  wrapped : IsWrapped l.digits l.initial.digits l.place;
}
