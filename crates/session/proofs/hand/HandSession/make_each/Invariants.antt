use Rattle.std.proofs.Common.{Bool, None, Option}
use Rattle.jop_target.specs.declared.call.Call.{Call}
use Rattle.law_licences.specs.Views.{Shown}
use Rattle.session.proofs.Turns.{IsAtTurn}
use Rattle.session.specs.Making.{MayMakeAllBy}
use Rattle.session.specs.Work.{IsAtWork, work_by}
use Rattle.session.proofs.Stepped.{at_site}
use Rattle.session.proofs.hand.HandSession.make_each.Given as goal

-- those before here are made, and those from here on may be
abbrev pub invariant-loop-index : goal.invariant-loop-index
invariant-loop-index g l =
    let h = l.fn.self in
    let i = l.self in
    let first = at_site (g.S.Client.place h.site.now) h.site.ghost_name h.lease.ghost_name
    h.report.ghost_name in
    let here = at_site (g.S.Client.place i.site.now) i.site.ghost_name i.lease.ghost_name
    i.report.ghost_name in
    let then = work_by first None (g.S.Client.site h.site.now) h.lease.now h.report.now in
    let now = work_by here None (g.S.Client.site i.site.now) i.lease.now i.report.now in
    record {
      ready : IsAtWork now;
      turn : (known : Option Shown) (sort : Call → Bool) → MayMakeAllBy known then.site l.changes
          → IsAtTurn known sort l.changes l.index then now;
    }
