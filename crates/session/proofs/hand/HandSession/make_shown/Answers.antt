use Rattle.std.proofs.Common.{◌∙◌, ap}
use Rattle.std.proofs.lemmas.Result.{err_from_is_err_and}
use Rattle.conflicts.specs.Reports.{with_tally}
use Rattle.session.proofs.Committed.{does_made, gives_up_making, ready_made, unkept}
use Rattle.session.proofs.Stepped.{stays_by}
use Rattle.session.specs.Doing.{DoesTo, GivesNothing}
use Rattle.session.proofs.hand.HandSession.make_shown.Goals as goal

pub returns-in_err-commit-clause-ends : goal.returns-in_err-commit-clause-ends
returns-in_err-commit-clause-ends g c = λ known sort may.
    let p = err_from_is_err_and c.from_residual.result c.from_residual.ensures.1 in
    rw (p.1, p.2)
    (stays_by (GivesNothing sort _ _) _ _ _ _ _ known _ _ _ c.commit.ensures.stays
    (gives_up_making _ known sort _ _ _ _ c.args.change _ c.in_err-commit.ensures.commits
    c.in_err-commit.ensures.cause c.requires.allowed may c.requires.ready.tidy
    c.requires.ready.held))

pub returns-clause-ends : goal.returns-clause-ends
returns-clause-ends g c = λ known sort may.
    stays_by (DoesTo _ _ _ sort _) _ _ _ _ _ known _ _ _ c.commit.ensures.stays
    (does_made known sort _ _ _ _ _ c.args.change c.in_ok-commit.ensures.commits
    (c.in_ok-commit.ensures.cause.stays (λ e. cc)) c.requires.allowed may
    (c.count.ensures ∙ ap (with_tally c.args.self.now.report.now) c.of-tally.ensures)
    c.requires.ready.held)

pub returns-clause-ready : goal.returns-clause-ready
returns-clause-ready g c = ready_made _ _ _ _ c.in_ok-commit.ensures.commits c.requires.ready

pub returns-in_err-commit-clause-fails : goal.returns-in_err-commit-clause-fails
returns-in_err-commit-clause-fails g c =
    let p = err_from_is_err_and c.from_residual.result c.from_residual.ensures.1 in
    rw (p.1, p.2) (unkept _)
