use Rattle.std.proofs.Common.{◌≡◌, arith, get_or, subst, sym}
use Rattle.std.proofs.lemmas.List.Elements.{All-get_or}
use Rattle.std.proofs.lemmas.Result.{err_from_is_err_and}
use Rattle.local_store.specs.Sound.{IsAllowed}
use Rattle.local_store.specs.declared.change.Change.{Change}
use Rattle.session.proofs.Ending.{does_starves}
use Rattle.session.proofs.Repeating.{does_all}
use Rattle.session.proofs.Turns.{next_turn, no_turn, turn_given_up}
use Rattle.session.specs.Parts.{Changes}
use Rattle.session.proofs.hand.HandSession.make_each.Goals as goal

pub loop-index-init : goal.loop-index-init
loop-index-init g c = record {
  ready = c.requires.ready;
  turn = λ known sort may. no_turn known sort c.args.changes.now _ c.requires.ready may;
}

pub make_shown-requires-clause-allowed : goal.make_shown-requires-clause-allowed
make_shown-requires-clause-allowed g c =
    subst IsAllowed (sym c.in_ok-change.ensures)
    (subst IsAllowed (sym c.index-changes-index.is)
    (All-get_or IsAllowed c.args.changes.now c.loop-index.index c.index-changes-index.result
    (omega arith) c.requires.allowed))

pub loop-index-preserved : goal.loop-index-preserved
loop-index-preserved g c = record {
  ready = c.in_ok-make_shown.ensures.ready;
  turn = λ known sort may.
      next_turn known sort c.args.changes.now c.loop-index.index c.in_ok-change.change _ _ _
      (omega arith) (subst (λ (x : Change). x ≡ get_or c.args.changes.now c.loop-index.index x)
      (sym c.in_ok-change.ensures) c.index-changes-index.is)
      (c.loop-index.invariant.turn known sort may) (c.in_ok-make_shown.ensures.ends known sort);
}

pub returns-in_err-change : goal.returns-in_err-change
returns-in_err-change g c = record {
  ends = λ known sort may.
      let p = err_from_is_err_and c.from_residual.result c.from_residual.ensures.1 in
      rw (p.1, p.2) (does_starves (c.loop-index.invariant.turn known sort may).does);
}

pub returns-in_err-make_shown : goal.returns-in_err-make_shown
returns-in_err-make_shown g c = record {
  ends = λ known sort may.
      let p = err_from_is_err_and c.from_residual-in_err-make_shown.result
      c.from_residual-in_err-make_shown.ensures.1 in
      rw (p.1, p.2)
      (turn_given_up known sort c.args.changes.now c.loop-index.index c.in_ok-change.change _ _ _ _
      (omega arith) (subst (λ (x : Change). x ≡ get_or c.args.changes.now c.loop-index.index x)
      (sym c.in_ok-change.ensures) c.index-changes-index.is)
      (c.loop-index.invariant.turn known sort may) (c.in_err-make_shown.ensures.ends known sort));
}

pub returns : goal.returns
returns g c = record {
  ends = λ known sort may.
      does_all Changes sort c.args.changes.now c.loop-index.index _ _ (omega arith)
      (c.loop-index.invariant.turn known sort may).does;
}
