use Rattle.std.proofs.lemmas.Result.{err_from_is_err_and}
use Rattle.sync_session.proofs.Exchanged.{exchanges_both, exchanges_unsent, heeds_sent, heeds_unsent}
use Rattle.sync_session.proofs.exchanging.exchange.Goals as goal

pub returns-in_err-send : goal.returns-in_err-send
returns-in_err-send g c = record {
  ends =
      let p = err_from_is_err_and c.from_residual.result c.from_residual.ensures.1 in
      rw (p.1, p.2) (exchanges_unsent _ _ _ c.in_err-send.ensures.ends);
  emptied =
      heeds_unsent _ (g.W.Session.now c.args.s.now) (g.W.Session.now c.send.new.s) _
      c.in_err-send.ensures.ends;
}

pub returns : goal.returns
returns g c = record {
  ends =
      let now = g.W.Session.now in
      exchanges_both (now c.args.s.now) (now c.send.new.s) _ c.apply_listed.result
      (g.met.W.Session.unshown c.send.new.s) c.in_ok-send.ensures.ends
      c.in_ok-send.ensures.nothing c.apply_listed.ensures.ends;
  emptied =
      let now = g.W.Session.now in
      heeds_sent _ (now c.args.s.now) (now c.send.new.s) (now c.apply_listed.new.s)
      c.apply_listed.result c.in_ok-send.ensures.ends c.apply_listed.ensures.ends
      c.apply_listed.ensures.emptied;
}
