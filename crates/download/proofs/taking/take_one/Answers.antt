use Rattle.std.specs.Prelude.{Some, refl}
use Rattle.std.proofs.lemmas.Result.{err_from_is_err_and}
use Rattle.download.proofs.Taken.{ends_one}
use Rattle.download.specs.Taking.{is_taking}
use Rattle.session.proofs.Behind.{found_behind, sound_behind}
use Rattle.session.proofs.Recast.{does_knowing, finds_none, gives_up_knowing}
use Rattle.session.specs.Sessions.{FindsFile}
use Rattle.session.specs.Work.{knowing}
use Rattle.download.proofs.taking.take_one.Goals as goal

pub read-requires-clause-ready : goal.read-requires-clause-ready
read-requires-clause-ready g c = (c.in_ok-finding.ensures.ends is_taking refl).ready

pub read-requires-clause-got : goal.read-requires-clause-got
read-requires-clause-got g c =
    let found = c.in_ok-finding.ensures.ends is_taking refl in
    record {
      found = found_behind c.args.id.now _ is_taking _ _ found;
      sound = sound_behind c.args.id.now _ is_taking _ _ found;
    }

pub returns : goal.returns
returns g c = record {
  ends = λ known asks.
      let id = c.args.id.now in
      let finding = c.in_ok-finding.finding in
      let a = g.W.Session.now c.args.s.now in
      let b = g.W.Session.now c.find.new.self in
      ends_one id finding (knowing (Some known) a) (knowing (Some known) b) _ c.read.result
      (does_knowing (FindsFile id finding) is_taking (Some known) a b
      (g.met.W.Session.unshown c.args.s.now) (finds_none id finding)
      (c.in_ok-finding.ensures.ends is_taking refl))
      (c.read.ensures.ends known asks);
}

pub returns-in_err-finding : goal.returns-in_err-finding
returns-in_err-finding g c = record {
  ends = λ known asks.
      let p = err_from_is_err_and c.from_residual.result c.from_residual.ensures.1 in
      rw (p.1, p.2) (gives_up_knowing is_taking (Some known) (g.W.Session.now c.args.s.now)
      (g.W.Session.now c.find.new.self) _ (g.met.W.Session.unshown c.args.s.now)
      (c.in_err-finding.ensures.ends is_taking refl));
}
