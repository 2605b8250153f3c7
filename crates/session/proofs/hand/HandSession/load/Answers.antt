use Rattle.std.proofs.lemmas.Result.{err_from_is_err_and}
use Rattle.session.proofs.Committed.{gives_up_unmade}
use Rattle.session.proofs.Stepped.{stays_at}
use Rattle.session.specs.Doing.{GivesNothing}
use Rattle.session.proofs.hand.HandSession.load.Goals as goal

pub returns-in_err-bytes : goal.returns-in_err-bytes
returns-in_err-bytes g c =
    let p = err_from_is_err_and c.from_residual.result c.from_residual.ensures.1 in
    record {
      ends = λ sort.
          rw (p.1, p.2)
          (stays_at (GivesNothing sort _ _) _ _ _ _ _ _ _ _ c.load_blob.ensures.stays
          (gives_up_unmade _ _ sort _ _ _ _ _ c.load_blob.ensures.same c.in_err-bytes.ensures.cause
          c.requires.ready.tidy c.requires.ready.held));
    }
