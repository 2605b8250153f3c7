use Rattle.std.proofs.Common.{◌∙◌}
use Rattle.master_keys.proofs.Found.{known_at}
use Rattle.master_keys.proofs.ring.digits_by.Goals as goal

pub returns-in-Some-clause-digits : goal.returns-in-Some-clause-digits
returns-in-Some-clause-digits c =
    c.in_ok-found.ensures
    ∙ known_at c.args.password.now c.args.locked.now c.args.tried.now c.args.id.now c.in-Some.key.now c.requires.known
    c.in-Some.ensures
