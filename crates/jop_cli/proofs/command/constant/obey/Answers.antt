use Rattle.jop_cli.proofs.Constants.{acts_constant}
use Rattle.jop_cli.proofs.command.constant.obey.Goals as goal

pub returns-clause-acts : goal.returns-clause-acts
returns-clause-acts g c = λ verb is.
    acts_constant verb c.args.text.now _ _ _ c.requires is c.emit.ensures.emits
