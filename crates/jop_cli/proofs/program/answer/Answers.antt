use Rattle.std.proofs.Common.{ap}
use Rattle.jop_cli.proofs.Runs.{misused, starved}
use Rattle.jop_words.specs.Commands.{verb_in}
use Rattle.jop_cli.proofs.program.answer.Goals as goal

pub returns-in-Err-Usage-clause-acts : goal.returns-in-Err-Usage-clause-acts
returns-in-Err-Usage-clause-acts g c =
    let none = c.in-Err-Usage.ensures.usage (cc (c.in-Err-Usage.field-0-is)) in
    misused _ _ (ap verb_in none) c.requires

pub returns-in-Err-NoMemory-clause-acts : goal.returns-in-Err-NoMemory-clause-acts
returns-in-Err-NoMemory-clause-acts g c = starved _ _ c.requires
