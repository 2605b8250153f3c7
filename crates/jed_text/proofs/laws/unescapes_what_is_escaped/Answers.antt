use Rattle.jed_text.proofs.UnescapeSteps.{unescaped-escaped}
use Rattle.jed_text.proofs.laws.unescapes_what_is_escaped.Goals as goal

pub returns : goal.returns
returns c = unescaped-escaped
