use Rattle.item_text.proofs.Escaped.{unescaped-escaped}
use Rattle.item_text.proofs.laws.unescapes_what_is_escaped.Goals as goal

pub returns : goal.returns
returns c = unescaped-escaped
