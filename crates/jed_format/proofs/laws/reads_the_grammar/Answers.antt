use Rattle.jed_format.proofs.Grammar.{jed_in-IsJedText}
use Rattle.jed_format.proofs.Read.{text_of_jed_in}
use Rattle.jed_format.proofs.laws.reads_the_grammar.Goals as goal

pub returns : goal.returns
returns c = λ text jed. (text_of_jed_in text jed, jed_in-IsJedText text jed)
