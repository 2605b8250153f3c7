-- A command of three words, as `clap` is told of it.
use Rattle.std.specs.Prelude.{ℕ, List, codes, true, Some}
use Rattle.clap.specs.Words.{App, Rule, new_app, new_rule, with_rule}
use Rattle.clap.specs.declared.builder.ArgAction.TheVariants.{Set}

-- a word that has to be there
abbrev pub needed_word : List ℕ → Rule
needed_word name = record (new_rule name) { required = true; action = Some Set }

abbrev pub with_no_name : App → App
with_no_name app = record app { top = record app.top { no_binary_name = true } }

abbrev pub with_no_help : App → App
with_no_help app = record app { top = record app.top { disable_help_flag = true } }

abbrev pub with_no_version : App → App
with_no_version app = record app { top = record app.top { disable_version_flag = true } }

-- no flags, and the program's own name is none of the words
abbrev pub no_words : App
no_words = with_no_version (with_no_help (with_no_name (new_app (codes "jop_hall"))))

abbrev pub three_words : App
three_words =
    with_rule (with_rule (with_rule no_words (needed_word (codes "mode")))
    (needed_word (codes "number"))) (needed_word (codes "count"))
