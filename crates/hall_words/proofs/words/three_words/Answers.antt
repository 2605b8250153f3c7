use Rattle.std.proofs.Common.{rules, ap, ap₂, ◌∙◌, ◌≡◌, codes}
use Rattle.clap.specs.Simple.{app_of_fields}
use Rattle.clap.specs.Words.{app_of, new_app, rule_of, with_rule}
use Rattle.hall_words.specs.Three.{needed_word, no_words, with_no_help, with_no_name, with_no_version}
use Rattle.hall_words.proofs.words.three_words.Goals as goal

pub returns-clause-ok : goal.returns-clause-ok
returns-clause-ok c =
    let mode : rule_of c.action-mode.result ≡ needed_word (codes "mode") = search rules in
    let number : rule_of c.action-number.result ≡ needed_word (codes "number") = search rules in
    let count : rule_of c.action-count.result ≡ needed_word (codes "count") = search rules in
    let nameless : app_of c.no_binary_name.result ≡ with_no_name (new_app (codes "jop_hall")) =
    ap app_of_fields c.no_binary_name.ensures ∙ ap with_no_name c.new-4.ensures.app in
    let helpless = ap app_of_fields c.disable_help_flag.ensures ∙ ap with_no_help nameless in
    let none : app_of c.disable_version_flag.result ≡ no_words =
    ap app_of_fields c.disable_version_flag.ensures ∙ ap with_no_version helpless in
    c.in_ok-command.ensures.shape (search rules)
    ∙ ap₂ with_rule (c.in_ok-arg-2.ensures.shape (search rules)
    ∙ ap₂ with_rule (c.in_ok-arg.ensures.shape (search rules) ∙ ap₂ with_rule none mode) number) count
