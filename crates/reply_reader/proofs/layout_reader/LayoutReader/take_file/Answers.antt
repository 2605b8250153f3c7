use Rattle.std.proofs.Common.{◌∙◌, ◌++◌, List, ℕ, ap, subst}
use Rattle.reply_reader.specs.Layouts.{ReadsFurther}
use Rattle.reply_reader.proofs.Steps.{from_kept, kept_feeds, kept_part}
use Rattle.reply_reader.proofs.layout_reader.LayoutReader.take_file.Goals as goal

pub returns-clause-goes : goal.returns-clause-goes
returns-clause-goes c = λ one half.
    let r = c.args.self.now in
    let end = c.args.end.now in
    let new = c.end_line-2.new.self in
    let text = c.as_slice.ensures ∙ c.in_ok-append.ensures.ok
    ∙ ap (λ (t : List ℕ). t ++ end) c.replace-line.ensures.value in
    let empty = c.replace-line.ensures.after ∙ c.new.ensures in
    let step = c.in_ok-end_line.ensures.goes (
      r.line ++ one.0,
      text ∙ kept_part r end one.0 one.1,
      kept_feeds r one.0 c.requires.place one.2 half,
    ) empty in
    from_kept r new end
    (subst (λ (t : List ℕ). ReadsFurther (record r { line = t }) new (r.line ++ end)) empty
    (subst (λ (t : List ℕ). ReadsFurther (record r { line = c.replace-line.new.dest }) new t) text
    step))
