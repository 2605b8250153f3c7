use Rattle.std.proofs.Common.{◌∙◌, ◌++◌, List, ℕ, ap, subst, sym, append_assoc}
use Rattle.reply_reader.specs.Layouts.{HasReadLayout}
use Rattle.reply_reader.proofs.Steps.{stepped}
use Rattle.reply_reader.proofs.layout_reader.LayoutReader.feed.Goals as goal

pub loop-line-preserved : goal.loop-line-preserved
loop-line-preserved c =
    let at = c.loop-line.invariant in
    let line = c.in-Some.line.now in
    let cut = c.in-Some.ensures.some in (
      at.0 ++ line,
      at.1 ∙ ap (λ (t : List ℕ). at.0 ++ t) cut.0 ∙ sym (append_assoc at.0 line c.in-Some.behind.now),
      λ done h. subst (λ (t : List ℕ). HasReadLayout c.take_line.new.self t)
          (append_assoc done at.0 line)
          (stepped c.loop-line.self c.take_line.new.self line (done ++ at.0) (at.2 done h)
          (c.in_ok-take_line.ensures.goes cut.1 (at.2 done h).half)),
      c.take_line.ensures.dir ∙ at.3,
    )

pub returns-clause-come : goal.returns-clause-come
returns-clause-come c = λ done h.
    let at = c.loop-line.invariant in
    subst (λ (t : List ℕ). HasReadLayout c.take_part.new.self t)
    (append_assoc done at.0 c.loop-line.rest.now
    ∙ ap (λ (t : List ℕ). done ++ t) (sym at.1))
    (stepped c.loop-line.self c.take_part.new.self c.loop-line.rest.now (done ++ at.0)
    (at.2 done h) (c.in_ok-take_part.ensures.goes c.in_default.ensures.none (at.2 done h).half))
