use Rattle.dav_wire.specs.ResponseTexts.{response_text}
use Rattle.std.proofs.Common.{ap, ◌∙◌, ◌++◌, List, ℕ}
use Rattle.dav_wire.proofs.ResponseTextLemmas.{joined}
use Rattle.dav_wire.proofs.response_writer.respond.Goals as goal

pub returns : goal.returns
unfolding response_text
returns c = (
  c.date_of-date.result,
  c.date_of-date.ensures,
  joined c.in_ok-text.text c.append_date.new.text c.append.new.self c.append_end.new.text
      c.append-2.new.self _ _ _ _ _ c.in_ok-text.ensures c.in_ok-append_date.ensures
      (c.in_ok-append.ensures.ok ∙ ap (λ (t : List ℕ). c.append_date.new.text
      ++ t) c.type_line.ensures) c.in_ok-append_end.ensures c.in_ok-append-2.ensures.ok,
)
