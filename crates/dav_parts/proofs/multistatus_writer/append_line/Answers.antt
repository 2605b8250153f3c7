use Rattle.std.proofs.Common.{ap, ◌∙◌, ◌++◌, List, ℕ}
use Rattle.httpdate.specs.Date.{date_text}
use Rattle.dav_parts.specs.Multistatus.{with_name, with_date}
use Rattle.dav_parts.proofs.multistatus_writer.append_line.Goals as goal

pub returns : goal.returns
returns c = (
  c.date_of-date.result,
  c.date_of-date.ensures,
  λ rest.
      let dated = with_date (date_text c.date_of-date.result) rest in
      c.in_ok-append_date.ensures rest ∙ c.in_ok-append_name.ensures dated
      ∙ ap (λ (n : List ℕ). c.args.text.now ++ with_name c.args.dir n dated)
      (c.as_slice-2.ensures ∙ c.in_ok-file_name.ensures),
)
