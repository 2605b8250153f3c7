use Rattle.std.proofs.Common.{sym, ap, ◌∙◌, ◌++◌, List, ℕ}
use Rattle.dav_parts.specs.Multistatus.{date_open}
use Rattle.dav_parts.proofs.LineLemmas.{name_has_end, cut_unique, date_open_first}
use Rattle.dav_parts.proofs.multistatus_reader.name_at.Goals as goal

pub returns-in-None-clause-none : goal.returns-in-None-clause-none
returns-in-None-clause-none c = λ name rest no e. name_has_end c.args.text.now name rest
    c.in-None.ensures.none e

pub returns-in-None-after_prefix-clause-none : goal.returns-in-None-after_prefix-clause-none
returns-in-None-after_prefix-clause-none c = λ name rest no e.
    let cut = c.in-Some.ensures.some in
    c.in-None-after_prefix.ensures.none rest ((cut_unique c.in-Some.name.now name c.in-Some.text.now
    (date_open ++ rest) cut.1 no cut.2 (date_open_first rest) (sym cut.0 ∙ e)).1
    ∙ ap (λ (t : List ℕ). t ++ rest) (sym c.date_open.ensures))
