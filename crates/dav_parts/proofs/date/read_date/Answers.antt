use Rattle.std.proofs.Common.{sym, ap, ◌∙◌, inl}
use Rattle.std.proofs.lemmas.Bool.{false≢true}
use Rattle.httpdate.specs.Text.{imf_fixdate}
use Rattle.httpdate.proofs.Theorems.{IsDateText_unique}
use Rattle.dav_parts.proofs.BytesLemmas.{bytes_eq_same}
use Rattle.dav_parts.proofs.date.read_date.Goals as goal

pub returns-else-eq-clause-none : goal.returns-else-eq-clause-none
returns-else-eq-clause-none c = λ date e.
    let same = ap imf_fixdate (IsDateText_unique c.args.text.now c.in-Ok.date date
    c.in-Ok.ensures.shown (inl e)) in
    false≢true (sym c.if-eq.false ∙ c.eq.ensures ∙ bytes_eq_same _ _ (c.as_slice.ensures
    ∙ c.to_bytes.ensures ∙ same ∙ sym e))
