use Rattle.std.proofs.Common.{sym, ap, ◌∙◌, ◌++◌, length, take, drop, List, ℕ, arith}
use Rattle.std.proofs.lemmas.List.{take_at, drop_at, length-append}
use Rattle.httpdate.specs.Date.{date_text}
use Rattle.dav_parts.specs.Multistatus.{entry_close}
use Rattle.dav_parts.proofs.DateLemmas.{date_long}
use Rattle.dav_parts.proofs.multistatus_reader.date_at.Goals as goal

pub returns-then-text-lt-DATE_LEN-clause-none : goal.returns-then-text-lt-DATE_LEN-clause-none
returns-then-text-lt-DATE_LEN-clause-none c = λ date rest e.
    omega (
      arith,
      c.if-text-lt-DATE_LEN.true,
      ap (λ (t : List ℕ). length t) e,
      length-append
          (date_text date) (entry_close ++ rest),
      date_long date,
    )

pub returns-in-None-clause-none : goal.returns-in-None-clause-none
returns-in-None-clause-none c = λ date rest e. c.in-None.ensures.none date (c.split_at.ensures.front
    ∙ ap (λ (t : List ℕ). take 29 t) e ∙ take_at (date_text date) (entry_close ++ rest) 29
    (date_long date))

pub returns-in-None-after_prefix-clause-none : goal.returns-in-None-after_prefix-clause-none
returns-in-None-after_prefix-clause-none c = λ date rest e. c.in-None-after_prefix.ensures.none rest
    (c.split_at.ensures.back ∙ ap (λ (t : List ℕ). drop 29 t) e
    ∙ drop_at (date_text date) (entry_close ++ rest) 29 (date_long date)
    ∙ ap (λ (t : List ℕ). t ++ rest) (sym c.entry_close.ensures))
