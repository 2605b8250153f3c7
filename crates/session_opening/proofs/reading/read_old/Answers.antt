use Rattle.std.specs.Prelude.{refl}
use Rattle.std.proofs.Common.{◌∙◌, arith, sym}
use Rattle.std.proofs.lemmas.Result.{err_from_is_err_and}
use Rattle.jop_base.specs.declared.path.Path.TheVariants.{OldVersion}
use Rattle.jop_target.specs.declared.call.Call.TheVariants.{Get}
use Rattle.session_opening.proofs.Gets.{absent_is, reads_old, there_is}
use Rattle.session_opening.proofs.Judged.{old_told, old_untold}
use Rattle.session_opening.specs.Opening.{is_reading}
use Rattle.session_opening.proofs.reading.read_old.Goals as goal

pub last-requires : goal.last-requires
last-requires g c =
    let h = c.in_ok-ask.ensures.ends is_reading refl in
    (Get OldVersion, h.reply, h.ends)

pub returns-in-Absent : goal.returns-in-Absent
returns-in-Absent g c = record {
  reads = let h = c.in_ok-ask.ensures.ends is_reading refl in
      let told = c.last.ensures (Get OldVersion) h.reply h.ends in
      reads_old _ _ 0 h (absent_is h.reply _ (sym told ∙ c.in-Absent.is)) (omega arith);
  order = λ due.
      let h = c.in_ok-ask.ensures.ends is_reading refl in
      let told = c.last.ensures (Get OldVersion) h.reply h.ends in
      old_told is_reading _ _ 0 h (absent_is h.reply _ (sym told ∙ c.in-Absent.is)) due;
}

pub returns-in_default : goal.returns-in_default
returns-in_default g c = record {
  reads = let h = c.in_ok-ask.ensures.ends is_reading refl in
      let told = c.last.ensures (Get OldVersion) h.reply h.ends in
      reads_old _ _ 1 h
      (there_is h.reply h.answer.0 h.answer.1
      (λ now same. c.in_default.not-Absent now (told ∙ same)))
      (omega arith);
  order = λ due.
      let h = c.in_ok-ask.ensures.ends is_reading refl in
      let told = c.last.ensures (Get OldVersion) h.reply h.ends in
      old_told is_reading _ _ 1 h
      (there_is h.reply h.answer.0 h.answer.1
      (λ now same. c.in_default.not-Absent now (told ∙ same)))
      due;
}

pub returns-in_err-ask : goal.returns-in_err-ask
returns-in_err-ask g c = record {
  reads = let p = err_from_is_err_and c.from_residual.result c.from_residual.ensures.1 in
      rw (p.1, p.2) (c.in_err-ask.ensures.ends is_reading refl);
  order = λ due.
      let p = err_from_is_err_and c.from_residual.result c.from_residual.ensures.1 in
      rw p.1 (old_untold (g.W.Session.now c.args.s.now)
      (g.W.Session.now c.ask.new.self) c.in_err-ask.ensures.once due);
}
