use Rattle.std.specs.Prelude.{Ok, Err, refl}
use Rattle.std.proofs.Common.{subst, sym}
use Rattle.std.proofs.lemmas.Result.{err_from_is_err_and}
use Rattle.jop_base.specs.declared.path.Path.TheVariants.{Info as InfoFile}
use Rattle.jop_target.specs.declared.call.Call.TheVariants.{Get}
use Rattle.session_opening.proofs.Gets.{absent_refuses, absent_stops, takes, told_refuses}
use Rattle.session_opening.proofs.Judged.{absent_told, absent_untold, info_told, info_untold, none_told}
use Rattle.session_opening.proofs.HeadwayGets.{absent_progress, info_progress, info_vain, none_progress}
use Rattle.session_opening.specs.Opening.{RefusesTarget, is_reading}
use Rattle.session.proofs.Refusing.{not_refused}
use Rattle.session.specs.Asking.{IsAnswer}
use Rattle.target_upgrade.specs.Reading.{GivesInfo}
use Rattle.session_opening.proofs.reading.read_supported.Goals as goal

pub last-requires : goal.last-requires
last-requires g c =
    let h = c.in_ok-ask.ensures.ends is_reading refl in
    (Get InfoFile, h.reply, h.ends)

pub told-requires : goal.told-requires
told-requires g c =
    let h = c.in_ok-ask.ensures.ends is_reading refl in
    subst (IsAnswer (Get InfoFile)) (sym (c.last.ensures (Get InfoFile) h.reply h.ends)) h.answer

pub returns-in_err-ask : goal.returns-in_err-ask
returns-in_err-ask g c = record {
  reads = let p = err_from_is_err_and c.from_residual.result c.from_residual.ensures.1 in
      rw (p.1, p.2) (not_refused RefusesTarget is_reading _ _ _
      (c.in_err-ask.ensures.ends is_reading refl));
  order = λ due.
      let p = err_from_is_err_and c.from_residual.result c.from_residual.ensures.1 in
      rw (p.1, p.2) (info_untold (g.W.Session.now c.args.s.now)
      (g.W.Session.now c.ask.new.self) _ c.in_err-ask.ensures.once due);
  progress = λ own unread.
      let p = err_from_is_err_and c.from_residual.result c.from_residual.ensures.1 in
      rw (p.1, p.2) (info_vain own (g.W.Session.now c.args.s.now)
      (g.W.Session.now c.ask.new.self) _ c.in_err-ask.ensures.once unread);
}

pub returns-in_err-info : goal.returns-in_err-info
returns-in_err-info g c = record {
  reads = let p = err_from_is_err_and c.from_residual-in_err-info.result
      c.from_residual-in_err-info.ensures.1 in
      let h = c.in_ok-ask.ensures.ends is_reading refl in
      rw (p.1, p.2) (told_refuses _ _ c.last.result.now _ h
      (c.last.ensures (Get InfoFile) h.reply h.ends) c.in_err-info.ensures);
  order = λ due.
      let p = err_from_is_err_and c.from_residual-in_err-info.result
      c.from_residual-in_err-info.ensures.1 in
      let h = c.in_ok-ask.ensures.ends is_reading refl in
      rw (p.1, p.2) (none_told is_reading _ _ c.last.result.now _ h
      (c.last.ensures (Get InfoFile) h.reply h.ends) c.in_err-info.ensures due);
  progress = λ own unread.
      let p = err_from_is_err_and c.from_residual-in_err-info.result
      c.from_residual-in_err-info.ensures.1 in
      let h = c.in_ok-ask.ensures.ends is_reading refl in
      rw (p.1, p.2) (none_progress own is_reading _ _ c.last.result.now _ h
      (c.last.ensures (Get InfoFile) h.reply h.ends) c.in_err-info.ensures unread);
}

pub returns-in_err-read_old-in-None : goal.returns-in_err-read_old-in-None
returns-in_err-read_old-in-None g c = record {
  reads = let p = err_from_is_err_and c.from_residual-in_err-read_old-in-None.result
      c.from_residual-in_err-read_old-in-None.ensures.1 in
      rw (p.1, p.2) (absent_stops _ (g.W.Session.now c.ask.new.self) _ _
      (c.in_ok-ask.ensures.ends is_reading refl) c.in_err-read_old-in-None.ensures.reads);
  order = λ due.
      let p = err_from_is_err_and c.from_residual-in_err-read_old-in-None.result
      c.from_residual-in_err-read_old-in-None.ensures.1 in
      let h = c.in_ok-ask.ensures.ends is_reading refl in
      rw (p.1, p.2) (absent_untold is_reading (g.W.Session.now c.args.s.now)
      (g.W.Session.now c.ask.new.self) c.last.result.now _ _ h (c.last.ensures (Get InfoFile) h.reply h.ends)
      (rw c.in-None.is at c.in_ok-info.ensures) c.in_err-read_old-in-None.ensures.order due);
  progress = λ own unread.
      let p = err_from_is_err_and c.from_residual-in_err-read_old-in-None.result
      c.from_residual-in_err-read_old-in-None.ensures.1 in
      let h = c.in_ok-ask.ensures.ends is_reading refl in
      rw (p.1, p.2) (absent_progress own _ (g.W.Session.now c.ask.new.self)
      (g.W.Session.now c.read_old.new.s) c.last.result.now (Err _) _ h
      (c.last.ensures (Get InfoFile) h.reply h.ends) (rw c.in-None.is at c.in_ok-info.ensures)
      c.in_err-read_old-in-None.ensures.reads unread);
}

pub read_old-requires : goal.read_old-requires
read_old-requires g c = record { ready = (c.in_ok-ask.ensures.ends is_reading refl).does.ready }

pub returns-in_ok-read_old-in-None : goal.returns-in_ok-read_old-in-None
returns-in_ok-read_old-in-None g c = record {
  reads = let h = c.in_ok-ask.ensures.ends is_reading refl in
      absent_refuses _ (g.W.Session.now c.ask.new.self) _ c.last.result.now _ h
      (c.last.ensures (Get InfoFile) h.reply h.ends) (rw c.in-None.is at c.in_ok-info.ensures)
      c.in_ok-read_old-in-None.ensures.reads;
  order = λ due.
      let h = c.in_ok-ask.ensures.ends is_reading refl in
      absent_told is_reading (g.W.Session.now c.args.s.now) (g.W.Session.now c.ask.new.self)
      c.last.result.now _ _ h
      (c.last.ensures (Get InfoFile) h.reply h.ends) (rw c.in-None.is at c.in_ok-info.ensures)
      c.in_ok-read_old-in-None.ensures.order due;
  progress = λ own unread.
      let h = c.in_ok-ask.ensures.ends is_reading refl in
      absent_progress own _ (g.W.Session.now c.ask.new.self) (g.W.Session.now c.read_old.new.s)
      c.last.result.now (Ok _) _ h
      (c.last.ensures (Get InfoFile) h.reply h.ends) (rw c.in-None.is at c.in_ok-info.ensures)
      c.in_ok-read_old-in-None.ensures.reads unread;
}

pub returns-in-Some : goal.returns-in-Some
returns-in-Some g c = record {
  reads = let h = c.in_ok-ask.ensures.ends is_reading refl in
      let tells = rw c.in-Some.is at c.in_ok-info.ensures in
      takes c.in-Some.info c.supported.result _ _ h c.requires.sync tells.0
      (subst (GivesInfo c.in-Some.info) (c.last.ensures (Get InfoFile) h.reply h.ends) tells.1)
      c.supported.ensures;
  order = λ due.
      let h = c.in_ok-ask.ensures.ends is_reading refl in
      let tells = rw c.in-Some.is at c.in_ok-info.ensures in
      info_told is_reading c.in-Some.info c.supported.result _ _ h
      (subst (GivesInfo c.in-Some.info) (c.last.ensures (Get InfoFile) h.reply h.ends) tells.1)
      c.supported.ensures due;
  progress = λ own unread.
      let h = c.in_ok-ask.ensures.ends is_reading refl in
      let tells = rw c.in-Some.is at c.in_ok-info.ensures in
      info_progress own is_reading c.in-Some.info c.supported.result _ _ h
      (subst (GivesInfo c.in-Some.info) (c.last.ensures (Get InfoFile) h.reply h.ends) tells.1)
      c.supported.ensures unread;
}
