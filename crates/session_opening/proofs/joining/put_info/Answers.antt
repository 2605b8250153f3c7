use Rattle.std.proofs.Common.{◌∙◌, ap}
use Rattle.std.proofs.lemmas.Result.{err_from_is_err_and}
use Rattle.jop_base.proofs.KeyedLaws.{bytes_eq-refl}
use Rattle.session_opening.proofs.Informed.{is_info_at-supported}
use Rattle.session_opening.proofs.Joined.{differ, none_merging, puts_it, puts_merging, puts_nothing}
use Rattle.session_opening.proofs.Merging.{puts_text}
use Rattle.session_opening.proofs.HeadwayPuts.{put_progress, same_progress}
use Rattle.session_opening.proofs.Headways.{starved_stops}
use Rattle.session_opening.specs.Opening.{is_joining}
use Rattle.session.proofs.Ending.{does_nothing, does_starves}
use Rattle.sync_info.specs.declared.info.Info.{Info}
use Rattle.session_opening.proofs.joining.put_info.Goals as goal

pub write_info-requires : goal.write_info-requires
write_info-requires g c = c.requires.merge.valid

pub returns-then-is_same : goal.returns-then-is_same
returns-then-is_same g c = record {
  ends = (
    puts_nothing c.args.info.now c.args.remote.now is_joining (g.W.Session.now c.args.s.now)
        (c.is_same.ensures.0 c.if-is_same.true) c.requires.ready,
    none_merging (g.W.Session.now c.args.s.now) c.requires.ready,
  );
  progress = λ own got.
      same_progress own c.args.info.now c.args.remote.now (g.W.Session.now c.args.s.now)
      (c.is_same.ensures.0 c.if-is_same.true) got;
}

pub returns-in_err-text : goal.returns-in_err-text
returns-in_err-text g c = record {
  ends =
      let p = err_from_is_err_and c.from_residual.result c.from_residual.ensures.1 in (
        rw (p.1, p.2) (does_starves (does_nothing is_joining _ c.requires.ready)),
        none_merging (g.W.Session.now c.args.s.now) c.requires.ready,
      );
  progress = λ own got.
      let p = err_from_is_err_and c.from_residual.result c.from_residual.ensures.1 in
      rw (p.1, p.2) (starved_stops own c.args.info.now c.args.remote.now _ got);
}

pub returns : goal.returns
returns g c = record {
  ends =
      let m = c.requires.merge in
      let text = c.in_ok-text.text in
      let differs =
      differ c.args.info.now c.args.remote.now c.is_same.result c.is_same.ensures.1
      c.if-is_same.false in (
        puts_it c.args.info.now c.args.remote.now _ is_joining _ _ c.ask.result
            c.in_ok-text.ensures.text differs
            (c.ask.ensures.ends is_joining
            (is_info_at-supported _ c.args.info.now c.in_ok-text.ensures.reads_back
            (ap (λ (i : Info). i.version) m.is ∙ m.read.version))),
        puts_merging c.args.info.now c.args.remote.now text (g.W.Session.now c.args.s.now)
            (g.W.Session.now c.ask.new.self) c.ask.result c.in_ok-text.ensures.text differs m
            c.ask.ensures.same.made
            (c.ask.ensures.ends (puts_text text) (bytes_eq-refl text)),
      );
  progress = λ own got.
      let text = c.in_ok-text.text in
      put_progress own c.args.info.now c.args.remote.now text (puts_text text)
      (g.W.Session.now c.args.s.now) (g.W.Session.now c.ask.new.self) c.ask.result
      c.in_ok-text.ensures.text
      (differ c.args.info.now c.args.remote.now c.is_same.result c.is_same.ensures.1
      c.if-is_same.false)
      (c.ask.ensures.ends (puts_text text) (bytes_eq-refl text)) c.ask.ensures.once got;
}
