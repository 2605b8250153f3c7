use Rattle.std.specs.Prelude.{◌≡◌, refl}
use Rattle.std.proofs.Common.{subst, sym}
use Rattle.law_licences.specs.Licences.{MayChange}
use Rattle.law_licences.specs.Views.{Working, stage_after}
use Rattle.local_store.specs.Sound.{IsAllowed}
use Rattle.local_store.specs.declared.change.Change.{Change}
use Rattle.session.specs.Doing.{Ends}
use Rattle.session.specs.Parts.{Changes}
use Rattle.session.specs.Work.{view_of}
use Rattle.upload.specs.Uploading.{is_upload}
use Rattle.upload.proofs.yielding.give_way.Goals as goal

pub make-requires-clause-allowed : goal.make-requires-clause-allowed
make-requires-clause-allowed g c =
    subst IsAllowed (sym c.conflict_change.ensures) c.requires.may.yields.sound

pub make-requires-clause-may : goal.make-requires-clause-may
make-requires-clause-may g c = λ shown.
    subst (λ (change : Change). MayChange (view_of shown (g.W.Session.now c.args.s.now).site) change)
    (sym c.conflict_change.ensures) (c.requires.may.yields.may shown)

pub make-requires-clause-more : goal.make-requires-clause-more
make-requires-clause-more g c =
    subst (λ (change : Change). stage_after Working change ≡ Working)
    (sym c.conflict_change.ensures) refl

pub returns : goal.returns
returns g c = record {
  ends =
      let now = g.W.Session.now in
      subst (λ (change : Change). Ends (Changes change) is_upload (now c.args.s.now) c.make.result
      (now c.make.new.self)) c.conflict_change.ensures (c.make.ensures.ends is_upload);
}
