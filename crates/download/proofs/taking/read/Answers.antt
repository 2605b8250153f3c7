use Rattle.std.proofs.Common.{◌∙◌, sym}
use Rattle.local_store.specs.Rows.{item_of}
use Rattle.session.proofs.Ending.{does_nothing}
use Rattle.session.specs.declared.finding.Finding.TheVariants.{Same, Other, Missing, Unreadable}
use Rattle.download.proofs.Taken.{item_met, key_passed, reads_as, reads_nothing}
use Rattle.download.specs.Taking.{is_key_item, is_taking}
use Rattle.download.proofs.taking.read.Goals as goal

pub returns-then-is_key : goal.returns-then-is_key
returns-then-is_key g c = record {
  ends = λ known asks.
      let remote = c.in-Other.remote in
      reads_nothing c.args.id.now c.args.finding (Other remote) _ c.in-Other.is
      (key_passed c.args.id.now remote (is_key_item (item_of remote.1)) _
      (sym c.is_key.ensures ∙ c.if-is_key.true) c.requires.ready);
}

pub returns-else-is_key : goal.returns-else-is_key
returns-else-is_key g c = record {
  ends = λ known asks.
      let remote = c.in-Other.remote in
      reads_as c.args.id.now c.args.finding (Other remote) _ _ c.meet.result c.in-Other.is
      (item_met c.args.id.now remote (is_key_item (item_of remote.1)) _ _ c.meet.result
      (sym c.is_key.ensures ∙ c.if-is_key.false) (c.meet.ensures.ends known asks));
}

pub returns-in-Same : goal.returns-in-Same
returns-in-Same g c = record {
  ends = λ known asks.
      reads_nothing c.args.id.now c.args.finding Same _ c.in-Same.is
      (does_nothing is_taking _ c.requires.ready);
}

pub returns-in-Missing : goal.returns-in-Missing
returns-in-Missing g c = record {
  ends = λ known asks.
      reads_nothing c.args.id.now c.args.finding Missing _ c.in-Missing.is
      (does_nothing is_taking _ c.requires.ready);
}

pub returns-in-Unreadable : goal.returns-in-Unreadable
returns-in-Unreadable g c = record {
  ends = λ known asks.
      reads_nothing c.args.id.now c.args.finding Unreadable _ c.in-Unreadable.is
      (does_nothing is_taking _ c.requires.ready);
}
