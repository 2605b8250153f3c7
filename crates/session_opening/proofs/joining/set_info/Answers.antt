use Rattle.std.proofs.Common.{◌∙◌, ap, sym}
use Rattle.local_store.specs.declared.tables.Tables.{Tables}
use Rattle.session_opening.proofs.Joined.{differ, may_set, sets_it, sets_nothing}
use Rattle.session_opening.proofs.HeadwayPuts.{set_in_vain}
use Rattle.session_opening.proofs.joining.set_info.Goals as goal

pub make-requires-clause-allowed : goal.make-requires-clause-allowed
make-requires-clause-allowed g c = c.requires.merge.1.valid

pub make-requires-clause-may : goal.make-requires-clause-may
make-requires-clause-may g c = λ shown.
    may_set c.args.info c.requires.merge.0 (g.W.Session.now c.args.s.now).site shown
    c.requires.merge.1
    (differ c.args.info _ c.is_same.result
    (λ same. c.is_same.ensures.1 (same ∙ sym (ap (λ (t : Tables). t.info) c.tables.ensures)))
    c.if-is_same.false)

pub returns-then-is_same : goal.returns-then-is_same
returns-then-is_same g c = record {
  ends = λ sort.
      sets_nothing c.args.info c.tables.result.now.info sort (g.W.Session.now c.args.s.now)
      (c.is_same.ensures.0 c.if-is_same.true) (ap (λ (t : Tables). t.info) c.tables.ensures)
      c.requires.ready;
  fails = tt;
}

pub returns : goal.returns
returns g c = record {
  ends = λ sort.
      sets_it c.args.info sort (g.W.Session.now c.args.s.now) (g.W.Session.now c.make.new.self)
      c.make.result
      (differ c.args.info _ c.is_same.result
      (λ same. c.is_same.ensures.1 (same ∙ sym (ap (λ (t : Tables). t.info) c.tables.ensures)))
      c.if-is_same.false)
      (c.make.ensures.ends sort);
  fails = set_in_vain c.args.info _ c.make.result
      (differ c.args.info _ c.is_same.result
      (λ same. c.is_same.ensures.1 (same ∙ sym (ap (λ (t : Tables). t.info) c.tables.ensures)))
      c.if-is_same.false)
      c.make.ensures.fails;
}
