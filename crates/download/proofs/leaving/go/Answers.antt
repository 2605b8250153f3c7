use Rattle.std.specs.Prelude.{Some}
use Rattle.std.proofs.Common.{◌∙◌, ap, sym}
use Rattle.download.proofs.Left.{goes_away, leaf_may_go, stays_put}
use Rattle.download.specs.Downloading.{is_leaf}
use Rattle.local_store.specs.Tables.{row_at}
use Rattle.local_store.specs.declared.change.Change.TheVariants.{Gone}
use Rattle.local_store.specs.declared.tables.Tables.{Tables}
use Rattle.session.proofs.Behind.{ends_working}
use Rattle.session.specs.Parts.{Changes}
use Rattle.download.specs.Taking.{is_taking}
use Rattle.download.proofs.leaving.go.Goals as goal

pub returns-then-not-is_leaf : goal.returns-then-not-is_leaf
returns-then-not-is_leaf g c = record {
  ends = λ known lacks.
      stays_put c.args.id.now is_taking _
      (ap (λ (t : Tables). is_leaf (row_at t c.args.id.now)) (sym c.tables.ensures)
      ∙ (sym c.is_leaf.ensures ∙ c.if-not-is_leaf.true))
      c.requires.ready;
}

pub returns : goal.returns
returns g c = record {
  ends = λ known lacks.
      let id = c.args.id.now in
      let leaf = ap (λ (t : Tables). is_leaf (row_at t id)) (sym c.tables.ensures)
      ∙ (sym c.is_leaf.ensures ∙ c.if-not-is_leaf.false) in
      goes_away id is_taking _ _ c.make_shown.result leaf
      (ends_working (Changes (Gone id)) is_taking _ _ c.make_shown.result
      (c.make_shown.ensures.ends (Some known) is_taking
      (leaf_may_go known id (g.W.Session.now c.args.s.now).site lacks leaf)));
}
