use Rattle.std.specs.Prelude.{Some}
use Rattle.std.proofs.Common.{◌∙◌, ap, sym}
use Rattle.std.proofs.lemmas.Result.{err_from_is_err_and}
use Rattle.conflicts.specs.Rules.{folder_gone_changes}
use Rattle.local_store.specs.declared.change.Change.TheVariants.{Gone}
use Rattle.session.proofs.Behind.{ends_working, tables_each}
use Rattle.session.proofs.Ending.{does_nothing, does_starves, ends_then}
use Rattle.session.specs.Parts.{Changes, ForEach}
use Rattle.session.specs.Work.{knowing}
use Rattle.download.proofs.Left.{all_allowed, all_may, closed_may_go, closes_then, closes_up, place, stays_open}
use Rattle.download.specs.Downloading.{is_place}
use Rattle.local_store.specs.Tables.{row_at}
use Rattle.local_store.specs.declared.tables.Tables.{Tables}
use Rattle.download.specs.Taking.{is_taking}
use Rattle.download.proofs.leaving.close.Goals as goal

pub returns-then-not-is_place : goal.returns-then-not-is_place
returns-then-not-is_place g c = record {
  ends = λ known lacks.
      stays_open c.args.id.now is_taking _
      (ap (λ (t : Tables). is_place (row_at t c.args.id.now)) (sym c.tables.ensures)
      ∙ (sym c.is_place.ensures ∙ c.if-not-is_place.true))
      c.requires.ready;
}

pub returns-in_err-moves : goal.returns-in_err-moves
returns-in_err-moves g c = record {
  ends = λ known lacks.
      let p = err_from_is_err_and c.from_residual.result c.from_residual.ensures.1 in
      rw (p.1, p.2) (does_starves (does_nothing is_taking _ c.requires.ready));
}

-- what is made are the moves out of the folder
pub make_each-requires-clause-allowed : goal.make_each-requires-clause-allowed
make_each-requires-clause-allowed g c =
    all_allowed c.args.id.now (g.W.Session.now c.args.s.now).site _
    (c.as_slice.ensures ∙ (c.in_ok-moves.ensures
    ∙ ap (λ (t : Tables). folder_gone_changes t c.args.id.now) c.tables-2.ensures))

pub make_shown-requires-clause-ready : goal.make_shown-requires-clause-ready
make_shown-requires-clause-ready g c =
    let d = (g.W.Session.now c.args.s.now).site in
    let id = c.args.id.now in
    let at = ap (λ (t : Tables). is_place (row_at t id)) (sym c.tables.ensures)
    ∙ (sym c.is_place.ensures ∙ c.if-not-is_place.false) in
    (c.in_ok-make_each.ensures.ends (Some c.requires.gone.0) is_taking
    (all_may c.requires.gone.0 id d c.as_slice.result.now c.requires.gone.1 (place d.tables id at)
    c.requires.ready.tidy.sound.rows_ordered
    (c.as_slice.ensures ∙ (c.in_ok-moves.ensures
    ∙ ap (λ (t : Tables). folder_gone_changes t id) c.tables-2.ensures)))).ready

pub returns-in_err-make_each : goal.returns-in_err-make_each
returns-in_err-make_each g c = record {
  ends = λ known lacks.
      let p = err_from_is_err_and c.from_residual-in_err-make_each.result
      c.from_residual-in_err-make_each.ensures.1 in
      let d = (g.W.Session.now c.args.s.now).site in
      let id = c.args.id.now in
      let at = ap (λ (t : Tables). is_place (row_at t id)) (sym c.tables.ensures)
      ∙ (sym c.is_place.ensures ∙ c.if-not-is_place.false) in
      rw (p.1, p.2) (c.in_err-make_each.ensures.ends (Some known) is_taking
      (all_may known id d c.as_slice.result.now lacks (place d.tables id at)
      c.requires.ready.tidy.sound.rows_ordered
      (c.as_slice.ensures ∙ (c.in_ok-moves.ensures
      ∙ ap (λ (t : Tables). folder_gone_changes t id) c.tables-2.ensures))));
}

pub returns : goal.returns
returns g c = record {
  ends = λ known lacks.
      let a = g.W.Session.now c.args.s.now in
      let b = g.W.Session.now c.make_each.new.self in
      let id = c.args.id.now in
      let moves = c.as_slice.result.now in
      let at = ap (λ (t : Tables). is_place (row_at t id)) (sym c.tables.ensures)
      ∙ (sym c.is_place.ensures ∙ c.if-not-is_place.false) in
      let is = place a.site.tables id at in
      let are = c.as_slice.ensures ∙ (c.in_ok-moves.ensures
      ∙ ap (λ (t : Tables). folder_gone_changes t id) c.tables-2.ensures) in
      let ordered = c.requires.ready.tidy.sound.rows_ordered in
      let moved = c.in_ok-make_each.ensures.ends (Some known) is_taking
      (all_may known id a.site moves lacks is ordered are) in
      closes_up id is_taking (knowing (Some known) a) _ c.make_shown.result at
      (closes_then id is_taking moves (knowing (Some known) a) _ c.make_shown.result are
      (ends_then (ForEach Changes moves) (Changes (Gone id)) is_taking _
      (knowing (Some known) b) _ c.make_shown.result moved
      (ends_working (Changes (Gone id)) is_taking _ _ c.make_shown.result
      (c.make_shown.ensures.ends (Some known) is_taking
      (closed_may_go known id a.site b.site moves lacks is ordered are
      (tables_each moves is_taking (knowing (Some known) a) (knowing (Some known) b)
      moved))))));
}
