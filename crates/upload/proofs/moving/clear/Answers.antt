use Rattle.std.specs.Prelude.{List, None, All, filter, refl}
use Rattle.std.proofs.Common.{◌∙◌, ap, subst, sym}
use Rattle.std.proofs.lemmas.Result.{err_from_is_err_and}
use Rattle.conflicts.specs.Rules.{folder_gone_changes}
use Rattle.law_licences.specs.Items.{is_folder, is_note_in}
use Rattle.local_store.specs.Rows.{item_of}
use Rattle.local_store.specs.Sound.{IsAllowed}
use Rattle.local_store.specs.declared.change.Change.{Change}
use Rattle.local_store.specs.declared.tables.Tables.{Tables}
use Rattle.session.proofs.Ending.{does_nothing, does_starves}
use Rattle.session.proofs.Folders.{moves_allowed, moves_may}
use Rattle.session.proofs.Recast.{ends_unknown}
use Rattle.session.specs.Making.{MayMakeAll}
use Rattle.session.specs.Parts.{Changes, ForEach}
use Rattle.session.specs.Work.{view_of}
use Rattle.upload.proofs.Folders.{clears_if, clears_nothing, ends_all, found_behind_moves, is_going}
use Rattle.upload.specs.Uploading.{is_upload}
use Rattle.upload.proofs.moving.clear.Goals as goal

pub returns-then-not-is_folder-clause-ends : goal.returns-then-not-is_folder-clause-ends
returns-then-not-is_folder-clause-ends g c =
    let row = c.args.row.now in
    clears_nothing row.id (is_folder (item_of row.content)) is_upload _
    (sym c.is_folder.ensures ∙ c.if-not-is_folder.true) c.requires.found.ready

pub returns-in_err-moves-clause-ends : goal.returns-in_err-moves-clause-ends
returns-in_err-moves-clause-ends g c =
    let p = err_from_is_err_and c.from_residual.result c.from_residual.ensures.1 in
    rw (p.1, p.2) (does_starves (does_nothing is_upload _ c.requires.found.ready))

-- what is made are the moves out of the folder
pub make_each-requires-clause-allowed : goal.make_each-requires-clause-allowed
make_each-requires-clause-allowed g c =
    let d = (g.W.Session.now c.args.s.now).site in
    let row = c.args.row.now in
    subst (λ (cs : List Change). All IsAllowed cs)
    (sym (c.as_slice.ensures ∙ (c.in_ok-moves.ensures
    ∙ ap (λ (t : Tables). folder_gone_changes t row.id) c.tables.ensures)))
    (moves_allowed (filter (is_note_in row.id) d.tables.rows))

pub returns-clause-ends : goal.returns-clause-ends
returns-clause-ends g c =
    let now = g.W.Session.now in
    let d = (now c.args.s.now).site in
    let row = c.args.row.now in
    let folder = sym c.is_folder.ensures ∙ c.if-not-is_folder.false in
    let are = c.as_slice.ensures ∙ (c.in_ok-moves.ensures
    ∙ ap (λ (t : Tables). folder_gone_changes t row.id) c.tables.ensures) in
    ends_all row.id (is_folder (item_of row.content)) is_upload _ _ c.make_each.result folder
    (clears_if row.id c.as_slice.result.now is_upload (now c.args.s.now) _ c.make_each.result are
    (ends_unknown (ForEach Changes c.as_slice.result.now) is_upload (now c.args.s.now)
    (now c.make_each.new.self) c.make_each.result (g.met.W.Session.unshown c.args.s.now)
    (g.met.W.Session.unshown c.make_each.new.self)
    (c.make_each.ensures.ends None is_upload
    (λ shown fits.
    subst (λ (cs : List Change). MayMakeAll (view_of shown d) cs) (sym are)
    (moves_may (filter (is_note_in row.id) d.tables.rows) (view_of shown d) row.id row
    (is_going row d shown c.requires.found.found folder
    c.requires.found.ready.tidy.sound.rows_ordered)
    refl)))))

pub returns-clause-found : goal.returns-clause-found
returns-clause-found g c =
    let now = g.W.Session.now in
    let d = (now c.args.s.now).site in
    let row = c.args.row.now in
    let folder = sym c.is_folder.ensures ∙ c.if-not-is_folder.false in
    let are = c.as_slice.ensures ∙ (c.in_ok-moves.ensures
    ∙ ap (λ (t : Tables). folder_gone_changes t row.id) c.tables.ensures) in
    found_behind_moves row c.as_slice.result.now is_upload (now c.args.s.now) _ c.make_each.result
    c.requires.found.found folder c.requires.found.ready.tidy.sound.rows_ordered are
    (ends_unknown (ForEach Changes c.as_slice.result.now) is_upload (now c.args.s.now)
    (now c.make_each.new.self) c.make_each.result (g.met.W.Session.unshown c.args.s.now)
    (g.met.W.Session.unshown c.make_each.new.self)
    (c.make_each.ensures.ends None is_upload
    (λ shown fits.
    subst (λ (cs : List Change). MayMakeAll (view_of shown d) cs) (sym are)
    (moves_may (filter (is_note_in row.id) d.tables.rows) (view_of shown d) row.id row
    (is_going row d shown c.requires.found.found folder
    c.requires.found.ready.tidy.sound.rows_ordered)
    refl))))
