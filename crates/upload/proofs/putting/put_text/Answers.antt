use Rattle.std.specs.Prelude.{List, refl, ℕ}
use Rattle.std.proofs.Common.{◌∙◌, ap, subst, sym}
use Rattle.std.proofs.lemmas.Result.{err_from_is_err_and}
use Rattle.item_text.specs.Grammar.{written}
use Rattle.item_text.specs.Valid.{IsItem}
use Rattle.item_text.specs.declared.item.Item.{Item}
use Rattle.jop_base.specs.declared.path.Path.TheVariants as paths
use Rattle.jop_target.specs.declared.call.Call.TheVariants.{Put}
use Rattle.session.proofs.Ending.{does_as, does_nothing, does_starves}
use Rattle.session.specs.Doing.{Does}
use Rattle.session.specs.Parts.{Hears}
use Rattle.session.specs.Work.{view_of}
use Rattle.upload.proofs.Licensed.{may_put, text_put, valid_item}
use Rattle.upload.specs.Uploading.{PutsText, is_upload}
use Rattle.upload.proofs.putting.put_text.Goals as goal

pub write_item-requires : goal.write_item-requires
write_item-requires g c =
    let d = (g.W.Session.now c.args.s.now).site in
    subst IsItem (sym c.item.ensures)
    (valid_item d.tables c.args.row.now c.requires.may.ready.tidy.sound c.requires.may.found.at)

pub returns-in_err-text-clause-ends : goal.returns-in_err-text-clause-ends
returns-in_err-text-clause-ends g c =
    let p = err_from_is_err_and c.from_residual.result c.from_residual.ensures.1 in
    rw (p.1, p.2) (does_starves (does_nothing is_upload _ c.requires.may.ready))

pub returns-in_err-copy-clause-ends : goal.returns-in_err-copy-clause-ends
returns-in_err-copy-clause-ends g c =
    let p = err_from_is_err_and c.from_residual-in_err-copy.result
    c.from_residual-in_err-copy.ensures.1 in
    rw (p.1, p.2) (does_starves (does_nothing is_upload _ c.requires.may.ready))

pub ask-requires-clause-may : goal.ask-requires-clause-may
ask-requires-clause-may g c = λ shown.
    may_put c.args.row.now (g.W.Session.now c.args.s.now).site _ shown c.requires.may.found
    c.requires.may.readable
    (c.in_ok-copy.ensures ∙ (c.in_ok-text.ensures.written
    ∙ ap (λ (item : Item). written item) c.item.ensures))

pub returns-in_err-ask-clause-ends : goal.returns-in_err-ask-clause-ends
returns-in_err-ask-clause-ends g c =
    let p = err_from_is_err_and c.from_residual-in_err-ask.result
    c.from_residual-in_err-ask.ensures.1 in
    rw (p.1, p.2) (c.in_err-ask.ensures.ends is_upload refl)

pub returns-clause-text : goal.returns-clause-text
returns-clause-text g c =
    c.in_ok-text.ensures.written ∙ ap (λ (item : Item). written item) c.item.ensures

pub returns-clause-ends : goal.returns-clause-ends
returns-clause-ends g c =
    let now = g.W.Session.now in
    let id = c.args.row.now.id in
    let old = now c.args.s.now in
    let heard = c.in_ok-ask.ensures.ends is_upload refl in
    subst (λ (text : List ℕ). Does (PutsText id text) is_upload old (now c.ask.new.self))
    (c.in_ok-copy.ensures ∙ (c.in_ok-text.ensures.written
    ∙ ap (λ (item : Item). written item) c.item.ensures))
    (does_as (Hears (Put (paths.Item id) _) heard.reply) (PutsText id _) is_upload old _
    (λ shown ds it. text_put id _ heard.reply heard.answer (view_of shown old.site) ds it)
    heard.does)
