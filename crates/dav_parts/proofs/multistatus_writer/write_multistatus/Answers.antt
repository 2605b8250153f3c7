use Rattle.std.proofs.Common.{ap, sym, subst, ◌∙◌, ◌++◌, List, ℕ}
use Rattle.std.proofs.lemmas.List.{drop_all}
use Rattle.jop_target.specs.declared.reply.Entry.{Entry}
use Rattle.dav_parts.specs.Multistatus.{AreLines, IsMultistatus, ending}
use Rattle.dav_parts.proofs.LineLemmas.{lines_more}
use Rattle.dav_parts.proofs.multistatus_writer.write_multistatus.Goals as goal

pub loop-entry-preserved : goal.loop-entry-preserved
loop-entry-preserved c = λ rest lines.
    let line = c.in_ok-append_line.ensures in
    let more = lines_more c.args.dir c.args.entries.now c.loop-entry.entry-index c.entry-item.result
    line.0 rest c.loop-entry-test.true c.entry-item.is line.1 lines in
    subst (λ (t : List ℕ). IsMultistatus c.args.dir c.args.entries.now t) (sym (line.2 rest))
    (c.loop-entry.invariant _ more)

pub returns : goal.returns
returns c =
    let none = drop_all c.loop-entry.entry-index c.args.entries.now c.loop-entry-test.false in
    let whole = c.loop-entry.invariant ending
    (subst (λ (es : List Entry). AreLines c.args.dir es ending) (sym none) (λ i. ending)) in
    subst (λ (t : List ℕ). IsMultistatus c.args.dir c.args.entries.now t)
    (sym (c.in_ok-append.ensures.ok
    ∙ ap (λ (t : List ℕ). c.loop-entry.text ++ t) c.ending.ensures)) whole
