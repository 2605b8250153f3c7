use Rattle.std.proofs.Common.{sym, subst, ◌∙◌}
use Rattle.std.proofs.lemmas.Bool.{false≢true}
use Rattle.jop_target.specs.declared.reply.Entry.{Entry}
use Rattle.dav_parts.specs.Multistatus.{ComesAfter}
use Rattle.dav_parts.proofs.BytesLemmas.{bytes_eq_same}
use Rattle.dav_parts.proofs.LineLemmas.{line_unique}
use Rattle.reply_reader.proofs.line.read_line.Goals as goal

pub returns-in-None : goal.returns-in-None
returns-in-None c = (
  λ e. false≢true (sym c.if-eq.false ∙ c.eq.ensures
      ∙ bytes_eq_same _ _ (e ∙ sym c.ending.ensures)),
  λ entry rest h follows. c.in-None.ensures.none entry rest h,
)

pub returns-else-follows : goal.returns-else-follows
returns-else-follows c = (
  λ e. false≢true (sym c.if-eq.false ∙ c.eq.ensures
      ∙ bytes_eq_same _ _ (e ∙ sym c.ending.ensures)),
  λ entry rest h follows.
      let same = line_unique c.args.dir entry c.in-Some.entry c.args.line.now rest
      c.in-Some.field-0-1.now h c.in-Some.ensures.some in
      false≢true (sym c.if-follows.false ∙ c.follows.ensures.1
      (subst (λ (e : Entry). ComesAfter c.args.before.now e) same.0 follows)),
)
