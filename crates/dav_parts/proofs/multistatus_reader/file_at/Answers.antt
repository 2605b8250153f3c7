use Rattle.std.proofs.Common.{List, ℕ, IfSome, IfNone, sym, subst}
use Rattle.jop_base.specs.Paths.{file_name}
use Rattle.jop_target.specs.declared.reply.Entry.{Entry}
use Rattle.dav_parts.specs.Multistatus.{IsFileAt}
use Rattle.dav_parts.proofs.PathLemmas.{name_opens_not}
use Rattle.dav_parts.proofs.multistatus_reader.file_at.Goals as goal

pub returns-in-None-clause-none : goal.returns-in-None-clause-none
returns-in-None-clause-none c = λ entry rest h.
    c.in-None.ensures.none (file_name entry.path) _ (name_opens_not entry.path h.path) h.line

pub returns-in-Some-clause-some : goal.returns-in-Some-clause-some
returns-in-Some-clause-some c =
    subst (λ (t : List ℕ). IfSome c.named_file.result (λ cut.
    IsFileAt c.args.dir cut.0 t cut.1.now)) (sym c.in-Some.ensures.some.0) c.named_file.ensures.some

pub returns-in-Some-clause-none : goal.returns-in-Some-clause-none
returns-in-Some-clause-none c =
    subst (λ (t : List ℕ). IfNone c.named_file.result ((entry : Entry) (rest : List ℕ)
    → IsFileAt c.args.dir entry t rest → ⊥)) (sym c.in-Some.ensures.some.0) c.named_file.ensures.none
