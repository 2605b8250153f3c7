use Rattle.std.proofs.Common.{sym, ap, subst, ◌≡◌, ◌∙◌, ◌++◌, List, ℕ}
use Rattle.dav_parts.specs.Targets.{is_blob_target}
use Rattle.dav_parts.proofs.BytesLemmas.{blob_named, no_blob}
use Rattle.dav_parts.proofs.target.is_blob_target.Goals as goal

pub returns-in-Some : goal.returns-in-Some
returns-in-Some c = c.is_some.ensures
    ∙ blob_named c.in-Some.name.now c.read.result c.read.ensures.some c.read.ensures.none
    ∙ ap is_blob_target (ap (λ (t : List ℕ). t ++ c.in-Some.name.now) (sym c.dir_target.ensures)
    ∙ sym c.in-Some.ensures.some)

pub returns-in-None : goal.returns-in-None
returns-in-None c = no_blob c.args.target.now
    (subst (λ (t : List ℕ). (name : List ℕ) → ¬ (c.args.target.now ≡ t ++ name))
    c.dir_target.ensures c.in-None.ensures.none)
