use Rattle.std.proofs.Common.{◌∙◌, ap, ℕ, List, ◌++◌, drop, length}
use Rattle.std.specs.Prelude.{replicate}
use Rattle.std.proofs.lemmas.List.{drop-replicate}
use Rattle.local_commands.proofs.id_start.pad.Goals as goal

pub returns : goal.returns
returns c =
    let text = c.args.text.now in
    ap (λ (digits : List ℕ). digits ++ drop (length text) (replicate 32 48))
    c.copy_from_slice.ensures.after
    ∙ ap (λ (zeros : List ℕ). text ++ zeros) (drop-replicate (length text) 32 48)
