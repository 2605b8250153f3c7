use Rattle.std.proofs.Common.{◌∙◌, List, ℕ, sym, subst}
use Rattle.std.specs.List.{All}
use Rattle.jed_sealing.proofs.Short.{short_pieces}
use Rattle.jed_sealing.proofs.Whole.{ShortPiece, pieces_brief, text_sealed}
use Rattle.jed_sealing.proofs.texts.seal_text.Goals as goal

pub returns-clause-sealed : goal.returns-clause-sealed
returns-clause-sealed g c =
    let sealed = c.in_ok-chunks.ensures.sealed in
    text_sealed c.args.key.now c.args.digits.now c.args.text.now c.deref.result.now c.in_ok-chunks.chunks sealed.bytes
    (c.deref.ensures.value ∙ c.in_ok-pieces.ensures) c.prove_text.ensures sealed.long sealed.is

pub returns-clause-brief : goal.returns-clause-brief
returns-clause-brief g c =
    let sealed = c.in_ok-chunks.ensures.sealed in
    let P : List (List ℕ) → Type 0 = All ShortPiece in
    let short = subst P (sym (c.deref.ensures.value ∙ c.in_ok-pieces.ensures)) (short_pieces c.args.text.now) in
    pieces_brief c.args.key.now c.args.digits.now c.deref.result.now c.in_ok-chunks.chunks sealed.bytes short sealed.long
    sealed.is
