use Rattle.std.proofs.Common.{ℕ, List, ◌∷◌, ◌++◌, ◌<◌, length, get_or, arith, sym, ap, ◌∙◌}
use Rattle.std.proofs.lemmas.Str.{IsCharBoundary-after_ascii}
use Rattle.item_text.proofs.Walked.{first_part_split, first_part_feed, first_part_rest}
use Rattle.item_text.proofs.block.below.Goals as goal

pub range_from-requires : goal.range_from-requires
range_from-requires c = λ _.
    let text = c.args.text.now in
    let part = c.args.part.now in
    let cut = first_part_split text part c.requires c.if-text-part.false in
    let feed = first_part_feed text part cut.0 cut.1 in
    let ascii : get_or text (length part) 0 < 128 = omega (arith, feed.1) in
    IsCharBoundary-after_ascii text (length part) c.utf8.text feed.0 ascii

pub returns : goal.returns
returns c =
    let text = c.args.text.now in
    let part = c.args.part.now in
    let cut = first_part_split text part c.requires c.if-text-part.false in
    first_part_rest text part cut.0 cut.1
    ∙ ap (λ (x : List ℕ). part ++ 10 ∷ x) (sym c.range_from.ensures.value)
