use Rattle.std.proofs.Common.{◌≡◌, ℕ, ◌<◌, true, List, length, get_or, arith, sym, subst}
use Rattle.std.proofs.lemmas.Str.{IsCharBoundary-start, IsCharBoundary-after_ascii}
use Rattle.std.proofs.lemmas.List.Sums.{prefix_len-drop_yes}
use Rattle.item_text.specs.Lines.{is_blank}
use Rattle.item_text.proofs.Blanks.{blank_ascii}
use Rattle.item_text.proofs.trim.trimmed_front.Goals as goal

pub loop-start-init : goal.loop-start-init
loop-start-init c = (IsCharBoundary-start c.args.text.now c.utf8.text, omega arith)

pub loop-start-preserved : goal.loop-start-preserved
loop-start-preserved c =
    let P : List ℕ → Type 0 = λ bytes. is_blank (get_or bytes c.loop-start.start 0) ≡ true in
    let blank = subst P c.as_bytes-bytes.ensures.value (sym c.if-is_blank.ensures) in
    let lt : c.loop-start.start < length c.args.text.now = omega arith in
    let step = prefix_len-drop_yes is_blank c.args.text.now c.loop-start.start 0 lt blank in (
      IsCharBoundary-after_ascii c.args.text.now c.loop-start.start c.utf8.text lt
          (blank_ascii _ blank),
      omega arith,
    )
