use Rattle.std.proofs.Common.{◌≡◌, ℕ, List, None, sym, ◌∙◌, subst}
use Rattle.std.specs.Str.{IsUtf8}
use Rattle.item_text.specs.Grammar.{written, ReadsAs, first_fault}
use Rattle.item_text.proofs.Again.{reads_again}
use Rattle.item_text.proofs.write.write_item.Goals as goal

pub returns-clause-again : goal.returns-clause-again
returns-clause-again c =
    let same : c.into_bytes.result ≡ written c.args.item.now = c.into_bytes.ensures.bytes
    ∙ c.in_ok-text.ensures in
    let P : List ℕ → Type 0 = λ bytes. ReadsAs bytes c.args.item.now × (first_fault bytes ≡ None) in
    let Q : List ℕ → Type 0 = λ bytes. IsUtf8 bytes in
    subst P (sym same)
    (reads_again c.args.item.now c.requires (subst Q same c.into_bytes.ensures.utf8))
