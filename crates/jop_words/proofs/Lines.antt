-- Words that stand on a line.
use Rattle.std.specs.Prelude.{◌≡◌, ℕ, List, Bool, true, false, not, ◌&&◌, refl}
use Rattle.item_kinds.specs.Made.{IsLine}
use Rattle.item_text.specs.Lines.{has}
use Rattle.jop_words.specs.Local.{is_line}

neither : (a b : Bool) → (not a && not b) ≡ true → (a ≡ false) × (b ≡ false)
neither true b is = cc is
neither false true is = cc is
neither false false is = (refl, refl)

pub line_of : (word : List ℕ) → is_line word ≡ true → IsLine word
line_of word is =
    let none = neither (has 10 word) (has 13 word) is in
    record { no_feed = none.0; no_return = none.1 }
