-- A text of letters that can be seen is a value of a pair.
use Rattle.std.proofs.Common.{◌≡◌, ℕ, ◌-◌, ◌≤◌, true, false, ◌==◌, nat_le, List, [], ◌∷◌, length, get_or, refl, arith}
use Rattle.std.specs.Char.{is_ascii_graphic}
use Rattle.std.proofs.lemmas.Bool.{and_parts, leb-true}
use Rattle.std.proofs.lemmas.Bool.Decides.{nat_tests}
use Rattle.std.proofs.lemmas.List.Sums.{AllPass-from_list_all}
use Rattle.item_text.proofs.Blanks.{trimmed_ends}
use Rattle.item_text.specs.Lines.{has, is_blank}
use Rattle.item_text.specs.Valid.{IsField}
use Rattle.jed_format.specs.Write.{are_visible}

above_blanks : (b : ℕ) → is_ascii_graphic b ≡ true → 33 ≤ b
above_blanks b seen = leb-true 33 b (and_parts (nat_le 33 b) (nat_le b 126) seen).0

no_blank : (b : ℕ) → is_ascii_graphic b ≡ true → is_blank b ≡ false
no_blank b seen =
    let low : 33 ≤ b = above_blanks b seen in
    let space : (b == 32) ≡ false = grind (arith, nat_tests) in
    let tab : (b == 9) ≡ false = grind (arith, nat_tests) in
    let vertical : (b == 11) ≡ false = grind (arith, nat_tests) in
    let form : (b == 12) ≡ false = grind (arith, nat_tests) in
    let carriage : (b == 13) ≡ false = grind (arith, nat_tests) in
    rw (space, tab, vertical, form, carriage) refl

one_line : (text : List ℕ) → are_visible text ≡ true → has 10 text ≡ false
one_line [] seen = refl
one_line (b ∷ text) seen =
    let parts = and_parts (is_ascii_graphic b) (are_visible text) seen in
    let low : 33 ≤ b = above_blanks b parts.0 in
    let feed : (b == 10) ≡ false = grind (arith, nat_tests) in
    rw feed (one_line text parts.1)

pub IsField-visible : (text : List ℕ) → are_visible text ≡ true → IsField text
IsField-visible text seen =
    let each = AllPass-from_list_all is_ascii_graphic text seen in
    record {
      one_line = one_line text seen;
      is_trimmed = trimmed_ends text (λ some. no_blank (get_or text 0 0) (each 0 0 some))
          (λ some. no_blank (get_or text (length text - 1) 0) (each (length text - 1) 0 (omega (arith, some))));
    }
