use Rattle.std.proofs.Common.{◌≡◌, ℕ, List, false, nat_lt, length, Option, slice_index, refl, arith}
use Rattle.std.proofs.lemmas.Bool.Decides.{nat_tests}
use Rattle.jed_text.specs.Hexadecimal.{number_of_two, number_of_four}
use Rattle.jed_format.specs.Jed.{six_of, length_in}
use Rattle.jed_format.proofs.header.length_in.Goals as goal

number_at : (text : List ℕ) (a b p q r s : ℕ) (high low read : Option ℕ)
    → nat_lt (length text) 6 ≡ false
    → a ≡ slice_index text 0 → b ≡ slice_index text 1 → p ≡ slice_index text 2
    → q ≡ slice_index text 3 → r ≡ slice_index text 4 → s ≡ slice_index text 5
    → high ≡ number_of_two a b → low ≡ number_of_four p q r s → read ≡ six_of high low
    → read ≡ length_in text
number_at text a b p q r s high low read long ea eb ep eq er es eh el e =
    rw (e, eh, el, ea, eb, ep, eq, er, es, long) refl

pub returns-clause-number : goal.returns-clause-number
returns-clause-number c =
    let long : nat_lt (length c.args.text.now) 6 ≡ false = grind (arith, nat_tests) in
    number_at c.args.text.now _ _ _ _ _ _ _ _ _ long c.from.ensures c.from-2.ensures c.from-3.ensures
    c.from-4.ensures c.from-5.ensures c.from-6.ensures c.two_digits.ensures.number c.four_digits.ensures
    c.six_of.ensures.number
