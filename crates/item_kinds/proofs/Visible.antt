-- Texts of visible ASCII letters: they are UTF-8, and fields of an item.
use Rattle.std.proofs.Common.{◌≡◌, ℕ, zero, suc, ◌+◌, ◌-◌, ◌/◌, ◌%◌, ◌<◌, ◌≤◌, false, eqb, List, [], ◌∷◌, ◌++◌, length, get_or, drop, take, refl, ap, ◌∙◌, arith}
use Rattle.std.specs.List.{AllByRecursion, prefix_len, suffix_len}
use Rattle.std.specs.Str.{IsAscii, IsUtf8}
use Rattle.std.proofs.lemmas.Str.{IsUtf8-from_ascii}
use Rattle.std.proofs.lemmas.Bool.{or_from, cond-false}
use Rattle.std.proofs.lemmas.Bool.Decides.{nat_tests}
use Rattle.std.proofs.lemmas.List.{take_all}
use Rattle.std.proofs.lemmas.List.Sums.{suffix_len_is}
use Rattle.item_text.specs.Lines.{has, is_blank, trimmed_end, trimmed}
use Rattle.item_text.specs.Valid.{IsField}
use Rattle.item_kinds.specs.Calendar.{Date, date_after}
use Rattle.item_kinds.specs.Times.{two_digits, three_digits, four_digits, date_text, clock_text, time_text}
use Rattle.item_kinds.proofs.Days.{IsReal, counted, days_bound}

-- each byte is a visible ASCII letter
abbrev pub AreVisible : List ℕ → Type 0
AreVisible text = AllByRecursion (λ b. (33 ≤ b) × (b ≤ 126)) text

pub both_visible : (xs ys : List ℕ) → AreVisible xs → AreVisible ys → AreVisible (xs ++ ys)
both_visible [] ys h k = k
both_visible (x ∷ xs) ys h k = (h.0, both_visible xs ys h.1 k)

visible_at : (text : List ℕ) (i d : ℕ) → AreVisible text → i < length text
    → (33 ≤ get_or text i d) × (get_or text i d ≤ 126)
visible_at [] i d h lt = absurd (omega arith)
visible_at (b ∷ bs) zero d h lt = h.0
visible_at (b ∷ bs) (suc i) d h lt = visible_at bs i d h.1 (omega arith)

visible_ascii : (text : List ℕ) → AreVisible text → IsAscii text
visible_ascii [] h i = omega arith
visible_ascii (b ∷ bs) h zero = omega (arith, h.0.1)
visible_ascii (b ∷ bs) h (suc i) = visible_ascii bs h.1 i

pub visible_utf8 : (text : List ℕ) → AreVisible text → IsUtf8 text
visible_utf8 text h = IsUtf8-from_ascii text (visible_ascii text h)

visible_line : (text : List ℕ) → AreVisible text → has 10 text ≡ false
visible_line [] h = refl
visible_line (b ∷ bs) h = let low = h.0.0 in
    or_from (eqb b 10) (has 10 bs) (grind (arith, nat_tests)) (visible_line bs h.1)

not_blank : (b : ℕ) → 33 ≤ b → is_blank b ≡ false
not_blank b h = grind (arith, nat_tests)

front_zero : (text : List ℕ) → AreVisible text → prefix_len is_blank text ≡ 0
front_zero [] h = refl
front_zero (b ∷ bs) h = cond-false (is_blank b) (1 + prefix_len is_blank bs) 0 (not_blank b h.0.0)

end_zero : (text : List ℕ) → AreVisible text → suffix_len is_blank text ≡ 0
end_zero text h =
    suffix_len_is is_blank text (length text) 0 (omega arith) (λ k a b. absurd (omega arith))
    (λ some. not_blank _ (visible_at text (length text - 1) 0 h (omega arith)).0) ∙ omega arith

visible_trimmed : (text : List ℕ) → AreVisible text → trimmed text ≡ text
unfolding trimmed
visible_trimmed text h =
    ap trimmed_end (ap (λ (n : ℕ). drop n text) (front_zero text h))
    ∙ ap (λ (n : ℕ). take (length text - n) text) (end_zero text h)
    ∙ take_all (length text - 0) text (omega arith)

pub visible_field : (text : List ℕ) → AreVisible text → IsField text
visible_field text h =
    record { one_line = visible_line text h; is_trimmed = visible_trimmed text h }

-- ---- digits and times

two_visible : (n : ℕ) → n < 100 → AreVisible (two_digits n)
two_visible n h = ((omega arith, omega arith), ((omega arith, omega arith), tt))

three_visible : (n : ℕ) → n < 1_000 → AreVisible (three_digits n)
three_visible n h = ((omega arith, omega arith), two_visible (n % 100) (omega arith))

four_visible : (n : ℕ) → n < 10_000 → AreVisible (four_digits n)
four_visible n h =
    both_visible (two_digits (n / 100)) (two_digits (n % 100)) (two_visible (n / 100) (omega arith))
    (two_visible (n % 100) (omega arith))

dash : (33 ≤ 45) × (45 ≤ 126)
dash = (omega arith, omega arith)

date_visible : (d : Date) → IsReal d → AreVisible (date_text d)
date_visible d h =
    let day = two_visible d.day
    (let high = h.day_high in let long = days_bound d.year d.month in omega (arith, high, long))
    in
    let month = two_visible d.month (let high = h.month_high in omega (arith, high)) in
    let year = four_visible d.year (let high = h.to_9999 in omega (arith, high)) in
    both_visible (four_digits d.year ++ 45 ∷ two_digits d.month) (45 ∷ two_digits d.day)
    (both_visible (four_digits d.year) (45 ∷ two_digits d.month) year (dash, month)) (dash, day)

clock_visible : (millis : ℕ) → millis < 86_400_000 → AreVisible (clock_text millis)
clock_visible millis h =
    let hour = two_visible (millis / 3_600_000) (omega arith) in
    let minute = two_visible (millis / 60_000 % 60) (omega arith) in
    let second = two_visible (millis / 1_000 % 60) (omega arith) in
    let milli = three_visible (millis % 1_000) (omega arith) in (
      hour.0,
      (
        hour.1.0,
        (
          (omega arith, omega arith),
          (
            minute.0,
            (
              minute.1.0,
              (
                (omega arith, omega arith),
                (second.0, (second.1.0, ((omega arith, omega arith), milli))),
              ),
            ),
          ),
        ),
      ),
    )

pub time_visible : (t : ℕ) → t ≤ 253_402_300_799_999 → AreVisible (time_text t)
unfolding time_text
time_visible t fits =
    let date : AreVisible (date_text (date_after (t / 86_400_000))) =
    date_visible (date_after (t / 86_400_000)) (counted (t / 86_400_000) (omega arith)).real in
    let clock : AreVisible (clock_text (t % 86_400_000)) =
    clock_visible (t % 86_400_000) (omega arith) in
    both_visible (date_text (date_after (t / 86_400_000)) ++ 84 ∷ clock_text (t % 86_400_000))
    (90 ∷ []) (both_visible (date_text (date_after (t / 86_400_000)))
    (84 ∷ clock_text (t % 86_400_000)) date ((omega arith, omega arith), clock))
    ((omega arith, omega arith), tt)
