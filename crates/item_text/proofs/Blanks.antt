-- Trimming, step by step, and what it leaves.
use Rattle.std.proofs.Common.{◌≡◌, ℕ, ◌+◌, ◌-◌, ◌<◌, ◌≤◌, true, false, List, [], ◌∷◌, length, get_or, take, drop, reverse, refl, sym, ap, ◌∙◌, arith, inl, inr}
use Rattle.std.specs.List.{prefix_len, suffix_len}
use Rattle.std.proofs.lemmas.Bool.{false≢true, cases_lt, ne_eqb, not_from_false, cond-false}
use Rattle.std.proofs.lemmas.Bool.Decides.{nat_tests}
use Rattle.std.proofs.lemmas.List.{length-take, length-drop, length-reverse, get_or-take, get_or-drop, get_or-reverse, take_all}
use Rattle.std.proofs.lemmas.List.Sums.{prefix_len_passes, prefix_len_stops, suffix_len_is}
use Rattle.item_text.specs.Lines.{is_blank, trimmed_front, trimmed_end, trimmed, has_text}

pub blank_ascii : (b : ℕ) → is_blank b ≡ true → b < 128
blank_ascii b h = grind (arith, nat_tests)

-- what isn't blank ends the blanks at the start, and at the end
prefix_ends : (text : List ℕ) (i : ℕ) → is_blank (get_or text i 0) ≡ false
    → prefix_len is_blank text ≤ i
prefix_ends text i h =
    elim (cases_lt i (prefix_len is_blank text)) [
      | inl lt ↦ absurd (false≢true (sym h ∙ prefix_len_passes is_blank text i 0 lt))
      | inr le ↦ le
    ]

suffix_ends : (text : List ℕ) (i : ℕ) → i < length text → is_blank (get_or text i 0) ≡ false
    → i + suffix_len is_blank text < length text
suffix_ends text i lt h =
    let k : ℕ = length text - 1 - i in
    let back : length text - 1 - k ≡ i = omega arith in
    let same : get_or (reverse text) k 0 ≡ get_or text i 0 = get_or-reverse text k 0 (omega arith)
    ∙ ap (λ (n : ℕ). get_or text n 0) back in
    let le : suffix_len is_blank text ≤ k = prefix_ends (reverse text) k (ap is_blank same ∙ h) in
    omega arith

-- a line with a byte that isn't blank has text
pub text_at : (line : List ℕ) (i : ℕ) → i < length line → is_blank (get_or line i 0) ≡ false
    → has_text line ≡ true
unfolding has_text trimmed
text_at line i lt h =
    let n : ℕ = prefix_len is_blank line in
    let front : n ≤ i = prefix_ends line i h in
    let rest : List ℕ = drop n line in
    let there : get_or rest (i - n) 0 ≡ get_or line i 0 = get_or-drop n line (i - n) 0
    ∙ ap (λ (j : ℕ). get_or line j 0) (omega arith) in
    let long : length rest ≡ length line - n = length-drop n line in
    let end : (i - n) + suffix_len is_blank rest < length rest =
    suffix_ends rest (i - n) (omega arith) (ap is_blank there ∙ h) in
    let left = length-take (length rest - suffix_len is_blank rest) rest in
    not_from_false _ (ne_eqb (length (trimmed_end rest)) 0 (λ none. omega arith))

-- ---- trimming twice

plus_none : (n : ℕ) → n + 0 ≡ n
plus_none n = omega arith

-- what isn't blank stands behind the blanks at the start, if anything does
front_stops : (text : List ℕ) → 0 < length (trimmed_front text)
    → is_blank (get_or (trimmed_front text) 0 0) ≡ false
front_stops text some =
    let n : ℕ = prefix_len is_blank text in
    let lt : n < length text = omega (arith, length-drop n text) in
    ap is_blank (get_or-drop n text 0 0 ∙ ap (λ (j : ℕ). get_or text j 0) (plus_none n))
    ∙ prefix_len_stops is_blank text 0 lt

length_end : (text : List ℕ) → length (trimmed_end text) ≡ length text - suffix_len is_blank text
length_end text = let e = length-take (length text - suffix_len is_blank text) text in omega arith

end_stops : (text : List ℕ) → 0 < length (trimmed_end text)
    → is_blank (get_or (trimmed_end text) (length (trimmed_end text) - 1) 0) ≡ false
end_stops text some =
    let s : ℕ = suffix_len is_blank text in
    let long = length_end text in
    let lt : s < length (reverse text) = omega (arith, length-reverse text) in
    let place : length text - 1 - s ≡ length (trimmed_end text) - 1 = omega arith in
    let at : get_or (trimmed_end text) (length (trimmed_end text) - 1) 0
    ≡ get_or (reverse text) s 0 =
    get_or-take (length text - s) text (length (trimmed_end text) - 1) 0 (omega arith)
    ∙ ap (λ (j : ℕ). get_or text j 0) (sym place)
    ∙ sym (get_or-reverse text s 0 (omega arith)) in
    ap is_blank at ∙ prefix_len_stops is_blank (reverse text) 0 lt

prefix_zero : (text : List ℕ) → (0 < length text → is_blank (get_or text 0 0) ≡ false)
    → prefix_len is_blank text ≡ 0
prefix_zero [] h = refl
prefix_zero (b ∷ bs) h = cond-false (is_blank b) (1 + prefix_len is_blank bs) 0 (h (omega arith))

suffix_zero : (text : List ℕ)
    → (0 < length text → is_blank (get_or text (length text - 1) 0) ≡ false)
    → suffix_len is_blank text ≡ 0
suffix_zero text h =
    suffix_len_is is_blank text (length text) 0 (omega arith) (λ k a b. absurd (omega arith)) h
    ∙ omega arith

unblanked : (text : List ℕ) → prefix_len is_blank text ≡ 0 → suffix_len is_blank text ≡ 0
    → trimmed text ≡ text
unfolding trimmed
unblanked text a b =
    ap trimmed_end (ap (λ (n : ℕ). drop n text) a)
    ∙ ap (λ (n : ℕ). take (length text - n) text) b
    ∙ take_all (length text - 0) text (omega arith)

-- what has no blank at either end is trimmed
pub trimmed_ends : (text : List ℕ) → (0 < length text → is_blank (get_or text 0 0) ≡ false)
    → (0 < length text → is_blank (get_or text (length text - 1) 0) ≡ false) → trimmed text ≡ text
trimmed_ends text first last = unblanked text (prefix_zero text first) (suffix_zero text last)

-- and what is trimmed has none
pub trimmed_first : (text : List ℕ) → 0 < length (trimmed text)
    → is_blank (get_or (trimmed text) 0 0) ≡ false
unfolding trimmed
trimmed_first text some =
    let front : List ℕ = trimmed_front text in
    let long = length_end front in
    ap is_blank (get_or-take (length front - suffix_len is_blank front) front 0 0 (omega arith))
    ∙ front_stops text (omega arith)

pub trimmed_last : (text : List ℕ) → 0 < length (trimmed text)
    → is_blank (get_or (trimmed text) (length (trimmed text) - 1) 0) ≡ false
unfolding trimmed
trimmed_last text some = end_stops (trimmed_front text) some

-- what is trimmed stays when it is trimmed again
pub trimmed-trimmed : (text : List ℕ) → trimmed (trimmed text) ≡ trimmed text
trimmed-trimmed text = trimmed_ends (trimmed text) (trimmed_first text) (trimmed_last text)

pub trimmed-nil : trimmed [] ≡ []
unfolding trimmed
trimmed-nil = refl
