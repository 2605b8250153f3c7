-- Files that stand in order without rising hold one twice, so in no order do they rise.
use Rattle.std.proofs.Common.{◌≡◌, ◌∙◌, refl, sym, ap, subst, arith, ℕ, ◌+◌, ◌<◌, ◌≤◌, List, [], ◌∷◌, length, take, drop, get_or, Bool, true, false, cond, take-append-drop}
use Rattle.std.specs.Prelude.{IsPermutation, bytes_eq, count_by}
use Rattle.std.specs.List.Sorted.{IsSorted as IsOrdered}
use Rattle.std.proofs.lemmas.List.Sums.{count_by_more_yes, sum_by-append}
use Rattle.std.proofs.lemmas.List.Sorted.{sum_by-IsPermutation}
use Rattle.jop_base.specs.Keyed.{IsAfter, text_lt}
use Rattle.jop_base.specs.Order.{path_cmp}
use Rattle.jop_base.proofs.KeyedLaws.{bytes_eq-refl, bytes_eq-sym, bytes_eq-text_lt, same_text, text_lt-total, text_lt-trans}
use Rattle.jop_target.specs.Replies.{IsRising}
use Rattle.jop_target.specs.Store.{entry_key}
use Rattle.jop_target.specs.declared.reply.Entry.{Entry}
use Rattle.dav_listing.proofs.Rises.{IsRising-from_adjacent, stands_before}

abbrev is_at : List ℕ → Entry → Bool
is_at key e = bytes_eq (entry_key e) key

count_cons : (key : List ℕ) (e : Entry) (es : List Entry)
    → count_by (is_at key) (e ∷ es) ≡ count_by (is_at key) (e ∷ []) + count_by (is_at key) es
count_cons key e es = sum_by-append (λ (f : Entry). cond (is_at key f) 1 0) (e ∷ []) es

one_other : (key : List ℕ) (e : Entry) → is_at key e ≡ false → count_by (is_at key) (e ∷ []) ≡ 0
one_other key e h = ap (λ (b : Bool). 0 + cond b 1 0) h

one_most : (key : List ℕ) (e : Entry) → count_by (is_at key) (e ∷ []) ≤ 1
one_most key e = at (is_at key e)
  where
    at : (b : Bool) → 0 + cond b 1 0 ≤ 1
    at true = omega arith
    at false = omega arith

pub after_later : (key : List ℕ) (e : Entry) (es : List Entry) → text_lt key (entry_key e) ≡ true
    → IsAfter entry_key (entry_key e) es → IsAfter entry_key key es
after_later key e [] h k = tt
after_later key e (f ∷ fs) h k = text_lt-trans key (entry_key e) (entry_key f) h k

none_after : (key : List ℕ) (es : List Entry) → IsAfter entry_key key es → IsRising es
    → count_by (is_at key) es ≡ 0
none_after key [] h k = refl
none_after key (e ∷ es) h k =
    let other = one_other key e (bytes_eq-sym key (entry_key e) (bytes_eq-text_lt key (entry_key e) h)) in
    let rest = none_after key es (after_later key e es h k.0) k.1 in
    omega (arith, count_cons key e es, other, rest)

first_and : (key : List ℕ) (e : Entry) (es : List Entry) (b : Bool) → is_at key e ≡ b
    → IsAfter entry_key (entry_key e) es → IsRising es → count_by (is_at key) es ≤ 1
    → count_by (is_at key) (e ∷ es) ≤ 1
first_and key e es true is after rising once =
    let same : entry_key e ≡ key = same_text (entry_key e) key is in
    let none = none_after key es (subst (λ (k : List ℕ). IsAfter entry_key k es) same after) rising in
    omega (arith, count_cons key e es, one_most key e, none)
first_and key e es false is after rising once =
    omega (arith, count_cons key e es, one_other key e is, once)

at_most_once : (key : List ℕ) (es : List Entry) → IsRising es → count_by (is_at key) es ≤ 1
at_most_once key [] h = omega arith
at_most_once key (e ∷ es) h =
    first_and key e es (is_at key e) refl h.0 h.1 (at_most_once key es h.1)

count_first : (key : List ℕ) (es : List Entry) (n : ℕ)
    → count_by (is_at key) (take n es) ≤ count_by (is_at key) es
count_first key es n =
    let whole : count_by (is_at key) es
    ≡ count_by (is_at key) (take n es) + count_by (is_at key) (drop n es) =
    ap (λ (fs : List Entry). count_by (is_at key) fs) (sym (take-append-drop n es))
    ∙ sum_by-append (λ (f : Entry). cond (is_at key f) 1 0) (take n es) (drop n es) in
    omega (arith, whole)

twice : (key : List ℕ) (es : List Entry) (k : ℕ) (d : Entry) → k + 1 < length es
    → is_at key (get_or es k d) ≡ true → is_at key (get_or es (k + 1) d) ≡ true
    → 2 ≤ count_by (is_at key) es
twice key es k d lt first second =
    omega (
      arith,
      count_by_more_yes (is_at key) es k d (omega arith) first,
      count_by_more_yes (is_at key) es (k + 1) d lt second,
      count_first key es (k + 1 + 1),
    )

pub rises_sorted : (es fs : List Entry) → IsOrdered (λ e f. path_cmp e.path f.path) es
    → IsPermutation es fs → IsRising fs → IsRising es
unfolding path_cmp
rises_sorted es fs sorted same rising =
    IsRising-from_adjacent es (λ k d lt. sym (before k d lt (stands_before (get_or es k d) (get_or es (k + 1) d)) refl))
  where
    before : (k : ℕ) (d : Entry) → k + 1 < length es → (b : Bool)
        → stands_before (get_or es k d) (get_or es (k + 1) d) ≡ b
        → stands_before (get_or es k d) (get_or es (k + 1) d) ≡ true
    before k d lt true is = is
    before k d lt false is = by_key (bytes_eq (entry_key (get_or es k d)) (entry_key (get_or es (k + 1) d))) refl
      where
        by_key : (b : Bool) → bytes_eq (entry_key (get_or es k d)) (entry_key (get_or es (k + 1) d)) ≡ b
            → stands_before (get_or es k d) (get_or es (k + 1) d) ≡ true
        by_key false other =
            text_lt-total (entry_key (get_or es k d)) (entry_key (get_or es (k + 1) d)) other
            (sorted k d (omega arith) lt)
        by_key true equal =
            let key = entry_key (get_or es (k + 1) d) in
            absurd (omega (
              arith,
              twice key es k d lt equal (bytes_eq-refl key),
              sum_by-IsPermutation (λ (f : Entry). cond (is_at key f) 1 0) es fs same,
              at_most_once key fs rising,
            ))
