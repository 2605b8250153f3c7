-- A text reads as one time only.
use Rattle.std.proofs.Common.{◌≡◌, ℕ, ◌+◌, ◌/◌, ◌%◌, ◌≤◌, List, length, get_or, sym, ap, ◌∙◌, arith, inl, inr, pos}
use Rattle.jiff.proofs.SpanFacts.{signed_arith}
use Rattle.jiff.proofs.Family.{epoch_day_same}
use Rattle.item_kinds.specs.Calendar.{date_after}
use Rattle.item_kinds.specs.Times.{time_text, IsTime}
use Rattle.item_kinds.proofs.Days.{civil, counted}

two_same : (a b : ℕ) → 48 + a / 10 ≡ 48 + b / 10 → 48 + a % 10 ≡ 48 + b % 10 → a ≡ b
two_same a b h k = omega (arith, h, k)

three_same : (a b : ℕ) → 48 + a / 100 ≡ 48 + b / 100 → 48 + a % 100 / 10 ≡ 48 + b % 100 / 10
    → 48 + a % 100 % 10 ≡ 48 + b % 100 % 10 → a ≡ b
three_same a b h k l = let rest = two_same (a % 100) (b % 100) k l in omega (arith, h, rest)

four_same : (a b : ℕ) → 48 + a / 100 / 10 ≡ 48 + b / 100 / 10
    → 48 + a / 100 % 10 ≡ 48 + b / 100 % 10 → 48 + a % 100 / 10 ≡ 48 + b % 100 / 10
    → 48 + a % 100 % 10 ≡ 48 + b % 100 % 10 → a ≡ b
four_same a b h k l m = let front = two_same (a / 100) (b / 100) h k in
    let rest = two_same (a % 100) (b % 100) l m in omega (arith, front, rest)

day_same : (n m : ℕ) → n ≤ 2_932_896 → m ≤ 2_932_896 → (date_after n).year ≡ (date_after m).year
    → (date_after n).month ≡ (date_after m).month → (date_after n).day ≡ (date_after m).day → n ≡ m
day_same n m a b year month day =
    let known = counted n a in
    let other = counted m b in
    let same = epoch_day_same (civil (date_after n) known.real) (civil (date_after m) other.real)
    (ap pos year) month day in
    omega (arith, signed_arith, sym known.count ∙ (same ∙ other.count))

clock_same : (r q : ℕ) → r / 3_600_000 ≡ q / 3_600_000 → r / 60_000 % 60 ≡ q / 60_000 % 60
    → r / 1_000 % 60 ≡ q / 1_000 % 60 → r % 1_000 ≡ q % 1_000 → r ≡ q
clock_same r q h m s f =
    let seconds : r / 60_000 ≡ q / 60_000 = omega (arith, h, m) in
    let millis : r / 1_000 ≡ q / 1_000 = omega (arith, seconds, s) in
    omega (arith, millis, f)

text_same : (t u : ℕ) → t ≤ 253_402_300_799_999 → u ≤ 253_402_300_799_999
    → time_text t ≡ time_text u → t ≡ u
unfolding time_text
text_same t u a b e =
    let byte = λ (k : ℕ). ap (λ (xs : List ℕ). get_or xs k 0) e in
    let n : ℕ = t / 86_400_000 in
    let m : ℕ = u / 86_400_000 in
    let day = day_same n m (omega arith) (omega arith)
    (four_same (date_after n).year (date_after m).year (byte 0) (byte 1) (byte 2) (byte 3))
    (two_same (date_after n).month (date_after m).month (byte 5) (byte 6))
    (two_same (date_after n).day (date_after m).day (byte 8) (byte 9)) in
    let r : ℕ = t % 86_400_000 in
    let q : ℕ = u % 86_400_000 in
    let clock = clock_same r q (two_same (r / 3_600_000) (q / 3_600_000) (byte 11) (byte 12))
    (two_same (r / 60_000 % 60) (q / 60_000 % 60) (byte 14) (byte 15))
    (two_same (r / 1_000 % 60) (q / 1_000 % 60) (byte 17) (byte 18))
    (three_same (r % 1_000) (q % 1_000) (byte 20) (byte 21) (byte 22)) in
    omega (arith, day, clock)

long_text : (text : List ℕ) (t : ℕ) → text ≡ time_text t → length text ≤ 15 → ⊥
unfolding time_text
long_text text t e short = let long = ap (λ (xs : List ℕ). length xs) e in
    omega (arith, long, short)

pub one_time : (text : List ℕ) (time other : ℕ) → IsTime text time → IsTime text other
    → time ≡ other
one_time text time other h k =
    elim h.1 [
      | inl stamp ↦ elim k.1 [
        | inl other_stamp ↦ text_same time other h.0 k.0 (sym stamp ∙ other_stamp)
        | inr count ↦ absurd (long_text text time stamp count.1)
      ]
      | inr count ↦ elim k.1 [
        | inl other_stamp ↦ absurd (long_text text other other_stamp count.1)
        | inr other_count ↦ sym count.2 ∙ other_count.2
      ]
    ]
