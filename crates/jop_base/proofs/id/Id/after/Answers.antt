use Rattle.std.proofs.Common.{◌≡◌, ◌+◌, ◌-◌, ◌^◌, ◌∙◌, ap, subst, sym, arith, ℕ, List, get_or, set, drop, ◌<◌, length, length-set}
use Rattle.std.proofs.lemmas.List.Elements.{All-set}
use Rattle.std.specs.Prelude.{true}
use Rattle.jop_base.specs.Id.{is_digit, digit_after, number_of, AreDigits}
use Rattle.jop_base.proofs.CountUp.{is_digit-after, wraps_on, counts_on, is_remainder, wrapped_remainder, IsWrapped}
use Rattle.jop_base.proofs.id.Id.after.Goals as goal

-- a digit that is counted up stays a digit
digits_kept : (digits : List ℕ) (p y : ℕ)
    → p < length digits → AreDigits digits → y ≡ digit_after (get_or digits p 0)
    → AreDigits (set digits p y)
digits_kept digits p y lt are is =
    let digit = is_digit-after (get_or digits p 0) (are p 0 lt) in
    All-set (λ d. is_digit d ≡ true) digits p y
    (subst (λ (d : ℕ). is_digit d ≡ true) (sym is) digit) are

pub loop-place-preserved : goal.loop-place-preserved
loop-place-preserved c =
    let digits = c.loop-place.digits in
    let old = c.self.inside.digits in
    let p = c.loop-place.place - 1 in
    let at = c.loop-place.invariant.wrapped in
    let f = c.if-digit-ne102.false in
    let lt : p < length digits = omega (arith, at.long, at.within) in
    let wrapped = wraps_on digits old p c.loop-place.place (omega arith) at f in
    let zero : c.digit_after.result ≡ 48 = c.digit_after.ensures ∙ ap digit_after f in
    record {
      digits =
          digits_kept digits p c.digit_after.result lt c.loop-place.invariant.digits
          c.digit_after.ensures;
      wrapped = subst (λ (y : ℕ). IsWrapped (set digits p y) old p) (sym zero) wrapped;
    }

pub returns-then-digit-ne102-clause-next : goal.returns-then-digit-ne102-clause-next
returns-then-digit-ne102-clause-next c =
    let digits = c.loop-place.digits in
    let old = c.self.inside.digits in
    let p = c.loop-place.place - 1 in
    let y = c.digit_after.result in
    let are = c.loop-place.invariant.digits in
    let at = c.loop-place.invariant.wrapped in
    let lt : p < length digits = omega (arith, at.long, at.within) in
    let counted =
    counts_on digits old p c.loop-place.place (omega arith) at (are p 0 lt)
    c.if-digit-ne102.true in
    let same : number_of (set digits p y) ≡ number_of old + 1 =
    ap (λ (d : ℕ). number_of (set digits p d)) c.digit_after.ensures ∙ counted in
    let long = length-set digits p y ∙ at.long in
    let kept = digits_kept digits p y lt are c.digit_after.ensures in
    rw (← c.self.view_is) (is_remainder (set digits p y) _ long kept same)

pub returns-clause-next : goal.returns-clause-next
returns-clause-next c =
    let digits = c.loop-place.digits in
    let old = c.self.inside.digits in
    let at = c.loop-place.invariant.wrapped in
    let start : c.loop-place.place ≡ 0 = omega arith in
    let wrapped : number_of digits + 16 ^ 32 ≡ number_of old + 1 =
    subst (λ (q : ℕ). number_of (drop q digits) + 16 ^ (32 - q) ≡ number_of (drop q old) + 1)
    start at.wrapped in
    rw (← c.self.view_is) (wrapped_remainder digits _ at.long c.loop-place.invariant.digits wrapped)
