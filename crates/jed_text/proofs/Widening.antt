-- Bytes as units, one by one.
use Rattle.std.proofs.Common.{◌≡◌, ℕ, suc, ◌+◌, ◌<◌, ◌≤◌, List, [], ◌∷◌, ◌++◌, length, take, get_or, set, sym, ◌∙◌, arith, take-suc, take-suc-set}
use Rattle.std.proofs.lemmas.List.{take_all}

pub widen_step : (units bytes : List ℕ) (n v : ℕ) → n < length units → n < length bytes → take n units ≡ take n bytes → v ≡ get_or bytes n 0
    → take (n + 1) (set units n v) ≡ take (n + 1) bytes
widen_step units bytes n v lu lb held e =
    let more : n + 1 ≡ suc n = omega arith in
    rw more (take-suc-set units n v lu ∙ (λ i. held i ++ e i ∷ []) ∙ sym (take-suc bytes n 0 lb))

pub widen_end : (units bytes : List ℕ) (n : ℕ) → length units ≤ n → length bytes ≤ n → take n units ≡ take n bytes → units ≡ bytes
widen_end units bytes n lu lb held = sym (take_all n units lu) ∙ held ∙ take_all n bytes lb
