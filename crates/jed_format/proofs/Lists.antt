-- Lists that are gone over from the front.
use Rattle.std.proofs.Common.{◌≡◌, ℕ, suc, ◌+◌, ◌<◌, ◌≤◌, List, [], ◌∷◌, ◌++◌, length, take, get_or, sym, ap, ◌∙◌, subst, arith, append_assoc}
use Rattle.std.specs.List.{All, AllByRecursion}
use Rattle.std.proofs.lemmas.List.{take_more, take_all}
use Rattle.std.proofs.lemmas.List.Elements.{All-push}

pub take_next : {X : Type 0} (xs : List X) (i : ℕ) (x : X) → i < length xs → x ≡ get_or xs i x
    → take (i + 1) xs ≡ take i xs ++ x ∷ []
take_next xs i x lt is = take_more xs i x lt ∙ ap (λ y. take i xs ++ y ∷ []) (sym is)

pub All-take_next : {X : Type 0} (P : X → Type 0) (xs : List X) (i : ℕ) (x : X) → i < length xs
    → x ≡ get_or xs i x → All P (take i xs) → P x → All P (take (i + 1) xs)
All-take_next {X} P xs i x lt is held here =
    let Q : List X → Type 0 = All P in
    subst Q (sym (take_next xs i x lt is)) (All-push P (take i xs) x held here)

pub All-whole : {X : Type 0} (P : X → Type 0) (xs : List X) (i : ℕ) → All P (take i xs) → length xs ≤ i
    → All P xs
All-whole {X} P xs i held end = let Q : List X → Type 0 = All P in subst Q (take_all i xs end) held

-- what is put behind, one after the other
pub behind_three : (old a b d mid more new : List ℕ) → mid ≡ old ++ a → more ≡ mid ++ b → new ≡ more ++ d
    → new ≡ old ++ (a ++ b ++ d)
behind_three old a b d mid more new ea eb ed = rw (ed, eb, ea) (simp append_assoc)

pub five : (a b d e f p q r s new : List ℕ) → p ≡ a → q ≡ p ++ b → r ≡ q ++ d → s ≡ r ++ e → new ≡ s ++ f
    → new ≡ a ++ b ++ d ++ (e ++ f)
five a b d e f p q r s new ep eq er es en = rw (en, es, er, eq, ep) (simp append_assoc)

-- ---- in place of an index

pub all_by : {X : Type 0} (P : X → Type 0) (xs : List X) → All P xs → AllByRecursion P xs
all_by P [] h = tt
all_by P (x ∷ xs) h = (h 0 x (omega arith), all_by P xs (λ k d lt. h (suc k) d (omega arith)))
