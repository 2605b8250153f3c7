-- Values that are read one after the other.
use Rattle.std.proofs.Common.{◌≡◌, List, [], ◌∷◌, ◌++◌, sym, subst}
use Rattle.std.specs.Prelude.{All}
use Rattle.std.specs.List.Sorted.{IsPermutation}
use Rattle.std.proofs.lemmas.List.Elements.{All-append, All-cons, All-nil}
use Rattle.std.proofs.lemmas.List.Sorted.{All-permutation}

-- values that are sound, and one more that is
pub sound_more : {T : Type 0} (Q : T → Type 0) (ts new : List T) (t : T) → new ≡ ts ++ t ∷ []
    → All Q ts → Q t → All Q new
sound_more Q ts new t is all sound =
    subst (λ us. All Q us) (sym is)
    (All-append Q ts (t ∷ []) all (All-cons Q t [] sound (All-nil Q)))

-- sound values in another order
pub sound_moved : {T : Type 0} (Q : T → Type 0) (xs ys : List T) → IsPermutation xs ys
    → All Q xs → All Q ys
sound_moved Q xs ys moved sound = All-permutation Q xs ys moved sound
