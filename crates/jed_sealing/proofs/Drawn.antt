-- What is made of random bytes.
use Rattle.std.proofs.Common.{◌≡◌, ℕ, List, [], ◌++◌, length, drop, Option, Some, None, Ok, refl, sym, ap, ◌∙◌, append_assoc, take-append-drop}
use Rattle.jop_outside.specs.Random.{Fills}
use Rattle.jop_outside.specs.Reading.{SoFar}
use Rattle.jed_sealing.specs.Drawing.{IsMadeOfDrawn}

pub drawn_of_filled : {T : Type 0} (make : List ℕ → T) (count : ℕ) (before : Option (List ℕ)) (done : Unit {0})
    (into : List ℕ) (made : T) (after : Option (List ℕ)) → length into ≡ count → made ≡ make into
    → Fills before (Ok done) into after → IsMadeOfDrawn make count before made after
drawn_of_filled make count None done into made after long is h =
    record { bytes = into; long = long; given = h; is = is }
drawn_of_filled make count (Some b) done into made after long is h =
    let rest : List ℕ = drop (length into) b in
    let whole : b ≡ into ++ rest =
    sym (take-append-drop (length into) b) ∙ ap (λ (front : List ℕ). front ++ rest) (sym h.filled) in
    record { bytes = into; long = long; given = (rest, whole, h.left); is = is }

pub SoFar-none : (a : Option (List ℕ)) → SoFar a [] a
SoFar-none None = refl
SoFar-none (Some before) = (before, refl, refl)

pub SoFar-append : (a b c : Option (List ℕ)) (xs ys : List ℕ) → SoFar a xs b → SoFar b ys c
    → SoFar a (xs ++ ys) c
SoFar-append None None c xs ys h k = k
SoFar-append None (Some w) c xs ys h k = cc
SoFar-append (Some v) None c xs ys h k = cc
SoFar-append (Some v) (Some w) c xs ys h k =
    let rest : w ≡ h.0 = cc in
    let joined = append_assoc xs ys k.0 in
    (k.0, cc (h.1, k.1), k.2)

-- what is made of something that was drawn
pub drawn_through : {T U : Type 0} (make : List ℕ → T) (next : T → U) (count : ℕ) (before : Option (List ℕ)) (made : T)
    (out : U) (after : Option (List ℕ)) → IsMadeOfDrawn make count before made after → out ≡ next made
    → IsMadeOfDrawn (λ (bytes : List ℕ). next (make bytes)) count before out after
drawn_through make next count before made out after drawn is =
    record { bytes = drawn.bytes; long = drawn.long; given = drawn.given; is = is ∙ ap next drawn.is }
