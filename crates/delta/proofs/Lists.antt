-- What stands in a list, and in what is made of it.
use Rattle.std.specs.Prelude.{◌≡◌, ◌⊎◌, List, [], ◌∷◌, Bool, true, false, filter, map, Contains}
use Rattle.std.proofs.Common.{ap, ◌∙◌, subst, inl, inr, arith}
use Rattle.std.proofs.lemmas.Bool.{cond_both}
use Rattle.std.proofs.lemmas.List.Elements.{All-contains, All-contains_itself, All-filter, Contains-append_cases, Contains-append_left, Contains-append_right, Contains-push, Contains-push_cases, filter_passes}

pub in-none : {T : Type 0} (y : T) → Contains [] y → ⊥
in-none y h = omega (arith, h.1)

only-one : {T : Type 0} (x y : T) → Contains (x ∷ []) y → x ≡ y
only-one x y h = elim (Contains-push_cases [] x y h) [
  | inl k ↦ absurd (in-none y k)
  | inr k ↦ k
]

-- what stands in a list is its first element, or stands behind it
pub in-cases : {T : Type 0} (x : T) (xs : List T) (y : T) → Contains (x ∷ xs) y → (x ≡ y) ⊎ Contains xs y
in-cases x xs y h = elim (Contains-append_cases (x ∷ []) xs y h) [
  | inl k ↦ inl (only-one x y k)
  | inr k ↦ inr k
]

in-here : {T : Type 0} (x : T) (xs : List T) → Contains (x ∷ xs) x
in-here x xs = Contains-append_left (x ∷ []) xs x (Contains-push [] x)

in-there : {T : Type 0} (x : T) (xs : List T) (y : T) → Contains xs y → Contains (x ∷ xs) y
in-there x xs y h = Contains-append_right (x ∷ []) xs y h

clash : {T : Type 0} (b : Bool) → b ≡ true → b ≡ false → T
clash true e f = absurd cc
clash false e f = absurd cc

-- what passes a test is kept
pub kept-in : {T : Type 0} (p : T → Bool) (xs : List T) (y : T)
    → Contains xs y → p y ≡ true → Contains (filter p xs) y
kept-in p [] y h e = absurd (in-none y h)
kept-in p (x ∷ xs) y h e = elim (in-cases x xs y h) [
  | inl k ↦ cond_both (p x) (x ∷ filter p xs) (filter p xs) (λ zs. Contains zs y)
      (λ t. subst (λ z. Contains (x ∷ filter p xs) z) k (in-here x (filter p xs)))
      (λ f. clash (p x) (ap p k ∙ e) f)
  | inr k ↦ cond_both (p x) (x ∷ filter p xs) (filter p xs) (λ zs. Contains zs y)
      (λ t. in-there x (filter p xs) y (kept-in p xs y k e))
      (λ f. kept-in p xs y k e)
]

-- what is kept stood there, and passes the test
pub kept-stood : {T : Type 0} (p : T → Bool) (xs : List T) (y : T)
    → Contains (filter p xs) y → Contains xs y
kept-stood p xs y h =
    All-contains (Contains xs) (filter p xs) y (All-filter p (Contains xs) xs (All-contains_itself xs)) h

pub kept-passes : {T : Type 0} (p : T → Bool) (xs : List T) (y : T)
    → Contains (filter p xs) y → p y ≡ true
kept-passes p xs y h = All-contains (λ x. p x ≡ true) (filter p xs) y (filter_passes p xs) h

-- what is made of an element stands among what is made of each
pub made-in : {T U : Type 0} (f : T → U) (xs : List T) (x : T) → Contains xs x → Contains (map f xs) (f x)
made-in f [] x h = absurd (in-none x h)
made-in f (y ∷ ys) x h = elim (in-cases y ys x h) [
  | inl k ↦ subst (λ z. Contains (f y ∷ map f ys) z) (ap f k) (in-here (f y) (map f ys))
  | inr k ↦ in-there (f y) (map f ys) (f x) (made-in f ys x k)
]

pub record IsMadeOf {T U : Type 0} (f : T → U) (xs : List T) (y : U) : Type 0 where
  pub x : T
  pub stood : Contains xs x
  pub is : f x ≡ y

made-later : {T U : Type 0} (f : T → U) (x : T) (xs : List T) (y : U) → IsMadeOf f xs y → IsMadeOf f (x ∷ xs) y
made-later f x xs y h = record { x = h.x; stood = in-there x xs h.x h.stood; is = h.is }

-- what stands among what is made of each is made of one of them
pub made-from : {T U : Type 0} (f : T → U) (xs : List T) (y : U) → Contains (map f xs) y → IsMadeOf f xs y
made-from f [] y h = absurd (in-none y h)
made-from f (x ∷ xs) y h = elim (in-cases (f x) (map f xs) y h) [
  | inl k ↦ record { x = x; stood = in-here x xs; is = k }
  | inr k ↦ made-later f x xs y (made-from f xs y k)
]
