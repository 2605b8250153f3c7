-- The folder of a file shows in its text, so files of different folders have different texts.
use Rattle.std.proofs.Common.{◌≡◌, ℕ, suc, ◌+◌, ◌<◌, ◌≤◌, ◌⊎◌, List, [], ◌∷◌, ◌++◌, length, take, get_or, true, false, cond, ◌==◌, refl, ap, subst, sym, ◌∙◌, inl, inr, arith}
use Rattle.std.specs.Prelude.{All, codes}
use Rattle.std.proofs.Math.Seq.{take-suc}
use Rattle.std.proofs.lemmas.Bool.{cond-false}
use Rattle.std.proofs.lemmas.Bool.Decides.{nat_tests}
use Rattle.std.proofs.lemmas.List.{get_or_append_left, take_all}
use Rattle.std.proofs.lemmas.List.Elements.{All-append, All-cons, All-nil}
use Rattle.jop_base.specs.Id.{IsIdText, is_digit}
use Rattle.jop_base.specs.Paths.{IsPath, dir_of, dir_prefix, path_text}
use Rattle.jop_base.specs.declared.dir.Dir.{Dir}
use Rattle.jop_base.specs.declared.dir.Dir.TheVariants.{Root, Resources, OldSync, Locks, Temp, Tombs}
use Rattle.jop_base.specs.declared.path.Path.{Path}
use Rattle.jop_base.specs.declared.path.Path.TheVariants.{Item}

-- the folder that the first three bytes of a path's text show; an id has none of these letters there
abbrev pub dir_shown : List ℕ → Dir
dir_shown text =
    cond (get_or text 0 0 == 46) (cond (get_or text 1 0 == 114) Resources OldSync)
    (cond (get_or text 0 0 == 108) Locks
    (cond (get_or text 0 0 == 116) Temp (cond (get_or text 2 0 == 108) Tombs Root)))

digit_not : (d n : ℕ) → is_digit d ≡ true → (n < 48) ⊎ (102 < n) → (d == n) ≡ false
digit_not d n h (inl low) = grind (arith, nat_tests)
digit_not d n h (inr high) = grind (arith, nat_tests)

-- the digits of an id stand at the same places of its item's name
digit_at : (id : List ℕ) (place : ℕ) → IsIdText id → place < 32
    → is_digit (get_or (id ++ codes ".md") place 0) ≡ true
digit_at id place h within =
    let long : place < length id = omega (arith, h.long, within) in
    ap is_digit (get_or_append_left id (codes ".md") 0 place long) ∙ h.digits place 0 long

item_shown : (id : List ℕ) → IsIdText id → dir_shown (id ++ codes ".md") ≡ Root
item_shown id h =
    let a = get_or (id ++ codes ".md") 0 0 in
    let c = get_or (id ++ codes ".md") 2 0 in
    let first = digit_at id 0 h (omega arith) in
    let third = digit_at id 2 h (omega arith) in
    cond-false (a == 46) _ _ (digit_not a 46 first (inl (omega arith)))
    ∙ cond-false (a == 108) _ _ (digit_not a 108 first (inr (omega arith)))
    ∙ cond-false (a == 116) _ _ (digit_not a 116 first (inr (omega arith)))
    ∙ cond-false (c == 108) _ _ (digit_not c 108 third (inr (omega arith)))

pub path_shown : (p : Path) → IsPath p → dir_shown (path_text p) ≡ dir_of p
path_shown (Item id) h = item_shown id h
path_shown p h = refl

pub prefix_shown : (dir : Dir) → dir_shown (dir_prefix dir) ≡ dir
prefix_shown Root = refl
prefix_shown dir = refl

-- texts that show different folders differ
pub apart : (p q : Path) → ¬ (dir_shown (path_text p) ≡ dir_shown (path_text q))
    → ¬ (path_text p ≡ path_text q)
apart p q other same = other (ap dir_shown same)

-- ---- all folders

-- what holds of each of the folders holds of any
pub each_folder : (P : Dir → Type 0) (count : ℕ) → 6 ≤ count
    → All P (take count (Root ∷ Resources ∷ OldSync ∷ Locks ∷ Temp ∷ Tombs ∷ []))
    → (dir : Dir) → P dir
each_folder P count whole some = go where
  all : All P (Root ∷ Resources ∷ OldSync ∷ Locks ∷ Temp ∷ Tombs ∷ [])
  all = subst (λ (dirs : List Dir). All P dirs) (take_all count _ whole) some

  go : (dir : Dir) → P dir
  go Root = all 0 Root (omega arith)
  go Resources = all 1 Root (omega arith)
  go OldSync = all 2 Root (omega arith)
  go Locks = all 3 Root (omega arith)
  go Temp = all 4 Root (omega arith)
  go Tombs = all 5 Root (omega arith)

-- what holds of the first of a list, and of the next one, holds of one more
pub one_more : {X : Type 0} (P : X → Type 0) (xs : List X) (count : ℕ) (d : X) → count < length xs
    → All P (take count xs) → P (get_or xs count d) → All P (take (count + 1) xs)
one_more P xs count d within some next =
    let one_on : suc count ≡ count + 1 = omega arith in
    subst (λ (ys : List _). All P ys)
    (sym (take-suc xs count d within) ∙ ap (λ (n : ℕ). take n xs) one_on)
    (All-append P (take count xs) _ some (All-cons P (get_or xs count d) [] next (All-nil P)))
