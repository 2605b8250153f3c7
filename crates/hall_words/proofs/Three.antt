-- What clap makes of three plain words.
use Rattle.std.proofs.Common.{refl, ◌≡◌, ◌∙◌, ap, ap₂, ℕ, List, [], ◌∷◌, codes, Bool, true, false, ◌&&◌, Some, None, nat_eq, bytes_eq}
use Rattle.clap.specs.Lexer.{long_of, short_of}
use Rattle.std.specs.List.{list_all}
use Rattle.std.specs.Prelude.{Option, is_some}
use Rattle.clap.specs.Simple.{Shape, built, entered}
use Rattle.clap.specs.Takes.{default_passes, entered_passes, is_valid, settle_passes, step_passes, turn_passes, walk_passes}
use Rattle.clap.specs.Walk.{Held, Walk, arg_by_index, finished, idle, nothing_held, to_positional, value, walk, walk_from, walked, word_met}
use Rattle.clap.specs.Words.{App, Row, Rule, first_of, matches_of, is_simple, takes}
use Rattle.clap.proofs.OnLiterals.{clap_on_literals}
use Rattle.hall_words.specs.Plain.{IsPlainWord}
use Rattle.hall_words.specs.Three.{three_words}

abbrev hall : App
hall = three_words

pub hall_simple : is_simple three_words ≡ true
unfolding clap_on_literals
hall_simple = refl

-- a word that doesn't begin with a hyphen is no flag
no_flag : (k : ℕ) (xs : List ℕ) → nat_eq k 45 ≡ false → (long_of (k ∷ xs) ≡ None)
    × (short_of (k ∷ xs) ≡ None) × (bytes_eq (k ∷ xs) (45 ∷ 45 ∷ []) ≡ false)
no_flag k xs is = (rw is refl, rw is refl, rw is refl)

-- it goes to the positional at hand
plain_met : (c : List Rule) (position k : ℕ) (xs : List ℕ) (h : Held) → nat_eq k 45 ≡ false
    → word_met c [] false idle position (k ∷ xs) h ≡ (h, value)
plain_met c position k xs h is =
    let none = no_flag k xs is in
    rw (none.2, none.0, none.1) refl

plain_turn : (s : Shape) (w : Walk) (k : ℕ) (xs : List ℕ) → nat_eq k 45 ≡ false
    → w.stopped ≡ None → w.is_trailing ≡ false → w.waiting ≡ idle
    → walked s.rules [] w (k ∷ xs) ≡ to_positional s.rules (arg_by_index s.rules w.position) (k ∷ xs) w w.held
unfolding walked
plain_turn s w k xs is stopped trailing waiting =
    rw (stopped, trailing, waiting, plain_met s.rules w.position k xs w.held is) refl

plain_passes : (s : Shape) (w : Walk) (k : ℕ) (xs : List ℕ) → nat_eq k 45 ≡ false
    → w.stopped ≡ None → w.is_trailing ≡ false → w.waiting ≡ idle
    → turn_passes s [] w (k ∷ xs) ≡ step_passes s w.position w.held value
plain_passes s w k xs is stopped trailing waiting =
    let none = no_flag k xs is in
    rw (stopped, trailing, waiting, plain_met s.rules w.position k xs w.held is, none.2, none.0, none.1) refl

one_more : (s : Shape) (w v : Walk) (word : List ℕ) (rest : List (List ℕ)) → turn_passes s [] w word ≡ true
    → walked s.rules [] w word ≡ v → walk_passes s [] v rest ≡ true → walk_passes s [] w (word ∷ rest) ≡ true
unfolding walk_passes
one_more s w v word rest turn goes passes = rw (turn, goes, passes) refl

-- ---- three words

abbrev top : Shape
top = (built hall).top

abbrev before : Walk
before = walk_from nothing_held

abbrev after : Walk → List ℕ → Walk
after w word = to_positional top.rules (arg_by_index top.rules w.position) word w w.held

abbrev all : List ℕ → List ℕ → List ℕ → List (List ℕ)
all a b c = a ∷ b ∷ c ∷ []

walked_three : (k l m : ℕ) (xs ys zs : List ℕ) → nat_eq k 45 ≡ false → nat_eq l 45 ≡ false → nat_eq m 45 ≡ false
    → walk top.rules [] nothing_held (all (k ∷ xs) (l ∷ ys) (m ∷ zs))
    ≡ after (after (after before (k ∷ xs)) (l ∷ ys)) (m ∷ zs)
unfolding clap_on_literals
walked_three k l m xs ys zs p q r =
    ap (λ (w : Walk). walked top.rules [] (walked top.rules [] w (l ∷ ys)) (m ∷ zs))
    (plain_turn top before k xs p refl refl refl)
    ∙ (ap (λ (w : Walk). walked top.rules [] w (m ∷ zs))
    (plain_turn top (after before (k ∷ xs)) l ys q refl refl refl)
    ∙ plain_turn top (after (after before (k ∷ xs)) (l ∷ ys)) m zs r refl refl refl)

passes_three : (k l m : ℕ) (xs ys zs : List ℕ) → nat_eq k 45 ≡ false → nat_eq l 45 ≡ false → nat_eq m 45 ≡ false
    → walk_passes top [] before (all (k ∷ xs) (l ∷ ys) (m ∷ zs)) ≡ true
unfolding clap_on_literals
passes_three k l m xs ys zs p q r =
    let one = after before (k ∷ xs) in
    let two = after one (l ∷ ys) in
    one_more top before one (k ∷ xs) ((l ∷ ys) ∷ (m ∷ zs) ∷ []) (plain_passes top before k xs p refl refl refl)
    (plain_turn top before k xs p refl refl refl)
    (one_more top one two (l ∷ ys) ((m ∷ zs) ∷ []) (plain_passes top one l ys q refl refl refl)
    (plain_turn top one l ys q refl refl refl)
    (one_more top two (after two (m ∷ zs)) (m ∷ zs) [] (plain_passes top two m zs r refl refl refl)
    (plain_turn top two m zs r refl refl refl) refl))

-- what is asked of a walk and of its passing
abbrev taken_by : Walk → Bool → Bool
taken_by w passes = entered_passes (built hall) w.stopped
    && (passes && (settle_passes top.rules top.args_override_self w.held
    && (list_all default_passes top.rules
    && is_valid top (finished top.rules w.held) (is_some (entered (built hall) w.stopped)))))

pub taken : (k l m : ℕ) (xs ys zs : List ℕ) → nat_eq k 45 ≡ false → nat_eq l 45 ≡ false → nat_eq m 45 ≡ false
    → takes hall (all (k ∷ xs) (l ∷ ys) (m ∷ zs)) ≡ true
unfolding clap_on_literals
taken k l m xs ys zs p q r =
    ap₂ taken_by (walked_three k l m xs ys zs p q r) (passes_three k l m xs ys zs p q r)

abbrev found : List ℕ → Walk → Option (List ℕ)
found name w = first_of name (finished top.rules w.held)

pub mode_is : (k l m : ℕ) (xs ys zs : List ℕ) → nat_eq k 45 ≡ false → nat_eq l 45 ≡ false → nat_eq m 45 ≡ false
    → first_of (codes "mode") (matches_of hall (all (k ∷ xs) (l ∷ ys) (m ∷ zs))) ≡ Some (k ∷ xs)
unfolding clap_on_literals
mode_is k l m xs ys zs p q r = ap (found (codes "mode")) (walked_three k l m xs ys zs p q r)

pub number_is : (k l m : ℕ) (xs ys zs : List ℕ) → nat_eq k 45 ≡ false → nat_eq l 45 ≡ false → nat_eq m 45 ≡ false
    → first_of (codes "number") (matches_of hall (all (k ∷ xs) (l ∷ ys) (m ∷ zs))) ≡ Some (l ∷ ys)
unfolding clap_on_literals
number_is k l m xs ys zs p q r = ap (found (codes "number")) (walked_three k l m xs ys zs p q r)

pub count_is : (k l m : ℕ) (xs ys zs : List ℕ) → nat_eq k 45 ≡ false → nat_eq l 45 ≡ false → nat_eq m 45 ≡ false
    → first_of (codes "count") (matches_of hall (all (k ∷ xs) (l ∷ ys) (m ∷ zs))) ≡ Some (m ∷ zs)
unfolding clap_on_literals
count_is k l m xs ys zs p q r = ap (found (codes "count")) (walked_three k l m xs ys zs p q r)

-- ---- the same, told of plain words

pub taken_plain : (a b c : List ℕ) → IsPlainWord a → IsPlainWord b → IsPlainWord c → takes hall (all a b c) ≡ true
taken_plain (k ∷ xs) (l ∷ ys) (m ∷ zs) p q r = taken k l m xs ys zs p q r
taken_plain [] b c p q r = absurd p
taken_plain (k ∷ xs) [] c p q r = absurd q
taken_plain (k ∷ xs) (l ∷ ys) [] p q r = absurd r

-- the three values that are found
abbrev pub AreFound : List Row → List ℕ → List ℕ → List ℕ → Type 0
AreFound rows a b c = (first_of (codes "mode") rows ≡ Some a)
    × (first_of (codes "number") rows ≡ Some b) × (first_of (codes "count") rows ≡ Some c)

pub found_plain : (a b c : List ℕ) → IsPlainWord a → IsPlainWord b → IsPlainWord c
    → AreFound (matches_of hall (all a b c)) a b c
found_plain (k ∷ xs) (l ∷ ys) (m ∷ zs) p q r =
    (mode_is k l m xs ys zs p q r, number_is k l m xs ys zs p q r, count_is k l m xs ys zs p q r)
found_plain [] b c p q r = absurd p
found_plain (k ∷ xs) [] c p q r = absurd q
found_plain (k ∷ xs) (l ∷ ys) [] p q r = absurd r
