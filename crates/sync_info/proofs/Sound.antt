-- Values that some text is: their numbers have 64 bits, and their members stand in the order of their names.
use Rattle.std.proofs.Common.{◌≡◌, ℕ, zero, suc, ◌^◌, ◌<◌, ◌≤◌, pos, negsuc, List, [], ◌∷◌, drop, Bool, ◌&&◌, ◌==◌, cond, nat_lt, nat_le, true, false, Float, Option, Some, None, IfSome, option_map, option_and_then, Ordering, Less, Equal, Greater, refl, ap, ◌∙◌, subst, arith}
use borrow.Author.Tests.{ltb-true, leb-true}
use Rattle.std.proofs.lemmas.Bool.{and_parts}
use Rattle.std.proofs.lemmas.Cmp.{nat_list_cmp_total}
use Rattle.std.specs.Cmp.Lexicographic.{slice_cmp}
use Rattle.std.specs.List.{AllByRecursion}
use Rattle.std.specs.Ordering.{nat_cmp, match_ordering, ordering_reverse}
use Rattle.std.specs.Prelude.{slice_index}
use Rattle.std.specs.Float.{binary64, float_is_finite}
use Rattle.fast_float.specs.Text.{Parts, scan, digits_of, nearest, with_sign, minus}
use Rattle.json.specs.Json as json
use Rattle.json.specs.Lex.{tokens}
use Rattle.serde_json.specs.Data.{Num, unsigned, negative, float, Data, null, boolean, number, string, array, object, Items, no_items, item, Members, no_members, member, put}
use Rattle.serde_json.specs.Read.{is_integer, float_of, number_from, number_of, of_json, of_items, of_members, max_depth, read}

-- the number has 64 bits, unless it is a float
abbrev pub IsSoundNumber : Num → Type 0
IsSoundNumber (unsigned n) = n < 2 ^ 64
IsSoundNumber (negative (pos n)) = ⊥
IsSoundNumber (negative (negsuc n)) = n < 2 ^ 63
IsSoundNumber (float x) = Unit {0}

abbrev pub names : Members → List (List ℕ)
names no_members = []
names (member k d ms) = k ∷ names ms

abbrev pub IsBelow : List ℕ → List ℕ → Type 0
IsBelow k l = slice_cmp nat_cmp k l ≡ Less

-- the name stands before those of the members
abbrev pub IsBefore : List ℕ → Members → Type 0
IsBefore k ms = AllByRecursion (IsBelow k) (names ms)

abbrev mutual
  pub IsSound : Data → Type 0
  IsSound null = Unit {0}
  IsSound (boolean b) = Unit {0}
  IsSound (number n) = IsSoundNumber n
  IsSound (string s) = Unit {0}
  IsSound (array ds) = AreSoundItems ds
  IsSound (object ms) = AreSoundMembers ms

  pub AreSoundItems : Items → Type 0
  AreSoundItems no_items = Unit {0}
  AreSoundItems (item d ds) = IsSound d × AreSoundItems ds

  pub AreSoundMembers : Members → Type 0
  AreSoundMembers no_members = Unit {0}
  AreSoundMembers (member k d ms) = IsSound d × IsBefore k ms × AreSoundMembers ms

-- ---- a member put among others

before_more : (k l : List ℕ) (ms : Members) → IsBelow k l → IsBefore l ms → IsBefore k ms
before_more k l no_members here rest = tt
before_more k l (member m d ms) here rest =
    (nat_list_cmp_total.trans k l m here rest.0, before_more k l ms here rest.1)

before-put_at : (o : Ordering) (first k l : List ℕ) (d e : Data) (ms : Members) → IsBelow first k
    → IsBefore first (member l e ms) → IsBefore first (put k d ms)
    → IsBefore first
    (match_ordering o (member k d (member l e ms)) (member l d ms) (member l e (put k d ms)))
before-put_at Less first k l d e ms here rest later = (here, rest)
before-put_at Equal first k l d e ms here rest later = rest
before-put_at Greater first k l d e ms here rest later = (rest.0, later)

before-put : (first k : List ℕ) (d : Data) (ms : Members) → IsBelow first k → IsBefore first ms
    → IsBefore first (put k d ms)
before-put first k d no_members here rest = (here, tt)
before-put first k d (member l e ms) here rest =
    before-put_at (slice_cmp nat_cmp k l) first k l d e ms here rest
    (before-put first k d ms here rest.1)

sound-put_at : (o : Ordering) (k l : List ℕ) (d e : Data) (ms : Members) → slice_cmp nat_cmp k l ≡ o
    → IsSound d
    → AreSoundMembers (member l e ms) → AreSoundMembers (put k d ms)
    → AreSoundMembers
    (match_ordering o (member k d (member l e ms)) (member l d ms) (member l e (put k d ms)))
sound-put_at Less k l d e ms is here rest later = (here, (is, before_more k l ms is rest.1), rest)
sound-put_at Equal k l d e ms is here rest later = (here, rest.1, rest.2)
sound-put_at Greater k l d e ms is here rest later =
    let below : IsBelow l k = nat_list_cmp_total.antisymm l k ∙ ap ordering_reverse is in
    (rest.0, before-put l k d ms below rest.1, later)

pub sound-put : (k : List ℕ) (d : Data) (ms : Members) → IsSound d → AreSoundMembers ms
    → AreSoundMembers (put k d ms)
sound-put k d no_members here rest = (here, tt, tt)
sound-put k d (member l e ms) here rest =
    sound-put_at (slice_cmp nat_cmp k l) k l d e ms refl here rest (sound-put k d ms here rest.2)

-- ---- what is read is sound

if_map : {A B : Type 0} (P : A → Type 0) (Q : B → Type 0) (f : A → B) → ((a : A) → P a → Q (f a))
    → (o : Option A)
    → IfSome o P → IfSome (option_map f o) Q
if_map P Q f each None h = tt
if_map P Q f each (Some a) h = each a h

if_then : {A B : Type 0} (P : A → Type 0) (Q : B → Type 0) (f : A → Option B)
    → ((a : A) → P a → IfSome (f a) Q)
    → (o : Option A) → IfSome o P → IfSome (option_and_then f o) Q
if_then P Q f each None h = tt
if_then P Q f each (Some a) h = each a h

abbrev IfSound : Option Num → Type 0
IfSound n = IfSome n IsSoundNumber

sound_if : (b : Bool) (x y : Option Num) → (b ≡ true → IfSound x) → (b ≡ false → IfSound y)
    → IfSound (cond b x y)
sound_if true x y then_x else_y = then_x refl
sound_if false x y then_x else_y = else_y refl

sound_float : (sign : Bool) (p : Parts) → IfSound (float_of sign p)
sound_float sign p =
    let x : Float = nearest binary64 sign p in
    sound_if (float_is_finite x) (Some (float x)) None (λ e. tt) (λ e. tt)

sound_negative : (n : ℕ) → 0 < n → n ≤ 2 ^ 63 → IsSoundNumber (negative (with_sign true n))
sound_negative zero some fits = absurd (omega arith)
sound_negative (suc n) some fits = omega arith

sound_unsigned_from : (p : Parts) → IfSound (number_from false p)
sound_unsigned_from p =
    sound_if (is_integer p && nat_lt (digits_of p) (2 ^ 64)) (Some (unsigned (digits_of p)))
    (float_of false p)
    (λ e. ltb-true _ _ (and_parts (is_integer p) (nat_lt (digits_of p) (2 ^ 64)) e).1)
    (λ e. sound_float false p)

sound_negative_from : (p : Parts) → IfSound (number_from true p)
sound_negative_from p =
    let n : ℕ = digits_of p in
    sound_if (is_integer p && nat_lt 0 n && nat_le n (2 ^ 63)) (Some (negative (with_sign true n)))
    (float_of true p)
    (λ e.
    let parts = and_parts (is_integer p && nat_lt 0 n) (nat_le n (2 ^ 63)) e in
    let some = and_parts (is_integer p) (nat_lt 0 n) parts.0 in
    sound_negative n (ltb-true _ _ some.1) (leb-true _ _ parts.1))
    (λ e. sound_float true p)

sound-number_of : (s : List ℕ) → IfSound (number_of s)
unfolding number_of
sound-number_of s =
    sound_if (slice_index s 0 == minus) (number_from true (scan (drop 1 s)))
    (number_from false (scan s))
    (λ e. sound_negative_from (scan (drop 1 s))) (λ e. sound_unsigned_from (scan s))

mutual
  pub sound-of_json : (j : json.Json) → IfSome (of_json j) IsSound
  sound-of_json json.null = tt
  sound-of_json (json.boolean b) = tt
  sound-of_json (json.number s) =
      if_map IsSoundNumber IsSound number (λ n h. h) (number_of s) (sound-number_of s)
  sound-of_json (json.string s) = tt
  sound-of_json (json.array js) =
      if_map AreSoundItems IsSound array (λ ds h. h) (of_items js) (sound-of_items js)
  sound-of_json (json.object ms) =
      if_map AreSoundMembers IsSound object (λ ms h. h) (of_members ms no_members)
      (sound-of_members ms no_members tt)

  sound-of_items : (js : json.Items) → IfSome (of_items js) AreSoundItems
  sound-of_items json.no_items = tt
  sound-of_items (json.item j js) =
      if_then IsSound AreSoundItems (λ d. option_map (item d) (of_items js))
      (λ d here. if_map AreSoundItems AreSoundItems (item d) (λ ds rest. (here, rest)) (of_items js)
      (sound-of_items js))
      (of_json j) (sound-of_json j)

  sound-of_members : (ms : json.Members) (found : Members) → AreSoundMembers found
      → IfSome (of_members ms found) AreSoundMembers
  sound-of_members json.no_members found h = h
  sound-of_members (json.member k j ms) found h =
      if_then IsSound AreSoundMembers (λ d. of_members ms (put k d found))
      (λ d here. sound-of_members ms (put k d found) (sound-put k d found here h)) (of_json j)
      (sound-of_json j)

any : (o : Option json.Json) → IfSome o (λ j. Unit {0})
any None = tt
any (Some j) = tt

pub sound-read : (text : List ℕ) (d : Data) → read text ≡ Some d → IsSound d
sound-read text d is =
    let found : Option json.Json =
    option_and_then (λ p. json.if_last p.0 p.1) (json.value max_depth (tokens text)) in
    let P : Option Data → Type 0 = λ o. IfSome o IsSound in
    subst P is (if_then (λ j. Unit {0}) IsSound of_json (λ j h. sound-of_json j) found (any found))
