-- What is written reads as the item that was written.
use Rattle.std.proofs.Common.{◌≡◌, ℕ, suc, zero, ◌+◌, ◌-◌, true, false, cond, eqb, not, List, [], ◌∷◌, ◌++◌, length, map, take, drop, Option, Some, None, refl, sym, ap, ◌∙◌, append_assoc, subst, arith, inl, inr}
use Rattle.std.specs.Prelude.{MatchOption, IfNone, IfSome, bytes_eq}
use Rattle.std.specs.Str.{IsUtf8}
use Rattle.std.specs.List.{list_all, prefix_len, position_or_len, before_first, after_first, AllByRecursion}
use Rattle.std.proofs.lemmas.Bool.{or_parts, or_from, or_right, and_from, not_from_false, cond-true, cond-false, cases_Bool, eqb-false}
use Rattle.std.proofs.lemmas.List.{take_at, drop_at, get_or_at, length-append}
use Rattle.item_text.specs.declared.item.Item.{Item}
use Rattle.item_text.specs.declared.item.Prop.{Prop}
use Rattle.item_text.specs.declared.bad_item.BadWhy.TheVariants.{TypeValue}
use Rattle.item_text.specs.Lines.{has, lines, joined, is_blank, trimmed_end, trimmed, has_text}
use Rattle.item_text.specs.Props.{type_key, value_of}
use Rattle.item_text.specs.Valid.{is_type_value, IsProp, IsItem}
use Rattle.item_text.specs.Grammar.{title_text, body_text, prop_text, written, is_colon, pair_of, AreParts, title_of, item_of_lines, ReadsAs, type_fault, first_fault}
use Rattle.item_text.proofs.Cut.{Lacks, lines_append, lines_first, lines_one}
use Rattle.item_text.proofs.Head.{joined-lines}
use Rattle.item_text.proofs.Blanks.{text_at}
use Rattle.item_text.proofs.Answered.{fault_text, fault_parts}

-- ---- a byte that a text hasn't

pub lacks_from_has : (c : ℕ) (text : List ℕ) → has c text ≡ false → Lacks c text
lacks_from_has c [] h i lt e = absurd (omega arith)
lacks_from_has c (b ∷ bs) h zero lt e = eqb-false b c (or_parts (eqb b c) (has c bs) h).0 e
lacks_from_has c (b ∷ bs) h (suc i) lt e =
    lacks_from_has c bs (or_parts (eqb b c) (has c bs) h).1 i (omega arith) e

has-append : (c : ℕ) (xs ys : List ℕ) → has c xs ≡ false → has c (xs ++ ys) ≡ has c ys
has-append c [] ys h = refl
has-append c (x ∷ xs) ys h =
    let parts = or_parts (eqb x c) (has c xs) h in
    elim (cases_Bool (has c ys)) [
      | inl some ↦ or_right (eqb x c) (has c (xs ++ ys)) (has-append c xs ys parts.1 ∙ some)
          ∙ sym some
      | inr none ↦ or_from (eqb x c) (has c (xs ++ ys)) parts.0 (has-append c xs ys parts.1 ∙ none)
          ∙ sym none
    ]

-- ---- one property line

prop_one_line : (p : Prop) → IsProp p → has 10 (prop_text p) ≡ false
prop_one_line p h = has-append 10 p.key (58 ∷ 32 ∷ p.value) h.key.one_line ∙ h.value.one_line

prop_has_colon : (key rest : List ℕ) → has 58 (key ++ 58 ∷ rest) ≡ true
prop_has_colon [] rest = refl
prop_has_colon (b ∷ bs) rest =
    or_right (eqb b 58) (has 58 (bs ++ 58 ∷ rest)) (prop_has_colon bs rest)

prop_has_text : (key rest : List ℕ) → has_text (key ++ 58 ∷ rest) ≡ true
prop_has_text key rest =
    text_at (key ++ 58 ∷ rest) (length key) (omega (arith, length-append key (58 ∷ rest)))
    (ap is_blank (get_or_at key 58 rest 0 (length key) refl))

colon_at : (key rest : List ℕ) → has 58 key ≡ false
    → position_or_len is_colon (key ++ 58 ∷ rest) ≡ length key
colon_at [] rest h = refl
colon_at (b ∷ bs) rest h =
    let parts = or_parts (is_colon b) (has 58 bs) h in
    let more = colon_at bs rest parts.1 in
    cond-true (not (is_colon b)) (1 + position_or_len is_colon (bs ++ 58 ∷ rest)) 0
    (not_from_false (is_colon b) parts.0) ∙ omega arith

-- the space behind the colon goes
trimmed_space : (text : List ℕ) → trimmed (32 ∷ text) ≡ trimmed text
unfolding trimmed
trimmed_space text = let one : 1 + prefix_len is_blank text ≡ suc (prefix_len is_blank text) =
    omega arith in ap (λ (n : ℕ). trimmed_end (drop n (32 ∷ text))) one

pair_again : (p : Prop) → IsProp p → pair_of (prop_text p) ≡ p
unfolding pair_of
pair_again p h =
    let at = colon_at p.key (32 ∷ p.value) h.no_colon in
    let before : before_first is_colon (prop_text p) ≡ p.key =
    ap (λ (n : ℕ). take n (prop_text p)) at
    ∙ take_at p.key (58 ∷ 32 ∷ p.value) (length p.key) refl in
    let after : after_first is_colon (prop_text p) ≡ 32 ∷ p.value =
    ap (λ (n : ℕ). drop (n + 1) (prop_text p)) at
    ∙ ap (λ (t : List ℕ). drop (length p.key + 1) t)
    (sym (append_assoc p.key (58 ∷ []) (32 ∷ p.value)))
    ∙ drop_at (p.key ++ 58 ∷ []) (32 ∷ p.value) (length p.key + 1)
    (length-append p.key (58 ∷ [])) in
    let key = ap trimmed before ∙ h.key.is_trimmed in
    let value = ap trimmed after ∙ trimmed_space p.value ∙ h.value.is_trimmed in
    λ i. record { key = key i; value = value i }

-- ---- all of them

pairs_again : (ps : List Prop) → AllByRecursion IsProp ps → map pair_of (map prop_text ps) ≡ ps
pairs_again [] h = refl
pairs_again (p ∷ ps) h =
    ap (λ (q : Prop). q ∷ map pair_of (map prop_text ps)) (pair_again p h.0)
    ∙ ap (λ (qs : List Prop). p ∷ qs) (pairs_again ps h.1)

all_text : (ps : List Prop) → list_all has_text (map prop_text ps) ≡ true
all_text [] = refl
all_text (p ∷ ps) =
    and_from (has_text (prop_text p)) (list_all has_text (map prop_text ps))
    (prop_has_text p.key (32 ∷ p.value)) (all_text ps)

all_colons : (ps : List Prop) → list_all (has 58) (map prop_text ps) ≡ true
all_colons [] = refl
all_colons (p ∷ ps) =
    and_from (has 58 (prop_text p)) (list_all (has 58) (map prop_text ps))
    (prop_has_colon p.key (32 ∷ p.value)) (all_colons ps)

props_lines : (p : Prop) (ps : List Prop) → AllByRecursion IsProp (p ∷ ps)
    → lines (joined (map prop_text (p ∷ ps))) ≡ map prop_text (p ∷ ps)
unfolding joined
props_lines p [] h = lines_one (prop_text p) (lacks_from_has 10 (prop_text p) (prop_one_line p h.0))
props_lines p (q ∷ ps) h =
    lines_first (joined (map prop_text (p ∷ q ∷ ps))) (prop_text p)
    (joined (map prop_text (q ∷ ps))) refl (lacks_from_has 10 (prop_text p) (prop_one_line p h.0))
    ∙ ap (λ (ls : List (List ℕ)). prop_text p ∷ ls) (props_lines q ps h.1)

-- a text of pairs that have a type isn't empty
some_lines : (ps : List Prop) → AllByRecursion IsProp ps
    → MatchOption (value_of type_key ps) ⊥ (λ value. is_type_value value ≡ true)
    → lines (joined (map prop_text ps)) ≡ map prop_text ps
unfolding value_of
some_lines [] h kind = absurd kind
some_lines (p ∷ ps) h kind = props_lines p ps h

-- the type isn't refused
type_again : (n : ℕ) (ps : List Prop)
    → MatchOption (value_of type_key ps) ⊥ (λ value. is_type_value value ≡ true)
    → type_fault n ps ≡ None
unfolding value_of type_fault
type_again n [] kind = absurd kind
type_again n (p ∷ ps) kind =
    elim (cases_Bool (bytes_eq p.key type_key)) [
      | inl is ↦
          let Q : Option (List ℕ)
          → Type 0 = λ o. MatchOption o ⊥ (λ value. is_type_value value ≡ true) in
          let good : is_type_value p.value ≡ true =
          subst Q (cond-true (bytes_eq p.key type_key) (Some p.value) (value_of type_key ps) is)
          kind in
          cond-true (bytes_eq p.key type_key)
          (cond (is_type_value p.value) None (Some (record { line = n; why = TypeValue })))
          (type_fault (n + 1) ps) is
          ∙ cond-true (is_type_value p.value) None
          (Some (record { line = n; why = TypeValue })) good
      | inr isnt ↦
          let Q : Option (List ℕ)
          → Type 0 = λ o. MatchOption o ⊥ (λ value. is_type_value value ≡ true) in
          cond-false (bytes_eq p.key type_key)
          (cond (is_type_value p.value) None (Some (record { line = n; why = TypeValue })))
          (type_fault (n + 1) ps) isnt
          ∙ type_again (n + 1) ps
          (subst Q (cond-false (bytes_eq p.key type_key) (Some p.value) (value_of type_key ps) isnt)
          kind)
    ]

-- ---- the whole text

nothing : has_text [] ≡ false
unfolding has_text trimmed
nothing = refl

lines_feed : (rest : List ℕ) → lines (10 ∷ rest) ≡ [] ∷ lines rest
unfolding lines
lines_feed rest = refl

parts_again : (title : Option (List ℕ)) (body : List ℕ) (ls : List (List ℕ))
    → IfSome title (λ t. has 10 t ≡ false) → IfNone title (body ≡ []) → lines (joined ls) ≡ ls
    → list_all has_text ls ≡ true
    → (above : List (List ℕ))
    × AreParts (lines (title_text title ++ (body_text body ++ joined ls))) above ls
    × (title ≡ title_of above) × (body ≡ joined (drop 2 above))
unfolding joined
parts_again None (b ∷ bs) ls one none same text = absurd cc
parts_again None [] ls one none same text = ([], (text, inr (refl, same)), refl, refl)
parts_again (Some t) [] ls one none same text =
    let cut : lines ((t ++ 10 ∷ 10 ∷ []) ++ joined ls) ≡ t ∷ lines (10 ∷ joined ls) =
    lines_first ((t ++ 10 ∷ 10 ∷ []) ++ joined ls) t (10 ∷ joined ls)
    (append_assoc t (10 ∷ 10 ∷ []) (joined ls)) (lacks_from_has 10 t one) in
    let below : lines (10 ∷ joined ls) ≡ [] ∷ ls = lines_feed (joined ls)
    ∙ ap (λ (x : List (List ℕ)). [] ∷ x) same in
    (t ∷ [], (text, inl ([], nothing, cut ∙ ap (λ (x : List (List ℕ)). t ∷ x) below)), refl, refl)
parts_again (Some t) (b ∷ bs) ls one none same text =
    let body : List ℕ = b ∷ bs in
    let under : List ℕ = (body ++ 10 ∷ 10 ∷ []) ++ joined ls in
    let cut : lines ((t ++ 10 ∷ 10 ∷ []) ++ under) ≡ t ∷ lines (10 ∷ under) =
    lines_first ((t ++ 10 ∷ 10 ∷ []) ++ under) t (10 ∷ under) (append_assoc t (10 ∷ 10 ∷ []) under)
    (lacks_from_has 10 t one) in
    let below : lines under ≡ lines body ++ [] ∷ ls =
    ap lines (append_assoc body (10 ∷ 10 ∷ []) (joined ls)) ∙ lines_append body (10 ∷ joined ls)
    ∙ ap (λ (x : List (List ℕ)). lines body ++ x)
    (lines_feed (joined ls) ∙ ap (λ (x : List (List ℕ)). [] ∷ x) same) in
    let whole = cut
    ∙ ap (λ (x : List (List ℕ)). t ∷ x)
    (lines_feed under ∙ ap (λ (x : List (List ℕ)). [] ∷ x) below) in
    (t ∷ [] ∷ lines body, (text, inl ([], nothing, whole)), refl, sym (joined-lines body))

pub reads_again : (item : Item) → IsItem item → IsUtf8 (written item)
    → ReadsAs (written item) item × (first_fault (written item) ≡ None)
unfolding written ReadsAs item_of_lines
reads_again item h utf8 =
    let ls : List (List ℕ) = map prop_text item.props in
    let p = parts_again item.title item.body ls h.title h.no_title
    (some_lines item.props h.props h.typed) (all_text item.props) in
    let pairs = pairs_again item.props h.props in
    let n : ℕ = length (lines (written item)) - length ls + 1 in
    let good =
    fault_text (written item) utf8
    ∙ fault_parts (lines (written item)) p.0 ls p.1 (all_colons item.props)
    ∙ ap (type_fault n) pairs
    ∙ type_again n item.props h.typed in
    ((utf8, (p.0, ls, p.1, λ i. record { title = p.2 i; body = p.3 i; props = sym pairs i })), good)
