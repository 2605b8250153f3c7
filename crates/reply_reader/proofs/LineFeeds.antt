-- Line feeds: where a line ends, and what has none.
use Rattle.std.proofs.Common.{◌≡◌, ℕ, List, [], ◌∷◌, ◌++◌, get_or, drop, true, false, ◌==◌, refl, sym, ap, ◌∙◌, arith}
use Rattle.std.specs.Prelude.{◌||◌}
use Rattle.std.specs.List.{list_all}
use Rattle.std.proofs.lemmas.Bool.{or_from, or_parts, and_parts, false≢true, eq-eqb}
use Rattle.std.proofs.lemmas.Bool.Decides.{nat_tests}
use Rattle.std.proofs.lemmas.List.Folds.{list_any-append}
use Rattle.httparse.specs.Grammar.{is_value_byte}
use Rattle.jop_base.specs.Paths.{IsPath, file_name}
use Rattle.jop_base.specs.declared.dir.Dir.{Dir}
use Rattle.jop_base.specs.declared.dir.Dir.TheVariants.{Root, Resources, OldSync, Locks, Temp, Tombs}
use Rattle.jop_base.specs.declared.path.Path.{Path}
use Rattle.jop_base.proofs.PathTexts.{is_plain, name_plain}
use Rattle.dav_parts.specs.Targets.{dir_target}
use Rattle.reply_reader.specs.Layouts.{has_feed}

pub feed_append : (s t : List ℕ) → has_feed (s ++ t) ≡ (has_feed s || has_feed t)
feed_append s t = list_any-append (λ b. b == 10) s t

pub none_feeds : (s t : List ℕ) → has_feed s ≡ false → has_feed t ≡ false → has_feed (s ++ t) ≡ false
none_feeds s t a b = feed_append s t ∙ or_from (has_feed s) (has_feed t) a b

pub feed_parts : (s t : List ℕ) → has_feed (s ++ t) ≡ false →
    (has_feed s ≡ false) × (has_feed t ≡ false)
feed_parts s t h = or_parts (has_feed s) (has_feed t) (sym (feed_append s t) ∙ h)

-- ---- the first line feed

feeds_at_once : (c : ℕ) (r : List ℕ) (t : List ℕ) → 10 ∷ r ≡ c ∷ t → (c == 10) ≡ true
feeds_at_once c r t e = eq-eqb c 10 (sym (ap (λ (t : List ℕ). get_or t 0 0) e))

pub feed_cut : (a b r q : List ℕ) → has_feed a ≡ false → has_feed b ≡ false
    → a ++ 10 ∷ r ≡ b ++ 10 ∷ q → (a ≡ b) × (r ≡ q)
feed_cut [] [] r q ha hb e = (refl, ap (λ (t : List ℕ). drop 1 t) e)
feed_cut [] (c ∷ b) r q ha hb e =
    absurd (false≢true (sym (or_parts (c == 10) (has_feed b) hb).0
    ∙ feeds_at_once c r (b ++ 10 ∷ q) e))
feed_cut (c ∷ a) [] r q ha hb e =
    absurd (false≢true (sym (or_parts (c == 10) (has_feed a) ha).0
    ∙ feeds_at_once c q (a ++ 10 ∷ r) (sym e)))
feed_cut (c ∷ a) (d ∷ b) r q ha hb e =
    let head : c ≡ d = ap (λ (t : List ℕ). get_or t 0 0) e in
    let tail : a ++ 10 ∷ r ≡ b ++ 10 ∷ q = ap (λ (t : List ℕ). drop 1 t) e in
    let rest = feed_cut a b r q (or_parts (c == 10) (has_feed a) ha).1
    (or_parts (d == 10) (has_feed b) hb).1 tail in
    (λ i. head i ∷ rest.0 i, rest.1)

-- a text without a line feed begins no other one with one
pub no_feed_in : (a b r q : List ℕ) → has_feed a ≡ false → a ≡ b ++ 10 ∷ q → ⊥
no_feed_in a b r q h e =
    let both = feed_parts b (10 ∷ q) (sym (ap has_feed e) ∙ h) in
    false≢true (sym both.1)

-- a text without a line feed that goes on as another with one, ends before it
pub feed_behind : (a p b q : List ℕ) → has_feed p ≡ false → a ++ p ≡ b ++ 10 ∷ q
    → (rest : List ℕ) × (a ≡ b ++ 10 ∷ rest)
feed_behind [] p b q none e = absurd (no_feed_in p b [] q none e)
feed_behind (c ∷ a) p [] q none e =
    (a, ap (λ (x : ℕ). x ∷ a) (ap (λ (t : List ℕ). get_or t 0 0) e))
feed_behind (c ∷ a) p (d ∷ b) q none e =
    let head : c ≡ d = ap (λ (t : List ℕ). get_or t 0 0) e in
    let rest = feed_behind a p b q none (ap (λ (t : List ℕ). drop 1 t) e) in
    (rest.0, λ i. head i ∷ rest.1 i)

-- ---- names, targets and dates have none

plain_no_feed : (b : ℕ) → is_plain b ≡ true → (b == 10) ≡ false
plain_no_feed b h = grind (arith, nat_tests)

plains_no_feed : (text : List ℕ) → list_all is_plain text ≡ true → has_feed text ≡ false
plains_no_feed [] h = refl
plains_no_feed (b ∷ text) h =
    let p = and_parts (is_plain b) (list_all is_plain text) h in
    or_from (b == 10) (has_feed text) (plain_no_feed b p.0) (plains_no_feed text p.1)

pub name_no_feed : (path : Path) → IsPath path → has_feed (file_name path) ≡ false
name_no_feed path h = plains_no_feed (file_name path) (name_plain path h)

pub target_no_feed : (dir : Dir) → has_feed (dir_target dir) ≡ false
target_no_feed Root = refl
target_no_feed Resources = refl
target_no_feed OldSync = refl
target_no_feed Locks = refl
target_no_feed Temp = refl
target_no_feed Tombs = refl

value_no_feed : (b : ℕ) → is_value_byte b ≡ true → (b == 10) ≡ false
value_no_feed b h = grind (arith, nat_tests)

pub values_no_feed : (text : List ℕ) → list_all is_value_byte text ≡ true → has_feed text ≡ false
values_no_feed [] h = refl
values_no_feed (b ∷ text) h =
    let p = and_parts (is_value_byte b) (list_all is_value_byte text) h in
    or_from (b == 10) (has_feed text) (value_no_feed b p.0) (values_no_feed text p.1)
