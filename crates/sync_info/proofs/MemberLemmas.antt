-- The members of an object: what is found is no deeper, and has no float if the object has none.
use Rattle.std.proofs.Common.{◌≡◌, ℕ, ◌<◌, ◌≤◌, List, [], ◌∷◌, Option, Some, None, Bool, true, false, cond, Ordering, Less, Equal, Greater, refl, sym, ◌∙◌, subst, arith}
use Rattle.std.proofs.lemmas.Bool.{or_parts, or_from, false≢true}
use Rattle.std.proofs.lemmas.Slice.Eq.{bytes_eq-Decides}
use Rattle.std.specs.Cmp.Lexicographic.{slice_cmp}
use Rattle.std.specs.List.{AllByRecursion}
use Rattle.std.specs.Ordering.{nat_cmp, match_ordering}
use Rattle.std.specs.Str.{bytes_eq}
use Rattle.serde_json.specs.Data.{Data, null, boolean, number, string, array, object, Members, no_members, member, put, depth, members_depth}
use Rattle.serde_json.specs.Find.{get, get_member}
use Rattle.serde_json.specs.Written.{has_float, members_have_float}
use Rattle.serde_json.proofs.Views.{get_member-put, get_member-put_other}
use Rattle.sync_info.specs.Json.{put_all}
use Rattle.sync_info.proofs.Sound.{IsSound, AreSoundMembers}

-- what holds of the value here and of what is found further on holds of what is found
found_at : (P : Data → Type 0) (o : Ordering) (e found : Data) (more : Option Data) → P e
    → (more ≡ Some found → P found) → match_ordering o more (Some e) more ≡ Some found → P found
found_at P Less e found more here later is = later is
found_at P Equal e found more here later is = subst P (cc) here
found_at P Greater e found more here later is = later is

whole-get_member : (k : List ℕ) (ms : Members) (found : Data) → members_have_float ms ≡ false
    → get_member k ms ≡ Some found → has_float found ≡ false
whole-get_member k no_members found whole is = absurd (cc)
whole-get_member k (member l e ms) found whole is =
    let parts = or_parts (has_float e) (members_have_float ms) whole in
    found_at (λ d. has_float d ≡ false) (slice_cmp nat_cmp k l) e found (get_member k ms) parts.0
    (whole-get_member k ms found parts.1) is

pub whole-get : (k : List ℕ) (d found : Data) → has_float d ≡ false → get k d ≡ Some found
    → has_float found ≡ false
whole-get k null found whole is = absurd (cc)
whole-get k (boolean b) found whole is = absurd (cc)
whole-get k (number n) found whole is = absurd (cc)
whole-get k (string s) found whole is = absurd (cc)
whole-get k (array ds) found whole is = absurd (cc)
whole-get k (object ms) found whole is = whole-get_member k ms found whole is

sound-get_member : (k : List ℕ) (ms : Members) (found : Data) → AreSoundMembers ms
    → get_member k ms ≡ Some found
    → IsSound found
sound-get_member k no_members found sound is = absurd (cc)
sound-get_member k (member l e ms) found sound is =
    found_at IsSound (slice_cmp nat_cmp k l) e found (get_member k ms) sound.0
    (sound-get_member k ms found sound.2) is

pub sound-get : (k : List ℕ) (d found : Data) → IsSound d → get k d ≡ Some found → IsSound found
sound-get k null found sound is = absurd (cc)
sound-get k (boolean b) found sound is = absurd (cc)
sound-get k (number n) found sound is = absurd (cc)
sound-get k (string s) found sound is = absurd (cc)
sound-get k (array ds) found sound is = absurd (cc)
sound-get k (object ms) found sound is = sound-get_member k ms found sound is

depth-get_member : (k : List ℕ) (ms : Members) (found : Data) → get_member k ms ≡ Some found
    → depth found ≤ members_depth ms
depth-get_member k no_members found is = absurd (cc)
depth-get_member k (member l e ms) found is =
    found_at (λ d. depth d ≤ members_depth (member l e ms)) (slice_cmp nat_cmp k l) e found
    (get_member k ms) (omega arith)
    (λ later. let deeper = depth-get_member k ms found later in omega arith) is

pub depth-get : (k : List ℕ) (d found : Data) → get k d ≡ Some found → depth found < depth d
depth-get k null found is = absurd (cc)
depth-get k (boolean b) found is = absurd (cc)
depth-get k (number n) found is = absurd (cc)
depth-get k (string s) found is = absurd (cc)
depth-get k (array ds) found is = absurd (cc)
depth-get k (object ms) found is = let deeper = depth-get_member k ms found is in omega arith

-- ---- a member put among others

by_order : (P : Members → Type 0) (o : Ordering) (a b c : Members) → P a → P b → P c
    → P (match_ordering o a b c)
by_order P Less a b c below same above = below
by_order P Equal a b c below same above = same
by_order P Greater a b c below same above = above

whole-put : (k : List ℕ) (d : Data) (ms : Members) → has_float d ≡ false
    → members_have_float ms ≡ false → members_have_float (put k d ms) ≡ false
whole-put k d no_members here rest = or_from (has_float d) false here refl
whole-put k d (member l e ms) here rest =
    let parts = or_parts (has_float e) (members_have_float ms) rest in
    by_order (λ ms. members_have_float ms ≡ false) (slice_cmp nat_cmp k l) _ _ _
    (or_from (has_float d) _ here rest) (or_from (has_float d) _ here parts.1)
    (or_from (has_float e) _ parts.0 (whole-put k d ms here parts.1))

depth-put : (k : List ℕ) (d : Data) (ms : Members) (n : ℕ) → depth d ≤ n → members_depth ms ≤ n
    → members_depth (put k d ms) ≤ n
depth-put k d no_members n here rest = omega arith
depth-put k d (member l e ms) n here rest =
    by_order (λ ms. members_depth ms ≤ n) (slice_cmp nat_cmp k l) _ _ _ (omega arith) (omega arith)
    (let deeper = depth-put k d ms n here (omega arith) in omega arith)

pub whole-put_all : (own : List (List ℕ × Data)) (ms : Members)
    → AllByRecursion (λ m. has_float m.1 ≡ false) own → members_have_float ms ≡ false
    → members_have_float (put_all own ms) ≡ false
whole-put_all [] ms all rest = rest
whole-put_all (m ∷ own) ms all rest =
    whole-put m.0 m.1 (put_all own ms) all.0 (whole-put_all own ms all.1 rest)

pub depth-put_all : (own : List (List ℕ × Data)) (ms : Members) (n : ℕ)
    → AllByRecursion (λ m. depth m.1 ≤ n) own → members_depth ms ≤ n
    → members_depth (put_all own ms) ≤ n
depth-put_all [] ms n all rest = rest
depth-put_all (m ∷ own) ms n all rest =
    depth-put m.0 m.1 (put_all own ms) n all.0 (depth-put_all own ms n all.1 rest)

-- the first of that name
abbrev pub named : List ℕ → List (List ℕ × Data) → Option Data
named name [] = None
named name (m ∷ own) = cond (bytes_eq name m.0) (Some m.1) (named name own)

found_by : (name : List ℕ) (k : List ℕ) (d found : Data) (rest : Members) (more : Option Data)
    (b : Bool) → bytes_eq name k ≡ b → (more ≡ Some found → get_member name rest ≡ Some found)
    → cond b (Some d) more ≡ Some found
    → get_member name (put k d rest) ≡ Some found
found_by name k d found rest more true same later is =
    rw ((bytes_eq-Decides name k).0 same) (get_member-put k d rest ∙ is)
found_by name k d found rest more false other later is =
    get_member-put_other name k d rest
    (λ same. false≢true (sym other ∙ (bytes_eq-Decides name k).1 same)) ∙ later is

-- what was put under a name is found there
pub get_member-put_all : (name : List ℕ) (own : List (List ℕ × Data)) (ms : Members) (found : Data)
    → named name own ≡ Some found → get_member name (put_all own ms) ≡ Some found
get_member-put_all name [] ms found is = absurd (cc)
get_member-put_all name (m ∷ own) ms found is =
    found_by name m.0 m.1 found (put_all own ms) (named name own) (bytes_eq name m.0) refl
    (get_member-put_all name own ms found) is
