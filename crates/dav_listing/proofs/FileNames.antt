-- The names of files have no slash and aren't empty, so each stands below its folder and is no folder's.
use Rattle.std.proofs.Common.{◌≡◌, ◌∙◌, refl, sym, ap, arith, ℕ, ◌+◌, ◌-◌, ◌<◌, ◌≤◌, List, [], ◌∷◌, ◌++◌, length, take, drop, Bool, true, false, Option, Some, None, length-append, length-take, take-append-drop}
use Rattle.std.specs.Prelude.{codes, ◌||◌, ◌&&◌, ◌==◌, bytes_eq, nat_le, if◌then◌else◌}
use Rattle.std.proofs.lemmas.Bool.{and_parts, or_from, false≢true}
use Rattle.std.proofs.lemmas.Bool.Decides.{nat_tests}
use Rattle.std.proofs.lemmas.List.{take_at, drop_at}
use Rattle.std.proofs.lemmas.List.Elements.{All-head, All-tail}
use Rattle.std.proofs.lemmas.List.Folds.{list_any-append}
use Rattle.jop_base.specs.Id.{AreDigits, is_digit}
use Rattle.jop_base.specs.LockNames.{Name, IsName, kind_digit, file_name as lock_file_name}
use Rattle.jop_base.specs.Paths.{IsPath, file_name}
use Rattle.jop_base.specs.declared.lock_name.LockKind.{LockKind}
use Rattle.jop_base.specs.declared.lock_name.LockKind.TheVariants.{Sync, Exclusive}
use Rattle.jop_base.specs.declared.path.Path.{Path}
use Rattle.jop_base.specs.declared.path.Path.TheVariants.{Info, OldVersion, Item, Lock, Temp as TempFile}
use Rattle.dav_parts.proofs.BytesLemmas.{bytes_eq_is, bytes_eq_same}
use Rattle.dav_listing.specs.Hrefs.{rest_after}
use Rattle.dav_listing.specs.Listings.{has_slash, is_own_path}

pub false_unless : (b : Bool) → (b ≡ true → ⊥) → b ≡ false
false_unless true h = absurd (h refl)
false_unless false h = refl

-- ---- no slash

has_slash-append : (s t : List ℕ) → has_slash s ≡ false → has_slash t ≡ false
    → has_slash (s ++ t) ≡ false
has_slash-append s t a b =
    list_any-append (λ b. b == 47) s t ∙ or_from (has_slash s) (has_slash t) a b

digit_is_none : (d : ℕ) → is_digit d ≡ true → (d == 47) ≡ false
digit_is_none d h = grind (arith, nat_tests)

digits_have_none : (ds : List ℕ) → AreDigits ds → has_slash ds ≡ false
digits_have_none [] h = refl
digits_have_none (d ∷ ds) h =
    or_from (d == 47) (has_slash ds)
    (digit_is_none d (All-head (λ x. is_digit x ≡ true) d ds h))
    (digits_have_none ds (All-tail (λ x. is_digit x ≡ true) d ds h))

kind_is_none : (kind : LockKind) → (kind_digit kind == 47) ≡ false
kind_is_none Sync = refl
kind_is_none Exclusive = refl

type_is_none : (t : ℕ) → t ≤ 9 → ((48 + t) == 47) ≡ false
type_is_none t h = grind (arith, nat_tests)

lock_has_none : (name : Name) → IsName name → has_slash (lock_file_name name) ≡ false
lock_has_none name h =
    or_from (kind_digit name.kind == 47) _ (kind_is_none name.kind)
    (or_from ((48 + name.client_type) == 47) _ (type_is_none name.client_type h.client_type)
    (has_slash-append name.client (codes ".json") (digits_have_none name.client h.client.digits)
    refl))

-- the last row is of the files whose names are ids
pub name_has_no_slash : (path : Path) → IsPath path → has_slash (file_name path) ≡ false
name_has_no_slash Info h = refl
name_has_no_slash OldVersion h = refl
name_has_no_slash (Item id) h =
    has_slash-append id (codes ".md") (digits_have_none id h.digits) refl
name_has_no_slash (Lock name) h = lock_has_none name h
name_has_no_slash (TempFile id) h =
    has_slash-append id (codes ".tmp") (digits_have_none id h.digits) refl
name_has_no_slash path h = digits_have_none (file_name path) h.digits

-- the last row is of the files whose names are ids
pub name_is_long : (path : Path) → IsPath path → 0 < length (file_name path)
name_is_long Info h = omega arith
name_is_long OldVersion h = omega arith
name_is_long (Item id) h = omega (arith, length-append id (codes ".md"), h.long)
name_is_long (Lock name) h = omega arith
name_is_long (TempFile id) h = omega (arith, length-append id (codes ".tmp"), h.long)
name_is_long path h = omega (arith, h.long)

or_true : (b : Bool) → (b || true) ≡ true
or_true true = refl
or_true false = refl

pub no_slash_behind : (name : List ℕ) → has_slash name ≡ false
    → bytes_eq (drop (length name - 1) name) (codes "/") ≡ false
no_slash_behind name none =
    let n = length name - 1 in
    false_unless _ (λ it.
    let is : drop n name ≡ codes "/" = bytes_eq_is (drop n name) (codes "/") it in
    false≢true (sym none ∙ ap has_slash (sym (take-append-drop n name))
    ∙ list_any-append (λ b. b == 47) (take n name) (drop n name)
    ∙ ap (λ (t : List ℕ). has_slash (take n name) || has_slash t) is
    ∙ or_true (has_slash (take n name))))

-- ---- below a folder

pub not_own_path : (folder name : List ℕ) → 0 < length name
    → is_own_path folder (folder ++ name) ≡ false
not_own_path folder name long =
    or_from _ _
    (false_unless _ (λ it. omega (
      arith,
      length-append folder name,
      ap (λ (t : List ℕ). length t) (bytes_eq_is (folder ++ name) folder it),
    )))
    (false_unless _ (λ it. omega (
      arith,
      length-append folder name,
      length-take (length folder - 1) folder,
      ap (λ (t : List ℕ). length t)
          (bytes_eq_is (folder ++ name) (take (length folder - 1) folder) it),
    )))

both_hold : (a b : Bool) → a ≡ true → b ≡ true → (a && b) ≡ true
both_hold true b h k = k
both_hold false b h k = absurd (false≢true h)

chosen : (b : Bool) (x : List ℕ) → b ≡ true → (if b then Some x else None) ≡ Some x
chosen true x h = refl
chosen false x h = absurd (false≢true h)

pub rest_after-append : (folder name : List ℕ) → rest_after folder (folder ++ name) ≡ Some name
rest_after-append folder name =
    chosen _ _ (both_hold _ _ (grind (arith, nat_tests, length-append))
    (bytes_eq_same _ _ (take_at folder name (length folder) refl)))
    ∙ ap Some (drop_at folder name (length folder) refl)

rest_chosen : (b : Bool) (start path rest name : List ℕ) → (b ≡ true → path ≡ start ++ rest)
    → (if b then Some rest else None) ≡ Some name → path ≡ start ++ name
rest_chosen true start path rest name is e =
    is refl ∙ ap (λ (o : Option (List ℕ)). start ++ rest_or o) e
  where
    rest_or : Option (List ℕ) → List ℕ
    rest_or (Some t) = t
    rest_or None = []
rest_chosen false start path rest name is e = cc

-- what is found behind a folder's path is the rest of the path
pub rest_after-is : (start path name : List ℕ) → rest_after start path ≡ Some name
    → path ≡ start ++ name
rest_after-is start path name e =
    rest_chosen (nat_le (length start) (length path) && bytes_eq (take (length start) path) start)
    start path (drop (length start) path) name
    (λ both. sym (take-append-drop (length start) path)
    ∙ ap (λ (t : List ℕ). t ++ drop (length start) path) (bytes_eq_is (take (length start) path) start
    (and_parts (nat_le (length start) (length path)) (bytes_eq (take (length start) path) start) both).1))
    e
