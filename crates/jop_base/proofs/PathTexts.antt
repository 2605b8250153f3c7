-- The texts of files: which bytes they have, how long they are, and that each is one file's.
use Rattle.std.proofs.Common.{◌≡◌, ℕ, ◌+◌, ◌<◌, ◌≤◌, List, [], ◌∷◌, ◌++◌, length, get_or, drop, Bool, true, ◌==◌, refl, sym, ap, ◌∙◌, arith}
use Rattle.std.specs.List.{list_all}
use Rattle.std.specs.Prelude.{codes, nat_le, ◌&&◌, ◌||◌}
use Rattle.std.proofs.lemmas.Bool.{and_from, and_parts, false≢true}
use Rattle.std.proofs.lemmas.Bool.Decides.{nat_tests}
use Rattle.std.proofs.lemmas.List.{append_cancel_left, append_cancel_right, get_or_append_left, length-append}
use Rattle.std.proofs.lemmas.List.Elements.{All-head, All-tail}
use Rattle.std.proofs.lemmas.List.Folds.{list_all-append}
use Rattle.jop_base.specs.Id.{AreDigits, IsIdText, is_digit}
use Rattle.jop_base.specs.LockNames.{Name, IsName, kind_digit, file_name as lock_file_name}
use Rattle.jop_base.specs.Paths.{IsPath, dir_of, dir_prefix, file_name, path_text}
use Rattle.jop_base.specs.declared.dir.Dir.{Dir}
use Rattle.jop_base.specs.declared.dir.Dir.TheVariants.{Root}
use Rattle.jop_base.specs.declared.lock_name.LockKind.{LockKind}
use Rattle.jop_base.specs.declared.lock_name.LockKind.TheVariants.{Sync, Exclusive}
use Rattle.jop_base.specs.declared.path.Path.{Path}
use Rattle.jop_base.specs.declared.path.Path.TheVariants.{Info, OldVersion, Item, Blob, Lock, Temp as TempFile, Tomb}
use Rattle.jop_base.proofs.Folders.{dir_shown, path_shown, prefix_shown}

-- ---- bytes

-- a digit, a small letter, a point, a slash, or the line between the parts of a lock's name
abbrev pub is_plain : ℕ → Bool
is_plain b = (nat_le 46 b && nat_le b 57) || (b == 95 || (nat_le 97 b && nat_le b 122))

-- whatever holds of each plain byte holds of each byte of a plain text
pub plain_so : (test : ℕ → Bool) → ((b : ℕ) → is_plain b ≡ true → test b ≡ true)
    → (text : List ℕ) → list_all is_plain text ≡ true → list_all test text ≡ true
plain_so test so [] h = refl
plain_so test so (b ∷ text) h =
    let parts = and_parts (is_plain b) (list_all is_plain text) h in
    and_from (test b) (list_all test text) (so b parts.0) (plain_so test so text parts.1)

plain_append : (s t : List ℕ) → list_all is_plain s ≡ true → list_all is_plain t ≡ true
    → list_all is_plain (s ++ t) ≡ true
plain_append s t h k =
    list_all-append is_plain s t ∙ and_from (list_all is_plain s) (list_all is_plain t) h k

digit_plain : (d : ℕ) → is_digit d ≡ true → is_plain d ≡ true
digit_plain d h = grind (arith, nat_tests)

digits_plain : (ds : List ℕ) → AreDigits ds → list_all is_plain ds ≡ true
digits_plain [] h = refl
digits_plain (d ∷ ds) h =
    and_from (is_plain d) (list_all is_plain ds)
    (digit_plain d (All-head (λ x. is_digit x ≡ true) d ds h))
    (digits_plain ds (All-tail (λ x. is_digit x ≡ true) d ds h))

kind_plain : (kind : LockKind) → is_plain (kind_digit kind) ≡ true
kind_plain Sync = refl
kind_plain Exclusive = refl

type_plain : (t : ℕ) → t ≤ 9 → is_plain (48 + t) ≡ true
type_plain t h = grind (arith, nat_tests)

lock_plain : (name : Name) → IsName name → list_all is_plain (lock_file_name name) ≡ true
lock_plain name h =
    and_from (is_plain (kind_digit name.kind)) _ (kind_plain name.kind)
    (and_from (is_plain (48 + name.client_type)) _ (type_plain name.client_type h.client_type)
    (plain_append name.client (codes ".json") (digits_plain name.client h.client.digits) refl))

-- the last row is of the files whose names are ids
pub name_plain : (path : Path) → IsPath path → list_all is_plain (file_name path) ≡ true
name_plain Info h = refl
name_plain OldVersion h = refl
name_plain (Item id) h = plain_append id (codes ".md") (digits_plain id h.digits) refl
name_plain (Lock name) h = lock_plain name h
name_plain (TempFile id) h = plain_append id (codes ".tmp") (digits_plain id h.digits) refl
name_plain path h = digits_plain (file_name path) h.digits

pub prefix_plain : (dir : Dir) → list_all is_plain (dir_prefix dir) ≡ true
prefix_plain Root = refl
prefix_plain dir = refl

pub text_plain : (path : Path) → IsPath path → list_all is_plain (path_text path) ≡ true
text_plain path h =
    plain_append (dir_prefix (dir_of path)) (file_name path) (prefix_plain (dir_of path))
    (name_plain path h)

-- ---- lengths

-- the last row is of the files whose names are ids
name_short : (path : Path) → IsPath path → length (file_name path) ≤ 43
name_short Info h = omega arith
name_short OldVersion h = omega arith
name_short (Item id) h = omega (arith, length-append id (codes ".md"), h.long)
name_short (Lock name) h = omega (arith, length-append name.client (codes ".json"), h.client.long)
name_short (TempFile id) h = omega (arith, length-append id (codes ".tmp"), h.long)
name_short path h = omega (arith, h.long)

pub prefix_short : (dir : Dir) → length (dir_prefix dir) ≤ 16
prefix_short Root = omega arith
prefix_short dir = omega arith

pub text_short : (path : Path) → IsPath path → length (path_text path) ≤ 59
text_short path h = omega (
  arith,
  length-append (dir_prefix (dir_of path)) (file_name path),
  prefix_short (dir_of path),
  name_short path h,
)

-- ---- each name is one file's in its folder

not_info : (id : List ℕ) → IsIdText id → codes "info.json" ≡ id ++ codes ".md" → ⊥
not_info id h e =
    let long : 0 < length id = omega (arith, h.long) in
    let first : get_or id 0 0 ≡ 105 = sym (get_or_append_left id (codes ".md") 0 0 long)
    ∙ ap (λ (t : List ℕ). get_or t 0 0) (sym e) in
    false≢true (ap is_digit (sym first) ∙ h.digits 0 0 long)

kind_unique : (a b : LockKind) → kind_digit a ≡ kind_digit b → a ≡ b
kind_unique Sync Sync e = refl
kind_unique Sync Exclusive e = absurd (omega arith)
kind_unique Exclusive Sync e = absurd (omega arith)
kind_unique Exclusive Exclusive e = refl

lock_unique : (n m : Name) → lock_file_name n ≡ lock_file_name m → n ≡ m
lock_unique n m e =
    let kind = kind_unique n.kind m.kind (ap (λ (t : List ℕ). get_or t 0 0) e) in
    let shown : 48 + n.client_type ≡ 48 + m.client_type = ap (λ (t : List ℕ). get_or t 2 0) e in
    let type_is : n.client_type ≡ m.client_type = omega arith in
    let client : n.client ≡ m.client = append_cancel_right n.client m.client (codes ".json")
    (ap (λ (t : List ℕ). drop 4 t) e) in
    λ i. record { kind = kind i; client_type = type_is i; client = client i }

pub path_unique : (p q : Path) → IsPath p → IsPath q → dir_of p ≡ dir_of q
    → file_name p ≡ file_name q → p ≡ q
path_unique Info Info h k d e = refl
path_unique Info (Item j) h k d e = absurd (not_info j k e)
path_unique OldVersion OldVersion h k d e = refl
path_unique (Item i) Info h k d e = absurd (not_info i h (sym e))
path_unique (Item i) (Item j) h k d e =
    ap (λ (x : List ℕ). Item x) (append_cancel_right i j (codes ".md") e)
path_unique (Blob i) (Blob j) h k d e = ap (λ (x : List ℕ). Blob x) e
path_unique (Lock n) (Lock m) h k d e = ap (λ (x : Name). Lock x) (lock_unique n m e)
path_unique (TempFile i) (TempFile j) h k d e =
    ap (λ (x : List ℕ). TempFile x) (append_cancel_right i j (codes ".tmp") e)
path_unique (Tomb i) (Tomb j) h k d e = ap (λ (x : List ℕ). Tomb x) e
path_unique p q h k d e = absurd cc

-- ---- each text is one file's, and each folder's is its own

pub text_unique : (p q : Path) → IsPath p → IsPath q → path_text p ≡ path_text q → p ≡ q
text_unique p q h k e =
    let dir : dir_of p ≡ dir_of q = sym (path_shown p h) ∙ ap dir_shown e ∙ path_shown q k in
    let name : file_name p ≡ file_name q =
    append_cancel_left (dir_prefix (dir_of p)) (file_name p) (file_name q)
    (e ∙ ap (λ (d : Dir). dir_prefix d ++ file_name q) (sym dir)) in
    path_unique p q h k dir name

pub prefix_unique : (a b : Dir) → dir_prefix a ≡ dir_prefix b → a ≡ b
prefix_unique a b e = sym (prefix_shown a) ∙ ap dir_shown e ∙ prefix_shown b
