-- Files by their paths, after one is put and after one is deleted; and those of a folder.
use denote.Enum.Bare.{same_true}
use Rattle.std.proofs.Common.{◌≡◌, ◌∙◌, refl, sym, ap, subst, ℕ, List, [], ◌∷◌, Bool, true, false, Some, None, cond}
use Rattle.std.specs.Prelude.{All, bytes_eq}
use Rattle.std.proofs.lemmas.Bool.{cond_both, cond-true}
use Rattle.std.proofs.lemmas.List.Elements.{All-nil, All-cons, All-head, All-tail}
use Rattle.jop_base.proofs.KeyedLaws.{same_text, bytes_eq-refl, text_lt-trans, All-at, at-put, at-put_same, at-put_other, at-cut, at-cut_other, IsSorted-put, IsSorted-cut}
use Rattle.jop_base.specs.Keyed.{at, put, cut, text_lt, IsAfter, IsSorted}
use Rattle.jop_base.specs.Paths.{dir_of, path_text}
use Rattle.jop_base.specs.contracts.dir.Dir.{the_type}
use Rattle.jop_base.specs.declared.dir.Dir.{Dir}
use Rattle.jop_base.specs.declared.path.Path.{Path}
use Rattle.jop_target.specs.declared.reply.Entry.{Entry}
use Rattle.jop_target.specs.declared.tree.File.{File}
use Rattle.jop_target.specs.Store.{file_key, entry_key, is_same, is_same_dir, file_at, with_file, without_file, entries_in, entry_of}

-- ---- a file that is put, or deleted

pub file_at-put : (files : List File) (file : File) →
    file_at (with_file files file) file.path ≡ Some file
file_at-put files file = at-put_same file_key files file

-- a put leaves each file of another path
pub file_at-other_put : (files : List File) (file : File) (p : Path) →
    is_same file.path p ≡ false → file_at (with_file files file) p ≡ file_at files p
file_at-other_put files file p other = at-put_other file_key files file (path_text p) other

pub file_at-delete : (files : List File) (p : Path) →
    IsSorted file_key files → file_at (without_file files p) p ≡ None
file_at-delete files p sorted = at-cut file_key files (path_text p) sorted

-- a delete leaves each file of another path
pub file_at-other_delete : (files : List File) (q p : Path) →
    is_same q p ≡ false → file_at (without_file files q) p ≡ file_at files p
file_at-other_delete files q p other = at-cut_other file_key files (path_text q) (path_text p) other

-- ---- what holds of all in a sorted list

at-first : {T : Type 0} (key : T → List ℕ) (y : T) (ys : List T) → at key (y ∷ ys) (key y) ≡ Some y
unfolding at
at-first key y ys =
    cond-true (bytes_eq (key y) (key y)) (Some y) (at key ys (key y)) (bytes_eq-refl (key y))

-- no other has the first one's key
at-rest : {T : Type 0} (key : T → List ℕ) (y : T) (ys : List T) →
    IsSorted key (y ∷ ys) → at key ys (key y) ≡ None
unfolding cut
at-rest key y ys sorted =
    let same = bytes_eq-refl (key y) in
    let rest = cond-true (bytes_eq (key y) (key y)) ys (y ∷ cut key ys (key y)) same in
    ap (λ (zs : List _). at key zs (key y)) (sym rest) ∙ at-cut key (y ∷ ys) (key y) sorted

at-later_if : {T : Type 0} (key : T → List ℕ) (y : T) (ys : List T) (x : T) (same : Bool) →
    IsSorted key (y ∷ ys) → bytes_eq (key y) (key x) ≡ same → at key ys (key x) ≡ Some x →
    cond same (Some y) (at key ys (key x)) ≡ Some x
at-later_if key y ys x true sorted same there =
    let none = at-rest key y ys sorted in
    let one = same_text (key y) (key x) same in
    cc (ap (at key ys) one)
at-later_if key y ys x false sorted same there = there

at-later : {T : Type 0} (key : T → List ℕ) (y : T) (ys : List T) (x : T) →
    IsSorted key (y ∷ ys) → at key ys (key x) ≡ Some x → at key (y ∷ ys) (key x) ≡ Some x
unfolding at
at-later key y ys x sorted there =
    at-later_if key y ys x (bytes_eq (key y) (key x)) sorted refl there

-- each stands at its key
All-from_at : {T : Type 0} (key : T → List ℕ) (P : T → Type 0) (xs : List T) →
    IsSorted key xs → ((x : T) → at key xs (key x) ≡ Some x → P x) → All P xs
All-from_at key P [] sorted each = All-nil P
All-from_at key P (y ∷ ys) sorted each =
    All-cons P y ys (each y (at-first key y ys))
    (All-from_at key P ys sorted.1 (λ x there. each x (at-later key y ys x sorted there)))

put_if : {T : Type 0} (key : T → List ℕ) (P Q : T → Type 0) (xs : List T) (x y : T) (same : Bool) →
    ((z : T) → bytes_eq (key x) (key z) ≡ false → P z → Q z) → All P xs → Q x →
    bytes_eq (key x) (key y) ≡ same → cond same (Some x) (at key xs (key y)) ≡ Some y → Q y
put_if key P Q xs x y true other old new same there = let it : x ≡ y = cc in subst Q it new
put_if key P Q xs x y false other old new same there =
    other y same (All-at key P xs (key y) y old there)

pub All-put_other : {T : Type 0} (key : T → List ℕ) (P Q : T → Type 0) (xs : List T) (x : T) →
    IsSorted key xs → ((y : T) → bytes_eq (key x) (key y) ≡ false → P y → Q y) → All P xs → Q x →
    All Q (put key xs x)
All-put_other key P Q xs x sorted other old new =
    All-from_at key Q (put key xs x) (IsSorted-put key xs x sorted) (λ y there.
    let stood = sym (at-put key xs x (key y)) ∙ there in
    put_if key P Q xs x y (bytes_eq (key x) (key y)) other old new refl stood)

cut_if : {T : Type 0} (key : T → List ℕ) (P Q : T → Type 0)
    (xs : List T) (k : List ℕ) (y : T) (same : Bool) →
    IsSorted key xs → ((z : T) → bytes_eq k (key z) ≡ false → P z → Q z) → All P xs →
    bytes_eq k (key y) ≡ same → at key (cut key xs k) (key y) ≡ Some y → Q y
cut_if key P Q xs k y true sorted other old same there =
    let none = at-cut key xs k sorted in
    let one = same_text k (key y) same in
    cc (ap (at key (cut key xs k)) one)
cut_if key P Q xs k y false sorted other old same there =
    other y same (All-at key P xs (key y) y old (sym (at-cut_other key xs k (key y) same) ∙ there))

pub All-cut_other : {T : Type 0} (key : T → List ℕ) (P Q : T → Type 0) (xs : List T) (k : List ℕ) →
    IsSorted key xs → ((y : T) → bytes_eq k (key y) ≡ false → P y → Q y) → All P xs →
    All Q (cut key xs k)
All-cut_other key P Q xs k sorted other old =
    All-from_at key Q (cut key xs k) (IsSorted-cut key xs k sorted) (λ y there.
    cut_if key P Q xs k y (bytes_eq k (key y)) sorted other old refl there)

-- ---- the files of a folder

pub All-entries_in : (P : Entry → Type 0) (fs : List File) (dir : Dir) →
    All (λ (f : File). P (entry_of f)) fs → All P (entries_in fs dir)
unfolding entries_in
All-entries_in P [] dir all = All-nil P
All-entries_in P (f ∷ fs) dir all =
    let of_file : File → Type 0 = λ g. P (entry_of g) in
    let rest = All-entries_in P fs dir (All-tail of_file f fs all) in
    cond_both (is_same_dir (dir_of f.path) dir) _ _ (All P)
    (λ same. All-cons P (entry_of f) (entries_in fs dir) (All-head of_file f fs all) rest)
    (λ apart. rest)

pub same_dir : (d e : Dir) → is_same_dir d e ≡ true → d ≡ e
same_dir d e same = same_true the_type tt d e same

pub entries_in_dir : (fs : List File) (dir : Dir) →
    All (λ (e : Entry). dir_of e.path ≡ dir) (entries_in fs dir)
unfolding entries_in
entries_in_dir [] dir = All-nil (λ (e : Entry). dir_of e.path ≡ dir)
entries_in_dir (f ∷ fs) dir =
    let P : Entry → Type 0 = λ e. dir_of e.path ≡ dir in
    let rest = entries_in_dir fs dir in
    cond_both (is_same_dir (dir_of f.path) dir) _ _ (All P)
    (λ same. All-cons P (entry_of f) (entries_in fs dir) (same_dir (dir_of f.path) dir same) rest)
    (λ apart. rest)

IsAfter-later : (k : List ℕ) (f : File) (fs : List File) →
    text_lt k (file_key f) ≡ true → IsAfter file_key (file_key f) fs → IsAfter file_key k fs
IsAfter-later k f [] before after = tt
IsAfter-later k f (g ∷ fs) before after = text_lt-trans k (file_key f) (file_key g) before after

IsAfter-entries_in : (k : List ℕ) (fs : List File) (dir : Dir) →
    IsAfter file_key k fs → IsSorted file_key fs → IsAfter entry_key k (entries_in fs dir)
unfolding entries_in
IsAfter-entries_in k [] dir after sorted = tt
IsAfter-entries_in k (f ∷ fs) dir after sorted =
    cond_both (is_same_dir (dir_of f.path) dir) _ _ (IsAfter entry_key k)
    (λ same. after)
    (λ apart. IsAfter-entries_in k fs dir (IsAfter-later k f fs after sorted.0) sorted.1)

pub IsSorted-entries_in : (fs : List File) (dir : Dir) →
    IsSorted file_key fs → IsSorted entry_key (entries_in fs dir)
unfolding entries_in
IsSorted-entries_in [] dir sorted = tt
IsSorted-entries_in (f ∷ fs) dir sorted =
    let rest = IsSorted-entries_in fs dir sorted.1 in
    cond_both (is_same_dir (dir_of f.path) dir) _ _ (IsSorted entry_key)
    (λ same. (IsAfter-entries_in (file_key f) fs dir sorted.0 sorted.1, rest))
    (λ apart. rest)
