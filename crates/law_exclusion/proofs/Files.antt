-- What a put of a file and a new folder change in a tree, and what they leave.
use Rattle.std.proofs.Common.{◌≡◌, ◌∙◌, refl, sym, ap, arith, ℕ, List, [], ◌∷◌, ◌++◌, append_assoc, codes, Bool, true, false, ◌||◌, cond, ◌≢◌, ◌+◌}
use Rattle.std.specs.Prelude.{bytes_eq}
use Rattle.std.proofs.lemmas.Bool.{eq-eqb, false≢true}
use Rattle.jop_base.proofs.Folders.{apart, dir_shown, prefix_shown}
use Rattle.jop_base.proofs.KeyedLaws.{same_text, bytes_eq-refl}
use Rattle.jop_base.specs.Keyed.{put, cut, text_lt}
use Rattle.jop_base.specs.LockNames.{Name, kind_digit}
use Rattle.jop_base.specs.Paths.{dir_text, path_text, with_slash}
use Rattle.jop_base.specs.declared.dir.Dir.{Dir}
use Rattle.jop_base.specs.declared.path.Path.{Path}
use Rattle.jop_base.specs.declared.path.Path.TheVariants.{Info as InfoFile, OldVersion, Item, Lock as LockFile}
use Rattle.jop_target.specs.Store.{file_key, is_same, file_at, with_file, without_file, entries_in, dir_number, is_same_dir}
use Rattle.jop_target.specs.declared.tree.Content.{Content}
use Rattle.jop_target.specs.declared.tree.File.{File}
use Rattle.jop_target.proofs.Files.{file_at-other_delete, file_at-other_put}
use Rattle.lease.proofs.LockFiles.{last_same, never}
use Rattle.sync_info.specs.declared.info.Info.{Info}
use Rattle.target_upgrade.specs.Keys.{with_key}
use Rattle.target_upgrade.specs.Steps.{SUPPORTED, at_version, with_item}
use Rattle.law_exclusion.specs.Target.{key_at, with_keys, items_of, upgraded_info, with_dir, has_dir, is_lock}

-- ---- paths

pub differs : (p q : Path) → (path_text p ≡ path_text q → ⊥) → is_same p q ≡ false
differs p q h = never (is_same p q) (λ same. h (same_text (path_text p) (path_text q) same))

-- files whose texts show different folders are two
pub apart_by_folder : (p q : Path) →
    is_same_dir (dir_shown (path_text p)) (dir_shown (path_text q)) ≡ false → is_same p q ≡ false
apart_by_folder p q other = differs p q (apart p q (λ same.
    false≢true (sym other ∙ eq-eqb (dir_number (dir_shown (path_text p)))
    (dir_number (dir_shown (path_text q))) (ap dir_number same))))

-- no item has a text that ends otherwise
ends_apart : (id front text : List ℕ) (last : ℕ) → text ≡ front ++ last ∷ [] → last ≢ 100 →
    path_text (Item id) ≡ text → ⊥
ends_apart id front text last ends other h = other (sym (last_same (id ++ codes ".m") front 100 last
    (append_assoc id (codes ".m") (100 ∷ []) ∙ (h ∙ ends))))

lock_ends : (name : Name) → path_text (LockFile name) ≡ (codes "locks/" ++
    (kind_digit name.kind ∷ 95 ∷ (48 + name.client_type) ∷ 95 ∷ (name.client ++ codes ".jso"))) ++
    110 ∷ []
lock_ends name = ap (λ (t : List ℕ). codes "locks/" ++ (kind_digit name.kind ∷ 95 ∷
    (48 + name.client_type) ∷ 95 ∷ t)) (sym (append_assoc name.client (codes ".jso") (110 ∷ [])))

-- a path that isn't an item's text
pub record IsNoItem (path : Path) : Type 0 where
  pub left : (id : List ℕ) → is_same path (Item id) ≡ false
  pub right : (id : List ℕ) → is_same (Item id) path ≡ false

no_item : (path : Path) (front : List ℕ) (last : ℕ) → path_text path ≡ front ++ last ∷ [] → last ≢
    100 → IsNoItem path
no_item path front last ends other = record {
  left = λ id. differs path (Item id) (λ h. ends_apart id front (path_text path) last ends other
      (sym h));
  right = λ id. differs (Item id) path (λ h. ends_apart id front (path_text path) last ends other
      h);
}

pub info_no_item : IsNoItem InfoFile
info_no_item = no_item InfoFile (codes "info.jso") 110 refl (λ h. omega (arith, h))

pub old_no_item : IsNoItem OldVersion
old_no_item = no_item OldVersion (codes ".sync/version.tx") 116 refl (λ h. omega (arith, h))

pub lock_no_item : (name : Name) → IsNoItem (LockFile name)
lock_no_item name = no_item (LockFile name) (codes "locks/" ++
    (kind_digit name.kind ∷ 95 ∷ (48 + name.client_type) ∷ 95 ∷ (name.client ++ codes ".jso"))) 110
    (lock_ends name) (λ h. omega (arith, h))

-- ---- the two files that tell the version

abbrev pub is_version_file : Path → Bool
is_version_file InfoFile = true
is_version_file OldVersion = true
is_version_file path = false

pub old_apart_info : is_same OldVersion InfoFile ≡ false
old_apart_info = apart_by_folder OldVersion InfoFile refl

pub info_apart_old : is_same InfoFile OldVersion ≡ false
info_apart_old = apart_by_folder InfoFile OldVersion refl

pub info_apart : (p : Path) → is_lock p ≡ false → is_version_file p ≡ false → is_same InfoFile p ≡
    false
info_apart (Item id) l v = info_no_item.left id
info_apart InfoFile l v = cc
info_apart OldVersion l v = cc
info_apart (LockFile name) l v = cc
info_apart p l v = apart_by_folder InfoFile p refl

pub old_apart : (p : Path) → is_lock p ≡ false → is_version_file p ≡ false → is_same OldVersion p ≡
    false
old_apart (Item id) l v = old_no_item.left id
old_apart InfoFile l v = cc
old_apart OldVersion l v = cc
old_apart (LockFile name) l v = cc
old_apart p l v = apart_by_folder OldVersion p refl

-- a lock is no other file
pub lock_apart : (name : Name) (p : Path) → is_lock p ≡ false → is_same (LockFile name) p ≡ false
lock_apart name (Item id) l = (lock_no_item name).left id
lock_apart name (LockFile other) l = cc
lock_apart name p l = apart_by_folder (LockFile name) p refl

-- ---- items

items_of-cons : (path : Path) (content : Content) (stamp : ℕ) (fs : List File) → items_of
    (record { path = path; content = content; stamp = stamp } ∷ fs) ≡ with_item path (items_of fs)
unfolding entries_in
items_of-cons (Item id) content stamp fs = refl
items_of-cons p content stamp fs = refl

items_cons : (f : File) (fs : List File) → items_of (f ∷ fs) ≡ with_item f.path (items_of fs)
items_cons f fs = items_of-cons f.path f.content f.stamp fs

-- a file that isn't an item adds none
adds_none : (p q : Path) (ids : List (List ℕ)) → IsNoItem q → is_same p q ≡ true → with_item p ids ≡
    ids
adds_none (Item id) q ids none h = cc (none.right id, h)
adds_none p q ids none h = refl

pub items_of-with : (fs : List File) (f : File) → IsNoItem f.path → items_of (with_file fs f) ≡
    items_of fs
unfolding put
items_of-with [] f none = items_cons f [] ∙ adds_none f.path f.path (items_of []) none
    (bytes_eq-refl (path_text f.path))
items_of-with (g ∷ gs) f none = go (is_same g.path f.path) (text_lt (file_key f) (file_key g)) refl
    (items_of-with gs f none) where
      alone : (fs : List File) → items_of (f ∷ fs) ≡ items_of fs
      alone fs = items_cons f fs ∙ adds_none f.path f.path (items_of fs) none
          (bytes_eq-refl (path_text f.path))

      go : (s b : Bool) → is_same g.path f.path ≡ s → items_of (with_file gs f) ≡ items_of gs → items_of
          (cond s (f ∷ gs) (cond b (f ∷ g ∷ gs) (g ∷ with_file gs f))) ≡ items_of (g ∷ gs)
      go true b h rest = alone gs ∙ sym (items_cons g gs ∙ adds_none g.path f.path (items_of gs) none h)
      go false true h rest = alone (g ∷ gs)
      go false false h rest = items_cons g (with_file gs f) ∙ (ap (with_item g.path) rest ∙ sym
          (items_cons g gs))

pub items_of-without : (fs : List File) (q : Path) → IsNoItem q → items_of (without_file fs q) ≡
    items_of fs
unfolding cut entries_in
items_of-without [] q none = refl
items_of-without (g ∷ gs) q none = go (is_same g.path q) refl (items_of-without gs q none) where
  go : (s : Bool) → is_same g.path q ≡ s → items_of (without_file gs q) ≡ items_of gs → items_of
      (cond s gs (g ∷ without_file gs q)) ≡ items_of (g ∷ gs)
  go true h rest = sym (items_cons g gs ∙ adds_none g.path q (items_of gs) none h)
  go false h rest = items_cons g (without_file gs q) ∙ (ap (with_item g.path) rest ∙ sym
      (items_cons g gs))

-- ---- keys

-- the same items have the same files
pub record HasSameItems (fs gs : List File) : Type 0 where
  pub items : items_of gs ≡ items_of fs
  pub files : (id : List ℕ) → file_at gs (Item id) ≡ file_at fs (Item id)

pub same_items : (fs : List File) → HasSameItems fs fs
same_items fs = record { items = refl; files = λ id. refl }

pub same_with : (fs : List File) (f : File) → IsNoItem f.path → HasSameItems fs (with_file fs f)
same_with fs f none = record {
  items = items_of-with fs f none;
  files = λ id. file_at-other_put fs f
      (Item id) (none.left id);
}

pub same_without : (fs : List File) (q : Path) → IsNoItem q → HasSameItems fs (without_file fs q)
same_without fs q none = record {
  items = items_of-without fs q none;
  files = λ id.
      file_at-other_delete fs q (Item id) (none.left id);
}

pub with_keys-same : (fs gs : List File) → HasSameItems fs gs → (ids : List (List ℕ))
    (info : Info) → with_keys gs ids info ≡ with_keys fs ids info
with_keys-same fs gs same [] info = refl
with_keys-same fs gs same (id ∷ ids) info = with_keys-same fs gs same ids
    (with_key (key_at gs id) info) ∙ rw (same.files id) refl

pub upgraded_info-same : (fs gs : List File) (info : Info) → HasSameItems fs gs → upgraded_info gs
    info ≡ upgraded_info fs info
unfolding upgraded_info
upgraded_info-same fs gs info same = ap (λ (ids : List (List ℕ)). with_keys gs ids
    (at_version SUPPORTED info)) same.items
    ∙ with_keys-same fs gs same (items_of fs) (at_version SUPPORTED info)

-- ---- folders

-- a folder's name is its own
same_name : (d e : Dir) → bytes_eq (dir_text d) (dir_text e) ≡ true → d ≡ e
same_name d e h = sym (prefix_shown d)
    ∙ ap (λ (name : List ℕ). dir_shown (with_slash name)) (same_text (dir_text d) (dir_text e) h)
    ∙ prefix_shown e

twice : (a b c : Bool) → a ≡ b → (a || c) ≡ (b || (a || c))
twice true true c h = refl
twice false false c h = refl
twice true false c h = cc
twice false true c h = cc

swapped : (a b c : Bool) → (a || (b || c)) ≡ (b || (a || c))
swapped true true c = refl
swapped true false c = refl
swapped false true c = refl
swapped false false c = refl

has_dir_if : (g d e : Dir) (gs : List Dir) (same before : Bool) →
    bytes_eq (dir_text g) (dir_text d) ≡ same →
    has_dir (with_dir gs d) e ≡ (is_same_dir d e || has_dir gs e) →
    has_dir (cond same (d ∷ gs) (cond before (d ∷ g ∷ gs) (g ∷ with_dir gs d))) e
    ≡ (is_same_dir d e || (is_same_dir g e || has_dir gs e))
unfolding has_dir
has_dir_if g d e gs true before same later =
    twice (is_same_dir d e) (is_same_dir g e) (has_dir gs e)
    (ap (λ (x : Dir). is_same_dir x e) (sym (same_name g d same)))
    ∙ (swapped (is_same_dir g e) (is_same_dir d e) (has_dir gs e))
has_dir_if g d e gs false true same later = refl
has_dir_if g d e gs false false same later =
    ap (λ (t : Bool). is_same_dir g e || t) later
    ∙ swapped (is_same_dir g e) (is_same_dir d e) (has_dir gs e)

pub has_dir-with : (ds : List Dir) (d e : Dir) →
    has_dir (with_dir ds d) e ≡ (is_same_dir d e || has_dir ds e)
unfolding has_dir put
has_dir-with [] d e = refl
has_dir-with (g ∷ gs) d e =
    has_dir_if g d e gs (bytes_eq (dir_text g) (dir_text d))
    (text_lt (dir_text d) (dir_text g)) refl (has_dir-with gs d e)
