-- What calls make of the file of an item.
use Rattle.std.proofs.Common.{◌≡◌, ◌∙◌, refl, sym, ap, subst, arith, cond, ℕ, List, [], ◌∷◌, ◌++◌, Bool, true, false, not, Option, Some, None}
use Rattle.std.specs.Prelude.{bytes_eq, codes, option_map}
use Rattle.std.proofs.lemmas.Bool.{false≢true}
use Rattle.std.proofs.lemmas.List.{append_cancel_right}
use Rattle.std.proofs.lemmas.List.Elements.{All-head}
use Rattle.jop_base.proofs.Folders.{dir_shown, path_shown}
use Rattle.jop_base.proofs.KeyedLaws.{same_text, bytes_eq-refl, bytes_eq-other, at-put_same, at-cut, IsSorted-put, IsSorted-cut}
use Rattle.jop_base.specs.Id.{IsIdText, is_digit}
use Rattle.jop_base.specs.Keyed.{at, put, cut, IsSorted}
use Rattle.jop_base.specs.Paths.{path_text}
use Rattle.jop_base.specs.declared.dir.Dir.TheVariants.{Root}
use Rattle.jop_base.specs.declared.path.Path.{Path}
use Rattle.jop_base.specs.declared.path.Path.TheVariants.{Info as InfoFile, Item as ItemFile, Blob}
use Rattle.jop_target.proofs.Files.{file_at-other_put, file_at-other_delete}
use Rattle.jop_target.specs.History.{tree_with}
use Rattle.jop_target.specs.Store.{file_key, is_same, file_at, with_file, without_file, tree_after}
use Rattle.jop_target.specs.declared.call.Call.{Call}
use Rattle.jop_target.specs.declared.call.Call.TheVariants.{List as ListDir, Get, Put, Delete, MakeDir, GetBlob, PutBlob}
use Rattle.jop_target.specs.declared.tree.Content.TheVariants.{Whole, Sized}
use Rattle.jop_target.specs.declared.tree.File.{File}
use Rattle.jop_target.specs.declared.tree.Tree.{Tree}
use Rattle.law_licences.specs.Checks.{is_file_of}
use Rattle.law_kept.specs.Telling.{content_bytes, bytes_at}

-- ---- paths

its_text : (id : List ℕ) (path : Path) → is_file_of id path ≡ true
    → path_text path ≡ path_text (ItemFile id)
its_text id (ItemFile other) is =
    ap (λ (t : List ℕ). path_text (ItemFile t)) (same_text other id is)
its_text id path is = absurd (false≢true is)

-- the text begins with no digit
abbrev begins_otherwise : List ℕ → Bool
begins_otherwise [] = false
begins_otherwise (c ∷ cs) = not (is_digit c)

-- an item's file begins with a digit
apart_by_first : (text id : List ℕ) → begins_otherwise text ≡ true → IsIdText id
    → text ≡ id ++ codes ".md" → ⊥
apart_by_first [] id begins is same = false≢true begins
apart_by_first (c ∷ cs) [] begins is same = absurd (omega (arith, is.long))
apart_by_first (c ∷ cs) (d ∷ ds) begins is same =
    let first : c ≡ d = cc in
    let digit : is_digit d ≡ true = All-head (λ (k : ℕ). is_digit k ≡ true) d ds is.digits in
    false≢true (ap not (sym digit) ∙ (ap (λ (k : ℕ). not (is_digit k)) (sym first) ∙ begins))

other_text : (id : List ℕ) (path : Path) → IsIdText id → is_file_of id path ≡ false
    → path_text path ≡ path_text (ItemFile id) → ⊥
other_text id (ItemFile other) is isnt same =
    let ids = append_cancel_right other id (codes ".md") same in
    let test : bytes_eq other id ≡ true =
    ap (λ (t : List ℕ). bytes_eq t id) ids ∙ bytes_eq-refl id in
    false≢true (sym isnt ∙ test)
other_text id InfoFile is isnt same = apart_by_first (path_text InfoFile) id refl is same
other_text id path is isnt same =
    let root : dir_shown (path_text path) ≡ Root = ap dir_shown same ∙ path_shown (ItemFile id) is in
    absurd cc

-- a file of another path is another one
pub not_its : (id : List ℕ) (path : Path) → IsIdText id → is_file_of id path ≡ false
    → is_same path (ItemFile id) ≡ false
not_its id path is isnt =
    bytes_eq-other (path_text path) (path_text (ItemFile id)) (other_text id path is isnt)

-- ---- calls

-- the file at the item's path is that at another path of its text
pub file_at-its : (id : List ℕ) (files : List File) (path : Path) → is_file_of id path ≡ true
    → file_at files path ≡ file_at files (ItemFile id)
file_at-its id files path is = ap (at file_key files) (its_text id path is)

-- what a call that lands makes of the bytes
abbrev pub effect : List ℕ → Option (List ℕ) → Call → Option (List ℕ)
effect id old (Put path bytes) = cond (is_file_of id path) (Some bytes) old
effect id old (Delete path) = cond (is_file_of id path) None old
effect id old call = old

put_bytes : (id : List ℕ) (files : List File) (path : Path) (bytes : List ℕ) (moment : ℕ)
    → IsIdText id
    → bytes_at id
    (with_file files (record { path = path; content = Whole bytes; stamp = moment }))
    ≡ cond (is_file_of id path) (Some bytes) (bytes_at id files)
put_bytes id files path bytes moment text = by (is_file_of id path) refl where
  by : (its : Bool) → is_file_of id path ≡ its
      → bytes_at id
      (with_file files (record { path = path; content = Whole bytes; stamp = moment }))
      ≡ cond its (Some bytes) (bytes_at id files)
  by true is =
      let new : File = record { path = path; content = Whole bytes; stamp = moment } in
      let there : at file_key (put file_key files new) (path_text path) ≡ Some new =
      at-put_same file_key files new in
      ap (option_map (λ f. content_bytes f.content))
      (subst (λ (text : List ℕ). at file_key (put file_key files new) text ≡ Some new)
      (its_text id path is) there)
  by false isnt =
      let new : File = record { path = path; content = Whole bytes; stamp = moment } in
      ap (option_map (λ f. content_bytes f.content))
      (file_at-other_put files new (ItemFile id) (not_its id path text isnt))

delete_bytes : (id : List ℕ) (files : List File) (path : Path) → IsIdText id
    → IsSorted file_key files
    → bytes_at id (without_file files path) ≡ cond (is_file_of id path) None (bytes_at id files)
delete_bytes id files path text sorted = by (is_file_of id path) refl where
  by : (its : Bool) → is_file_of id path ≡ its
      → bytes_at id (without_file files path) ≡ cond its None (bytes_at id files)
  by true is =
      let gone : at file_key (cut file_key files (path_text path)) (path_text path) ≡ None =
      at-cut file_key files (path_text path) sorted in
      ap (option_map (λ f. content_bytes f.content))
      (subst (λ (text : List ℕ). at file_key (cut file_key files (path_text path)) text ≡ None)
      (its_text id path is) gone)
  by false isnt =
      ap (option_map (λ f. content_bytes f.content))
      (file_at-other_delete files path (ItemFile id) (not_its id path text isnt))

pub bytes_after_call : (id : List ℕ) (tree : Tree) (moment : ℕ) (call : Call) → IsIdText id
    → IsSorted file_key tree.files
    → bytes_at id (tree_after tree moment call).files ≡ effect id (bytes_at id tree.files) call
unfolding tree_after
bytes_after_call id tree moment (Put path bytes) is sorted =
    put_bytes id tree.files path bytes moment is
bytes_after_call id tree moment (Delete path) is sorted = delete_bytes id tree.files path is sorted
bytes_after_call id tree moment (PutBlob b len) is sorted =
    let new : File = record { path = Blob b; content = Sized len; stamp = moment } in
    ap (option_map (λ f. content_bytes f.content))
    (file_at-other_put tree.files new (ItemFile id) (not_its id (Blob b) is refl))
bytes_after_call id tree moment (ListDir dir) is sorted = refl
bytes_after_call id tree moment (Get path) is sorted = refl
bytes_after_call id tree moment (MakeDir dir) is sorted = refl
bytes_after_call id tree moment (GetBlob b) is sorted = refl

pub sorted_after : (tree : Tree) (moment : ℕ) (call : Option Call) → IsSorted file_key tree.files
    → IsSorted file_key (tree_with tree moment call).files
unfolding tree_after
sorted_after tree moment None sorted = sorted
sorted_after tree moment (Some (Put path bytes)) sorted =
    IsSorted-put file_key tree.files (record { path = path; content = Whole bytes; stamp = moment })
    sorted
sorted_after tree moment (Some (Delete path)) sorted =
    IsSorted-cut file_key tree.files (path_text path) sorted
sorted_after tree moment (Some (PutBlob b len)) sorted =
    IsSorted-put file_key tree.files (record { path = Blob b; content = Sized len; stamp = moment })
    sorted
sorted_after tree moment (Some (ListDir dir)) sorted = sorted
sorted_after tree moment (Some (Get path)) sorted = sorted
sorted_after tree moment (Some (MakeDir dir)) sorted = sorted
sorted_after tree moment (Some (GetBlob b)) sorted = sorted
