-- What has a file's name is that file or wrong, and what is a file has its name.
use Rattle.std.proofs.Common.{◌≡◌, ◌∙◌, refl, sym, ap, subst, arith, ℕ, ◌-◌, List, ◌++◌, length, take, drop, Bool, true, false, Option, Some, None, inl, inr}
use Rattle.std.specs.Prelude.{codes, ◌||◌, ◌==◌, bytes_eq}
use Rattle.std.proofs.lemmas.Bool.{or_from, false≢true}
use Rattle.std.proofs.lemmas.Bool.Decides.{nat_tests}
use Rattle.jop_base.specs.Paths.{IsPath, dir_of, file_name}
use Rattle.jop_base.specs.declared.dir.Dir.{Dir}
use Rattle.jop_base.specs.declared.path.Path.{Path}
use Rattle.jop_base.specs.declared.path.Path.TheVariants.{Info}
use Rattle.jop_base.proofs.PathTexts.{path_unique}
use Rattle.jop_target.specs.declared.reply.Entry.{Entry}
use Rattle.dav_listing.specs.Hrefs.{path_of, rest_after}
use Rattle.dav_listing.specs.Listings.{IsBareClass, IsClass, IsClassCut, IsClassFor, IsClassIf, IsClassIn, IsClassOf, IsUnnamedClass, dated_class, file_class, has_slash, is_own_path, is_wrong, own_class}
use Rattle.dav_listing.specs.declared.class.Class.{Class}
use Rattle.dav_listing.specs.declared.class.Class.TheVariants.{File, Foreign, Wrong}
use Rattle.dav_listing.specs.declared.member.Member.{Member}
use Rattle.dav_listing.specs.declared.member.Props.{Props}
use Rattle.dav_listing.proofs.FileNames.{name_has_no_slash, name_is_long, no_slash_behind, not_own_path, rest_after-append, rest_after-is}

-- ---- what has a file's name

bare_class_of : (dir : Dir) (path : Path) (props : Props) (c : Class) → dir_of path ≡ dir
    → IsPath path → IsBareClass dir (file_name path) false props c → c ≡ file_class path false props
bare_class_of dir path props c lies valid (inl (p, named, is_path, is)) =
    let same = path_unique p path is_path valid (named.lies ∙ sym lies) named.bears in
    is ∙ ap (λ (q : Path). file_class q false props) same
bare_class_of dir path props c lies valid (inr (none, is)) =
    absurd (none path valid (record { lies = lies; bears = refl }))

pub class_of_file : (dir : Dir) (folder : List ℕ) (m : Member) (path : Path) (c : Class)
    → path_of m.href ≡ Some (folder ++ file_name path) → dir_of path ≡ dir → IsPath path
    → IsClass dir folder m c → c ≡ file_class path false m.props
class_of_file dir folder m path c named lies valid h =
    let name = file_name path in
    let none = name_has_no_slash path valid in
    let long = name_is_long path valid in
    let at = subst (λ (p : Option (List ℕ)). IsClassOf dir folder p m.props c) named h in
    let other = subst (λ (b : Bool). IsClassFor b dir folder (folder ++ name) m.props c)
    (not_own_path folder name long) at in
    let inside = subst (λ (n : Option (List ℕ)). IsClassIn dir n m.props c)
    (rest_after-append folder name) other in
    let cut = subst (λ (b : Bool). IsClassCut b dir name m.props c) (no_slash_behind name none)
    inside in
    let empty : (length name == 0) ≡ false = grind (arith, nat_tests) in
    let plain = subst (λ (b : Bool). IsClassIf b dir name false m.props c)
    (or_from (length name == 0) (has_slash name) empty none) cut in
    bare_class_of dir path m.props c lies valid plain

pub dated_file : (path : Path) (folder : Option Bool) (stamp : Option ℕ)
    → is_wrong (dated_class path folder stamp) ≡ false
    → (e : Entry) × (dated_class path folder stamp ≡ File e.path e.stamp) × (e.path ≡ path)
dated_file path None stamp h = absurd (false≢true (sym h))
dated_file path (Some true) stamp h = absurd (false≢true (sym h))
dated_file path (Some false) None h = absurd (false≢true (sym h))
dated_file path (Some false) (Some stamp) h =
    (record { path = path; stamp = stamp }, refl, refl)

-- ---- what is a file

path_in : Class → Path
path_in (File path stamp) = path
path_in class = Info

stamp_in : Class → ℕ
stamp_in (File path stamp) = stamp
stamp_in class = 0

is_file : Class → Bool
is_file (File path stamp) = true
is_file class = false

no_file : (c : Class) (p : Path) (s : ℕ) → is_file c ≡ false → File p s ≡ c → ⊥
unfolding is_file
no_file c p s other is = false≢true (sym other ∙ sym (ap is_file is))

told_dated : (q p : Path) (s : ℕ) (folder : Option Bool) (stamp : Option ℕ)
    → File p s ≡ dated_class q folder stamp
    → (q ≡ p) × (stamp ≡ Some s) × (folder ≡ Some false)
unfolding path_in stamp_in is_file
told_dated q p s None stamp e = absurd (no_file Wrong p s refl e)
told_dated q p s (Some true) stamp e = absurd (no_file Wrong p s refl e)
told_dated q p s (Some false) None e = absurd (no_file Wrong p s refl e)
told_dated q p s (Some false) (Some t) e = (sym (ap path_in e), ap Some (sym (ap stamp_in e)), refl)

-- the resource is this file of the folder, under its name
pub record IsShownFile (dir : Dir) (folder : List ℕ) (m : Member) (path : Path) (stamp : ℕ)
    : Type 0 where
  pub valid : IsPath path
  pub lies : dir_of path ≡ dir
  pub named : path_of m.href ≡ Some (folder ++ file_name path)
  pub stamp_is : m.props.stamp ≡ Some stamp
  pub folder_is : m.props.folder ≡ Some false

-- of a name below the folder: the file that bears it, and what is told of it
abbrev IsNamedFile : Dir → List ℕ → Props → Path → ℕ → Type 0
IsNamedFile dir name props path stamp =
    IsPath path × (dir_of path ≡ dir) × (file_name path ≡ name)
    × (props.stamp ≡ Some stamp) × (props.folder ≡ Some false)

unnamed_is_none : (dir : Dir) (name : List ℕ) (p : Path) (s : ℕ)
    → IsUnnamedClass dir name (File p s) → ⊥
unfolding is_file
unnamed_is_none dir name p s (inl (f, e)) = no_file Wrong p s refl e
unnamed_is_none dir name p s (inr (none, e)) = no_file Foreign p s refl e

bare_file : (dir : Dir) (name : List ℕ) (slash : Bool) (props : Props) (p : Path) (s : ℕ)
    → IsBareClass dir name slash props (File p s)
    → (slash ≡ false) × IsNamedFile dir name props p s
unfolding is_file
bare_file dir name true props p s (inl (q, named, valid, e)) = absurd (no_file Wrong p s refl e)
bare_file dir name false props p s (inl (q, named, valid, e)) =
    let told = told_dated q p s props.folder props.stamp e in (
      refl,
      (
        subst IsPath told.0 valid,
        subst (λ (x : Path). dir_of x ≡ dir) told.0 named.lies,
        subst (λ (x : Path). file_name x ≡ name) told.0 named.bears,
        told.1,
        told.2,
      ),
    )
bare_file dir name slash props p s (inr (none, e)) = absurd (unnamed_is_none dir name p s e)

file_if : (b : Bool) (dir : Dir) (name : List ℕ) (slash : Bool) (props : Props) (p : Path) (s : ℕ)
    → IsClassIf b dir name slash props (File p s)
    → (slash ≡ false) × IsNamedFile dir name props p s
unfolding is_file
file_if true dir name slash props p s h = absurd (no_file Wrong p s refl h)
file_if false dir name slash props p s h = bare_file dir name slash props p s h

file_cut : (b : Bool) (dir : Dir) (name : List ℕ) (props : Props) (p : Path) (s : ℕ)
    → IsClassCut b dir name props (File p s) → IsNamedFile dir name props p s
file_cut true dir name props p s h =
    let bare = take (length name - 1) name in
    absurd (false≢true (sym (file_if (length bare == 0 || has_slash bare) dir bare true props p s h).0))
file_cut false dir name props p s h =
    (file_if (length name == 0 || has_slash name) dir name false props p s h).1

own_is_none : (folder : Option Bool) → is_file (own_class folder) ≡ false
unfolding is_file
own_is_none None = refl
own_is_none (Some true) = refl
own_is_none (Some false) = refl

file_in_rest : (dir : Dir) (folder path : List ℕ) (rest : Option (List ℕ)) (props : Props) (p : Path)
    (s : ℕ) → rest_after folder path ≡ rest → IsClassIn dir rest props (File p s)
    → (name : List ℕ) × (path ≡ folder ++ name) × IsNamedFile dir name props p s
unfolding is_file
file_in_rest dir folder path None props p s is h = absurd (no_file Wrong p s refl h)
file_in_rest dir folder path (Some name) props p s is h = (
  name,
  rest_after-is folder path name is,
  file_cut (bytes_eq (drop (length name - 1) name) (codes "/")) dir name props p s h,
)

file_for : (b : Bool) (dir : Dir) (folder path : List ℕ) (props : Props) (p : Path) (s : ℕ)
    → IsClassFor b dir folder path props (File p s)
    → (name : List ℕ) × (path ≡ folder ++ name) × IsNamedFile dir name props p s
file_for true dir folder path props p s h =
    absurd (no_file (own_class props.folder) p s (own_is_none props.folder) h)
file_for false dir folder path props p s h =
    file_in_rest dir folder path (rest_after folder path) props p s refl h

file_of_path : (dir : Dir) (folder : List ℕ) (path : Option (List ℕ)) (props : Props) (p : Path)
    (s : ℕ) → IsClassOf dir folder path props (File p s)
    → (name : List ℕ) × (path ≡ Some (folder ++ name)) × IsNamedFile dir name props p s
unfolding is_file
file_of_path dir folder None props p s h = absurd (no_file Wrong p s refl h)
file_of_path dir folder (Some path) props p s h =
    let r = file_for (is_own_path folder path) dir folder path props p s h in
    (r.0, ap Some r.1, r.2)

pub file_is_shown : (dir : Dir) (folder : List ℕ) (m : Member) (p : Path) (s : ℕ)
    → IsClass dir folder m (File p s) → IsShownFile dir folder m p s
file_is_shown dir folder m p s h =
    let r = file_of_path dir folder (path_of m.href) m.props p s h in record {
      valid = r.2.0;
      lies = r.2.1;
      named = r.1 ∙ ap (λ (n : List ℕ). Some (folder ++ n)) (sym r.2.2);
      stamp_is = r.2.3;
      folder_is = r.2.4;
    }
