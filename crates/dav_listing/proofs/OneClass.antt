-- Each resource has one class, and so all of them have one list of classes.
use Rattle.std.proofs.Common.{◌≡◌, ◌∙◌, refl, sym, ap, subst, arith, ℕ, zero, suc, ◌-◌, ◌<◌, List, [], ◌∷◌, ◌++◌, length, take, drop, get_or, Bool, true, false, Option, Some, None, inl, inr}
use Rattle.std.specs.Prelude.{codes, ◌||◌, ◌==◌, Contains, bytes_eq}
use Rattle.std.specs.List.{list_any}
use Rattle.std.proofs.lemmas.Bool.{false≢true}
use Rattle.std.proofs.lemmas.List.Folds.{list_any_at}
use Rattle.jop_base.specs.declared.dir.Dir.{Dir}
use Rattle.jop_base.specs.declared.path.Path.{Path}
use Rattle.jop_base.proofs.PathTexts.{path_unique}
use Rattle.dav_listing.specs.Hrefs.{path_of, rest_after}
use Rattle.dav_listing.specs.Listings.{AreClasses, AreFilesOf, IsBareClass, IsClass, IsClassCut, IsClassFor, IsClassIf, IsClassIn, IsClassOf, IsUnnamedClass, file_class, files_among, has_slash, is_own_path, is_wrong}
use Rattle.jop_target.specs.declared.reply.Entry.{Entry}
use Rattle.dav_listing.specs.declared.class.Class.{Class}
use Rattle.dav_listing.specs.declared.member.Member.{Member}
use Rattle.dav_listing.specs.declared.member.Props.{Props}
use Rattle.dav_listing.proofs.FileNames.{false_unless}

-- ---- of one resource

once_unnamed : (dir : Dir) (name : List ℕ) (c d : Class) → IsUnnamedClass dir name c
    → IsUnnamedClass dir name d → c ≡ d
once_unnamed dir name c d (inl (f, e)) (inl (g, k)) = e ∙ sym k
once_unnamed dir name c d (inl (f, e)) (inr (none, k)) = absurd (none f.0 f.2 f.1)
once_unnamed dir name c d (inr (none, e)) (inl (g, k)) = absurd (none g.0 g.2 g.1)
once_unnamed dir name c d (inr (none, e)) (inr (nor, k)) = e ∙ sym k

once_bare : (dir : Dir) (name : List ℕ) (slash : Bool) (props : Props) (c d : Class)
    → IsBareClass dir name slash props c → IsBareClass dir name slash props d → c ≡ d
once_bare dir name slash props c d (inl (p, n, v, e)) (inl (q, m, w, f)) =
    let same = path_unique p q v w (n.lies ∙ sym m.lies) (n.bears ∙ sym m.bears) in
    e ∙ ap (λ (x : Path). file_class x slash props) same ∙ sym f
once_bare dir name slash props c d (inl (p, n, v, e)) (inr (none, f)) = absurd (none p v n)
once_bare dir name slash props c d (inr (none, e)) (inl (q, m, w, f)) = absurd (none q w m)
once_bare dir name slash props c d (inr (none, e)) (inr (nor, f)) =
    once_unnamed dir name c d e f

once_if : (b : Bool) (dir : Dir) (name : List ℕ) (slash : Bool) (props : Props) (c d : Class)
    → IsClassIf b dir name slash props c → IsClassIf b dir name slash props d → c ≡ d
once_if true dir name slash props c d h k = h ∙ sym k
once_if false dir name slash props c d h k = once_bare dir name slash props c d h k

once_cut : (b : Bool) (dir : Dir) (name : List ℕ) (props : Props) (c d : Class)
    → IsClassCut b dir name props c → IsClassCut b dir name props d → c ≡ d
once_cut true dir name props c d h k =
    let bare = take (length name - 1) name in
    once_if (length bare == 0 || has_slash bare) dir bare true props c d h k
once_cut false dir name props c d h k =
    once_if (length name == 0 || has_slash name) dir name false props c d h k

once_in : (dir : Dir) (name : Option (List ℕ)) (props : Props) (c d : Class)
    → IsClassIn dir name props c → IsClassIn dir name props d → c ≡ d
once_in dir None props c d h k = h ∙ sym k
once_in dir (Some name) props c d h k =
    once_cut (bytes_eq (drop (length name - 1) name) (codes "/")) dir name props c d h k

once_for : (b : Bool) (dir : Dir) (folder path : List ℕ) (props : Props) (c d : Class)
    → IsClassFor b dir folder path props c → IsClassFor b dir folder path props d → c ≡ d
once_for true dir folder path props c d h k = h ∙ sym k
once_for false dir folder path props c d h k = once_in dir (rest_after folder path) props c d h k

once_of : (dir : Dir) (folder : List ℕ) (path : Option (List ℕ)) (props : Props) (c d : Class)
    → IsClassOf dir folder path props c → IsClassOf dir folder path props d → c ≡ d
once_of dir folder None props c d h k = h ∙ sym k
once_of dir folder (Some path) props c d h k =
    once_for (is_own_path folder path) dir folder path props c d h k

pub class_once : (dir : Dir) (folder : List ℕ) (m : Member) (c d : Class)
    → IsClass dir folder m c → IsClass dir folder m d → c ≡ d
class_once dir folder m c d h k = once_of dir folder (path_of m.href) m.props c d h k

-- ---- of all

pub classes_once : (dir : Dir) (folder : List ℕ) (ms : List Member) (cs ds : List Class)
    → AreClasses dir folder ms cs → AreClasses dir folder ms ds → cs ≡ ds
unfolding AreClasses
classes_once dir folder [] cs ds h k = h ∙ sym k
classes_once dir folder (m ∷ ms) cs ds h k =
    let first = class_once dir folder m h.0 k.0 h.3 k.3 in
    let rest = classes_once dir folder ms h.1 k.1 h.4 k.4 in
    h.2 ∙ (λ i. first i ∷ rest i) ∙ sym k.2

pub files_once : (dir : Dir) (folder : List ℕ) (ms : List Member) (fs gs : List Entry)
    → AreFilesOf dir folder ms fs → AreFilesOf dir folder ms gs → fs ≡ gs
files_once dir folder ms fs gs h k =
    h.files_are ∙ ap files_among (classes_once dir folder ms h.classes k.classes h.told k.told)
    ∙ sym k.files_are

-- the classes of the first resources are the first classes
pub first_classes : (dir : Dir) (folder : List ℕ) (ms more : List Member) (cs : List Class)
    → AreClasses dir folder (ms ++ more) cs
    → (ds es : List Class) × AreClasses dir folder ms ds × AreClasses dir folder more es
    × (cs ≡ ds ++ es)
unfolding AreClasses
first_classes dir folder [] more cs h = ([], cs, refl, h, refl)
first_classes dir folder (m ∷ ms) more cs h =
    let r = first_classes dir folder ms more h.1 h.4 in (
      h.0 ∷ r.0,
      r.1,
      (h.0, r.0, refl, h.3, r.2),
      r.3,
      h.2 ∙ ap (λ (t : List Class). h.0 ∷ t) r.4,
    )

pub classes_of_none : (dir : Dir) (folder : List ℕ) → AreClasses dir folder [] []
unfolding AreClasses
classes_of_none dir folder = refl

pub one_class_more : (dir : Dir) (folder : List ℕ) (ms : List Member) (cs : List Class) (m : Member)
    (c : Class) → AreClasses dir folder ms cs → IsClass dir folder m c
    → AreClasses dir folder (ms ++ m ∷ []) (cs ++ c ∷ [])
unfolding AreClasses
one_class_more dir folder [] cs m c h k = (c, [], ap (λ (t : List Class). t ++ c ∷ []) h, k, refl)
one_class_more dir folder (n ∷ ms) cs m c h k = (
  h.0,
  h.1 ++ c ∷ [],
  ap (λ (t : List Class). t ++ c ∷ []) h.2,
  h.3,
  one_class_more dir folder ms h.1 m c h.4 k,
)

-- the class of the resource at a place stands at that place
pub class_at : (dir : Dir) (folder : List ℕ) (ms : List Member) (cs : List Class) (m : Member) (k : ℕ)
    → AreClasses dir folder ms cs → k < length ms → get_or ms k m ≡ m
    → (c : Class) × (k < length cs) × (get_or cs k c ≡ c) × IsClass dir folder m c
unfolding AreClasses
class_at dir folder [] cs m k h lt is = absurd (omega arith)
class_at dir folder (n ∷ ns) cs m zero h lt is = (
  h.0,
  subst (λ (t : List Class). 0 < length t) (sym h.2) (omega arith),
  ap (λ (t : List Class). get_or t 0 h.0) h.2,
  subst (λ (x : Member). IsClass dir folder x h.0) is h.3,
)
class_at dir folder (n ∷ ns) cs m (suc k) h lt is =
    let r = class_at dir folder ns h.1 m k h.4 (omega arith) is in (
      r.0,
      subst (λ (t : List Class). suc k < length t) (sym h.2) (omega (arith, r.1)),
      ap (λ (t : List Class). get_or t (suc k) r.0) h.2 ∙ r.2,
      r.3,
    )

pub not_wrong : (cs : List Class) (c : Class) → list_any is_wrong cs ≡ false → Contains cs c
    → is_wrong c ≡ false
not_wrong cs c none (k, lt, is) = false_unless _ (λ it.
    false≢true (sym none ∙ list_any_at is_wrong cs k c lt (ap is_wrong is ∙ it)))
