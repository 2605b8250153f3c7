-- Each file that is shown is listed, and each that is listed is shown.
use Rattle.std.proofs.Common.{◌≡◌, ◌∙◌, refl, sym, ap, subst, arith, ℕ, zero, suc, ◌<◌, List, [], ◌∷◌, ◌++◌, length, get_or, false, Some, inl, inr}
use Rattle.std.specs.Prelude.{All, Contains, ◌⊎◌}
use Rattle.std.proofs.lemmas.List.Elements.{Contains-append_cases, Contains-append_right}
use Rattle.std.proofs.lemmas.List.Sorted.{Contains-permutation, IsPermutation-sym}
use Rattle.jop_base.specs.Paths.{IsPath, dir_of, file_name}
use Rattle.jop_base.specs.declared.dir.Dir.{Dir}
use Rattle.jop_base.specs.declared.path.Path.{Path}
use Rattle.jop_target.specs.declared.reply.Entry.{Entry}
use Rattle.dav_listing.specs.Hrefs.{path_of}
use Rattle.dav_listing.specs.Listings.{AreClasses, IsClass, ListsFiles, files_among, is_wrong}
use Rattle.dav_listing.specs.declared.class.Class.{Class}
use Rattle.dav_listing.specs.declared.class.Class.TheVariants.{Itself, File, Foreign, Wrong}
use Rattle.dav_listing.specs.declared.member.Member.{Member}
use Rattle.dav_listing.proofs.FileClasses.{IsShownFile, class_of_file, dated_file, file_is_shown}
use Rattle.dav_listing.proofs.OneClass.{class_at, not_wrong}

-- ---- what is shown is listed

more_files : (c : Class) (cs : List Class) (e : Entry) → Contains (files_among cs) e
    → Contains (files_among (c ∷ cs)) e
more_files Itself cs e h = h
more_files (File p s) cs e h =
    Contains-append_right ((record { path = p; stamp = s }) ∷ []) (files_among cs) e h
more_files Foreign cs e h = h
more_files Wrong cs e h = h

file_at : (cs : List Class) (c : Class) (e : Entry) (k : ℕ) → k < length cs → get_or cs k c ≡ c
    → c ≡ File e.path e.stamp → Contains (files_among cs) e
file_at [] c e k lt is file = absurd (omega arith)
file_at (d ∷ ds) c e zero lt is file =
    subst (λ (x : Class). Contains (files_among (x ∷ ds)) e) (sym (is ∙ file))
    (0, omega arith, refl)
file_at (d ∷ ds) c e (suc k) lt is file =
    more_files d ds e (file_at ds c e k (omega arith) is file)

pub shown_is_listed : (dir : Dir) (folder body : List ℕ) (entries : List Entry)
    (listing : ListsFiles dir folder body entries) (m : Member) (path : Path)
    → Contains listing.members m → path_of m.href ≡ Some (folder ++ file_name path)
    → dir_of path ≡ dir → IsPath path → (e : Entry) × Contains entries e × (e.path ≡ path)
shown_is_listed dir folder body entries listing m path (k, lt, is) named lies valid =
    let all = listing.files_of in
    let r = class_at dir folder listing.members all.classes m k all.told lt is in
    let file = class_of_file dir folder m path r.0 named lies valid r.3 in
    let sound = not_wrong all.classes r.0 all.sound (k, r.1, r.2) in
    let told = dated_file path m.props.folder m.props.stamp (ap is_wrong (sym file) ∙ sound) in (
      told.0,
      Contains-permutation listing.files entries told.0 listing.same
          (subst (λ (fs : List Entry). Contains fs told.0) (sym all.files_are)
          (file_at all.classes r.0 told.0 k r.1 r.2 (file ∙ told.1))),
      told.2,
    )

-- ---- what is listed is shown

the_one : (f e : Entry) (k : ℕ) → k < length (f ∷ []) → get_or (f ∷ []) k e ≡ e → f ≡ e
the_one f e zero lt is = is
the_one f e (suc k) lt is = absurd (omega arith)

none_there : (e : Entry) (P : Type 0) → Contains [] e → P
none_there e P (k, lt, is) = absurd (omega arith)

-- a file among the classes of resources is one of these resources
abbrev IsAmong : Dir → List ℕ → List Member → Entry → Type 0
IsAmong dir folder ms e =
    (m : Member) × Contains ms m × IsShownFile dir folder m e.path e.stamp

behind : (dir : Dir) (folder : List ℕ) (m : Member) (ms : List Member) (e : Entry)
    → IsAmong dir folder ms e → IsAmong dir folder (m ∷ ms) e
behind dir folder m ms e (n, there, is) = (n, Contains-append_right (m ∷ []) ms n there, is)

here_or_behind : (dir : Dir) (folder : List ℕ) (m : Member) (ms : List Member) (c : Class)
    (cs : List Class) (e : Entry) → IsClass dir folder m c
    → (Contains (files_among cs) e → IsAmong dir folder ms e)
    → Contains (files_among (c ∷ cs)) e → IsAmong dir folder (m ∷ ms) e
here_or_behind dir folder m ms Itself cs e is rest there =
    behind dir folder m ms e (rest there)
here_or_behind dir folder m ms Foreign cs e is rest there =
    behind dir folder m ms e (rest there)
here_or_behind dir folder m ms Wrong cs e is rest there =
    behind dir folder m ms e (rest there)
here_or_behind dir folder m ms (File p s) cs e is rest there =
    at (Contains-append_cases ((record { path = p; stamp = s }) ∷ []) (files_among cs) e there)
  where
    at : Contains ((record { path = p; stamp = s }) ∷ []) e ⊎ Contains (files_among cs) e
        → IsAmong dir folder (m ∷ ms) e
    at (inl (k, lt, same)) = (
      m,
      (0, omega arith, refl),
      subst (λ (f : Entry). IsShownFile dir folder m f.path f.stamp)
          (the_one (record { path = p; stamp = s }) e k lt same) (file_is_shown dir folder m p s is),
    )
    at (inr later) = behind dir folder m ms e (rest later)

file_among : (dir : Dir) (folder : List ℕ) (ms : List Member) (cs : List Class) (e : Entry)
    → AreClasses dir folder ms cs → Contains (files_among cs) e → IsAmong dir folder ms e
unfolding AreClasses
file_among dir folder [] cs e told there =
    none_there e (IsAmong dir folder [] e)
    (subst (λ (ds : List Class). Contains (files_among ds) e) told there)
file_among dir folder (m ∷ ms) cs e told there =
    here_or_behind dir folder m ms told.0 told.1 e told.3
    (file_among dir folder ms told.1 e told.4)
    (subst (λ (ds : List Class). Contains (files_among ds) e) told.2 there)

listed_among : (dir : Dir) (folder body : List ℕ) (entries : List Entry)
    (listing : ListsFiles dir folder body entries) (e : Entry) → Contains entries e
    → IsAmong dir folder listing.members e
listed_among dir folder body entries listing e there =
    let all = listing.files_of in
    file_among dir folder listing.members all.classes e all.told
    (subst (λ (fs : List Entry). Contains fs e) all.files_are
    (Contains-permutation entries listing.files e
    (IsPermutation-sym listing.files entries listing.same) there))

pub listed_is_shown : (dir : Dir) (folder body : List ℕ) (entries : List Entry)
    (listing : ListsFiles dir folder body entries) (e : Entry) → Contains entries e
    → (m : Member) × Contains listing.members m
    × (path_of m.href ≡ Some (folder ++ file_name e.path))
    × (m.props.stamp ≡ Some e.stamp) × (m.props.folder ≡ Some false)
listed_is_shown dir folder body entries listing e there =
    let r = listed_among dir folder body entries listing e there in
    (r.0, r.1, r.2.named, r.2.stamp_is, r.2.folder_is)

pub listing_is_of_the_folder : (dir : Dir) (folder body : List ℕ) (entries : List Entry)
    → ListsFiles dir folder body entries
    → All (λ (e : Entry). IsPath e.path × (dir_of e.path ≡ dir)) entries
listing_is_of_the_folder dir folder body entries listing = λ k d lt.
    let r = listed_among dir folder body entries listing (get_or entries k d) (k, lt, same k d lt) in
    (r.2.valid, r.2.lies)
  where
    same : (k : ℕ) (d : Entry) → k < length entries
        → get_or entries k (get_or entries k d) ≡ get_or entries k d
    same k d lt = at entries k lt
      where
        at : (es : List Entry) (j : ℕ) → j < length es → get_or es j (get_or entries k d) ≡ get_or es j d
        at [] j within = absurd (omega arith)
        at (f ∷ fs) zero within = refl
        at (f ∷ fs) (suc j) within = at fs j (omega arith)
