-- What a listing of a folder means: each resource that it shows is the folder itself, a file of it, or foreign to the
-- program. One that is none of these makes the whole no listing, so a file is left out only where no resource is shown
-- under its name.
use Rattle.std.specs.Prelude.{◌≡◌, ℕ, ◌-◌, Bool, true, false, ◌||◌, ◌==◌, ◌⊎◌, List, [], ◌∷◌, length, take, drop, codes, Option, Some, None, bytes_eq, IsPermutation, count_by}
use Rattle.std.specs.List.{list_any, filter_map}
use Rattle.jop_base.specs.Paths.{IsPath, IsNamed}
use Rattle.jop_base.specs.declared.dir.Dir.{Dir}
use Rattle.jop_base.specs.declared.path.Path.{Path}
use Rattle.jop_target.specs.Replies.{IsRising}
use Rattle.jop_target.specs.declared.reply.Entry.{Entry}
use Rattle.dav_listing.specs.Hrefs.{folded, path_of, rest_after}
use Rattle.dav_listing.specs.Multistatus.{members_in}
use Rattle.dav_listing.specs.declared.class.Class.{Class}
use Rattle.dav_listing.specs.declared.class.Class.TheVariants.{Itself, File, Foreign, Wrong}
use Rattle.dav_listing.specs.declared.member.Member.{Member}
use Rattle.dav_listing.specs.declared.member.Props.{Props}

-- ---- one resource

abbrev pub has_slash : List ℕ → Bool
has_slash text = list_any (λ b. b == 47) text

-- whether this is the folder's own path, with its last slash or without
abbrev pub is_own_path : List ℕ → List ℕ → Bool
is_own_path folder path =
    bytes_eq path folder || bytes_eq path (take (length folder - 1) folder)

-- the folder is told to be a collection
abbrev pub own_class : Option Bool → Class
own_class (Some true) = Itself
own_class told = Wrong

-- a file is told to be no collection, and its date is told
abbrev pub dated_class : Path → Option Bool → Option ℕ → Class
dated_class path (Some false) (Some stamp) = File path stamp
dated_class path folder stamp = Wrong

-- a file's name has no slash behind it
abbrev pub file_class : Path → Bool → Props → Class
file_class path true props = Wrong
file_class path false props = dated_class path props.folder props.stamp

-- no file of the folder bears the name
abbrev pub IsNoFile : Dir → List ℕ → Type 0
IsNoFile dir name = (path : Path) → IsPath path → ¬ IsNamed path dir name

-- a file of the folder bears the name
abbrev pub IsFile : Dir → List ℕ → Type 0
IsFile dir name = (path : Path) × IsNamed path dir name × IsPath path

-- A name that is no file's is foreign. It is wrong if it would be a file's in lower case or with its escapes read once
-- more: whoever changes names so would make all files foreign.
abbrev pub IsUnnamedClass : Dir → List ℕ → Class → Type 0
IsUnnamedClass dir name class =
    (IsFile dir (folded name) × (class ≡ Wrong))
    ⊎ (IsNoFile dir (folded name) × (class ≡ Foreign))

-- what bears this name, with a slash behind it or not
abbrev pub IsBareClass : Dir → List ℕ → Bool → Props → Class → Type 0
IsBareClass dir name slash props class =
    ((path : Path) × IsNamed path dir name × IsPath path × (class ≡ file_class path slash props))
    ⊎ (IsNoFile dir name × IsUnnamedClass dir name class)

-- a name is not empty, and a slash would lead into a folder below
abbrev pub IsClassIf : Bool → Dir → List ℕ → Bool → Props → Class → Type 0
IsClassIf true dir name slash props class = class ≡ Wrong
IsClassIf false dir name slash props class = IsBareClass dir name slash props class

abbrev pub IsNamedClass : Dir → List ℕ → Bool → Props → Class → Type 0
IsNamedClass dir name slash props class =
    IsClassIf (length name == 0 || has_slash name) dir name slash props class

-- one slash may stand behind a name
abbrev pub IsClassCut : Bool → Dir → List ℕ → Props → Class → Type 0
IsClassCut true dir name props class =
    IsNamedClass dir (take (length name - 1) name) true props class
IsClassCut false dir name props class = IsNamedClass dir name false props class

abbrev pub IsClassBelow : Dir → List ℕ → Props → Class → Type 0
IsClassBelow dir name props class =
    IsClassCut (bytes_eq (drop (length name - 1) name) (codes "/")) dir name props class

-- what lies elsewhere is wrong
abbrev pub IsClassIn : Dir → Option (List ℕ) → Props → Class → Type 0
IsClassIn dir None props class = class ≡ Wrong
IsClassIn dir (Some name) props class = IsClassBelow dir name props class

abbrev pub IsClassFor : Bool → Dir → List ℕ → List ℕ → Props → Class → Type 0
IsClassFor true dir folder path props class = class ≡ own_class props.folder
IsClassFor false dir folder path props class =
    IsClassIn dir (rest_after folder path) props class

-- what this path is, beside the folder's own
abbrev pub IsPathClass : Dir → List ℕ → List ℕ → Props → Class → Type 0
IsPathClass dir folder path props class =
    IsClassFor (is_own_path folder path) dir folder path props class

abbrev pub IsClassOf : Dir → List ℕ → Option (List ℕ) → Props → Class → Type 0
IsClassOf dir folder None props class = class ≡ Wrong
IsClassOf dir folder (Some path) props class = IsPathClass dir folder path props class

-- what a resource is to the folder that has this path on the server
abbrev pub IsClass : Dir → List ℕ → Member → Class → Type 0
IsClass dir folder member class = IsClassOf dir folder (path_of member.href) member.props class

-- ---- all resources

-- each class is that of the resource at its place
unfoldable pub AreClasses : Dir → List ℕ → List Member → List Class → Type 0
AreClasses dir folder [] classes = classes ≡ []
AreClasses dir folder (member ∷ members) classes =
    (class : Class) × (rest : List Class) × (classes ≡ class ∷ rest)
    × IsClass dir folder member class × AreClasses dir folder members rest

abbrev pub is_folder_itself : Class → Bool
is_folder_itself Itself = true
is_folder_itself class = false

abbrev pub is_wrong : Class → Bool
is_wrong Wrong = true
is_wrong class = false

abbrev pub file_in : Class → Option Entry
file_in (File path stamp) = Some (record { path = path; stamp = stamp })
file_in class = None

-- the files, in the order of the classes
abbrev pub files_among : List Class → List Entry
files_among classes = filter_map file_in classes

-- no resource is wrong, one is the folder itself, and these are the files, in the body's order
pub record AreFilesOf (dir : Dir) (folder : List ℕ) (members : List Member) (files : List Entry)
    : Type 0 where
  pub classes : List Class
  pub told : AreClasses dir folder members classes
  pub sound : list_any is_wrong classes ≡ false
  pub own : count_by is_folder_itself classes ≡ 1
  pub files_are : files ≡ files_among classes

-- ---- a listing

-- the body lists these files of the folder that has this path, each once, in rising order
pub record ListsFiles (dir : Dir) (folder body : List ℕ) (entries : List Entry) : Type 0 where
  pub members : List Member
  pub shown : members_in body ≡ Some members
  pub files : List Entry
  pub files_of : AreFilesOf dir folder members files
  pub same : IsPermutation files entries
  pub rising : IsRising entries
