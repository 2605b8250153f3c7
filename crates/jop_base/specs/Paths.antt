-- The files of a target, and their names.
use Rattle.std.specs.Prelude.{ℕ, List, [], ◌∷◌, ◌++◌, codes, Bool, true, false, Option, Some, None, ◌≡◌}
use Rattle.jop_base.specs.Id.{IsIdText}
use Rattle.jop_base.specs.LockNames.{IsName, file_name as lock_file_name}
use Rattle.jop_base.specs.declared.path.Path.{Path}
use Rattle.jop_base.specs.declared.path.Path.TheVariants.{Info, OldVersion, Item, Blob, Lock, Temp as TempFile, Tomb}
use Rattle.jop_base.specs.declared.dir.Dir.{Dir}
use Rattle.jop_base.specs.declared.dir.Dir.TheVariants.{Root, Resources, OldSync, Locks, Temp, Tombs}

-- what every path keeps: its ids are ids
abbrev pub IsPath : Path → Type 0
IsPath Info = Unit {0}
IsPath OldVersion = Unit {0}
IsPath (Item id) = IsIdText id
IsPath (Blob id) = IsIdText id
IsPath (Lock name) = IsName name
IsPath (TempFile id) = IsIdText id
IsPath (Tomb id) = IsIdText id

-- the name of a folder
abbrev pub dir_text : Dir → List ℕ
dir_text Root = []
dir_text Resources = codes ".resource"
dir_text OldSync = codes ".sync"
dir_text Locks = codes "locks"
dir_text Temp = codes "temp"
dir_text Tombs = codes "deleted"

-- a name that isn't empty, and a slash
abbrev pub with_slash : List ℕ → List ℕ
with_slash [] = []
with_slash (c ∷ name) = c ∷ name ++ codes "/"

-- what stands before the names of a folder's files: its name and a slash, for the root nothing
abbrev pub dir_prefix : Dir → List ℕ
dir_prefix dir = with_slash (dir_text dir)

-- the folder of a file
abbrev pub dir_of : Path → Dir
dir_of Info = Root
dir_of OldVersion = OldSync
dir_of (Item id) = Root
dir_of (Blob id) = Resources
dir_of (Lock name) = Locks
dir_of (TempFile id) = Temp
dir_of (Tomb id) = Tombs

-- the name of a file in its folder
abbrev pub file_name : Path → List ℕ
file_name Info = codes "info.json"
file_name OldVersion = codes "version.txt"
file_name (Item id) = id ++ codes ".md"
file_name (Blob id) = id
file_name (Lock name) = lock_file_name name
file_name (TempFile id) = id ++ codes ".tmp"
file_name (Tomb id) = id

-- the name of a file on the target
abbrev pub path_text : Path → List ℕ
path_text path = dir_prefix (dir_of path) ++ file_name path

-- the file has this name in that folder
pub record IsNamed (path : Path) (dir : Dir) (name : List ℕ) : Type 0 where
  pub lies : dir_of path ≡ dir
  pub bears : file_name path ≡ name

-- no file of the folder has this text
pub record HasNoFile (dir : Dir) (text : List ℕ) : Type 0 where
  pub none : (path : Path) → dir_of path ≡ dir → IsPath path → ¬ (path_text path ≡ text)

-- whether a file stands outside the locks and the temporary files
abbrev pub is_guarded : Path → Bool
is_guarded Info = true
is_guarded OldVersion = true
is_guarded (Item id) = true
is_guarded (Blob id) = true
is_guarded (Lock name) = false
is_guarded (TempFile id) = false
is_guarded (Tomb id) = true

-- the id that a file's name has
abbrev pub id_of : Path → Option (List ℕ)
id_of Info = None
id_of OldVersion = None
id_of (Item id) = Some id
id_of (Blob id) = Some id
id_of (Lock name) = Some name.client
id_of (TempFile id) = Some id
id_of (Tomb id) = Some id
