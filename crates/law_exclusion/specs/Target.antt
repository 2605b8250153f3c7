-- What an upgrade makes of a target.
use Rattle.std.specs.Prelude.{ℕ, zero, suc, ◌≡◌, Bool, true, false, ◌||◌, List, [], ◌∷◌, codes, Option, Some, None, option_map}
use Rattle.jop_base.specs.Keyed.{put}
use Rattle.jop_base.specs.Paths.{dir_text}
use Rattle.jop_base.specs.declared.dir.Dir.{Dir}
use Rattle.jop_base.specs.declared.dir.Dir.TheVariants.{Root, Resources, OldSync, Locks, Temp}
use Rattle.jop_base.specs.declared.path.Path.{Path}
use Rattle.jop_base.specs.declared.path.Path.TheVariants.{Info as InfoFile, OldVersion, Item, Lock as LockFile}
use Rattle.jop_target.specs.declared.tree.Content.{Content}
use Rattle.jop_target.specs.declared.tree.Content.TheVariants.{Whole, Sized}
use Rattle.jop_target.specs.declared.tree.File.{File}
use Rattle.jop_target.specs.declared.tree.Tree.{Tree}
use Rattle.jop_target.specs.Store.{FILE_LIMIT, file_at, with_file, entries_in, is_same_dir, got}
use Rattle.sync_info.specs.Info.{new_info}
use Rattle.sync_info.specs.Json.{info_text}
use Rattle.sync_info.specs.Read.{info_in}
use Rattle.sync_info.specs.declared.info.Info.{Info}
use Rattle.sync_info.specs.declared.key_record.KeyRecord.{KeyRecord}
use Rattle.target_upgrade.specs.Keys.{with_key}
use Rattle.target_upgrade.specs.Steps.{SUPPORTED, at_version, items_in, key_in}

-- ---- the info of a target

abbrev pub info_within : Content → Option Info
info_within (Whole bytes) = info_in bytes
info_within (Sized len) = None

abbrev pub info_by_files : Option File → Option File → Option Info
info_by_files (Some f) old = info_within f.content
info_by_files None (Some f) = Some (new_info 1)
info_by_files None None = Some (new_info 0)

-- That of its `info.json`, if it has one, and none if that can't be read. Without one it is that of
-- a new target, at version 1 if `version.txt` is there and 0 if it isn't.
unfoldable pub tree_info : Tree → Option Info
tree_info tree = info_by_files (file_at tree.files InfoFile) (file_at tree.files OldVersion)

-- the version of a target, if it has one
abbrev pub tree_version : Tree → Option ℕ
tree_version tree = option_map (λ (info : Info). info.version) (tree_info tree)

-- ---- its keys

-- the key that the item file of an id gives, if it is within the limit of a file
abbrev pub key_at : List File → List ℕ → Option KeyRecord
key_at files id = key_in id (got 0 FILE_LIMIT (file_at files (Item id)))

-- the info with the keys of these items that it lacks
abbrev pub with_keys : List File → List (List ℕ) → Info → Info
with_keys files [] info = info
with_keys files (id ∷ ids) info = with_keys files ids (with_key (key_at files id) info)

-- the items of a target, in order
abbrev pub items_of : List File → List (List ℕ)
items_of files = items_in (entries_in files Root)

-- the info at the supported version, with the keys of all items that it lacks
unfoldable pub upgraded_info : List File → Info → Info
upgraded_info files info = with_keys files (items_of files) (at_version SUPPORTED info)

-- ---- the upgraded target

abbrev pub file_of : Path → List ℕ → File
file_of path bytes = record { path = path; content = Whole bytes; stamp = 0 }

-- with a folder that is made
abbrev pub with_dir : List Dir → Dir → List Dir
with_dir dirs dir = put dir_text dirs dir

-- with the folders that are made from a version on
abbrev pub folders_from : ℕ → List Dir → List Dir
folders_from zero dirs =
    with_dir (with_dir (with_dir (with_dir dirs Resources) OldSync) Locks) Temp
folders_from (suc zero) dirs = with_dir (with_dir dirs Locks) Temp
folders_from (suc (suc n)) dirs = dirs

-- with the `version.txt` that is put from a version on
abbrev pub files_from : ℕ → List File → List File
files_from zero files = with_file files (file_of OldVersion (codes "2"))
files_from (suc zero) files = with_file files (file_of OldVersion (codes "2"))
files_from (suc (suc n)) files = files

abbrev pub steps_from : ℕ → Info → Tree → Tree
steps_from version info tree = record {
  files =
      with_file (files_from version tree.files)
      (file_of InfoFile (info_text (upgraded_info tree.files info)));
  folders = folders_from version tree.folders;
}

abbrev pub upgraded_from : ℕ → Info → Tree → Tree
upgraded_from zero info tree = steps_from 0 info tree
upgraded_from (suc zero) info tree = steps_from 1 info tree
upgraded_from (suc (suc zero)) info tree = steps_from 2 info tree
upgraded_from (suc (suc (suc n))) info tree = tree

abbrev pub upgraded_with : Option Info → Tree → Tree
upgraded_with None tree = tree
upgraded_with (Some info) tree = upgraded_from info.version info tree

-- The target at the supported version; itself if it has that version, a newer one or none.
unfoldable pub upgraded : Tree → Tree
upgraded tree = upgraded_with (tree_info tree) tree

-- ---- when two targets are the same

abbrev pub is_lock : Path → Bool
is_lock (LockFile name) = true
is_lock path = false

abbrev pub content_at : Tree → Path → Option Content
content_at tree path = option_map (λ (f : File). f.content) (file_at tree.files path)

unfoldable pub has_dir : List Dir → Dir → Bool
has_dir [] dir = false
has_dir (d ∷ ds) dir = is_same_dir d dir || has_dir ds dir

-- Each path has the same content in both, and each folder stands in both or in neither; stamps,
-- lock files and the folder of locks may differ.
pub record IsAlike (tree other : Tree) : Type 0 where
  pub files : (path : Path) → is_lock path ≡ false → content_at tree path ≡ content_at other path
  pub folders : (dir : Dir) → is_same_dir dir Locks ≡ false →
      has_dir tree.folders dir ≡ has_dir other.folders dir
