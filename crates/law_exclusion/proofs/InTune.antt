-- What a tree comes to in the end, and how it is where an upgrade stands.
use Rattle.std.proofs.Common.{◌≡◌, ◌⊎◌, ◌∙◌, refl, sym, ap, ℕ, zero, suc, List, codes, Bool, true, false, Option, Some, None}
use Rattle.jop_base.specs.declared.dir.Dir.{Dir}
use Rattle.jop_base.specs.declared.dir.Dir.TheVariants.{Resources, OldSync, Locks, Temp}
use Rattle.jop_base.specs.declared.path.Path.{Path}
use Rattle.jop_base.specs.declared.path.Path.TheVariants.{Info as InfoFile, OldVersion}
use Rattle.jop_target.specs.declared.tree.Content.{Content}
use Rattle.jop_target.specs.declared.tree.Content.TheVariants.{Whole}
use Rattle.jop_target.specs.declared.tree.Tree.{Tree}
use Rattle.jop_target.specs.Store.{file_at, is_same_dir}
use Rattle.jop_target.proofs.Files.{same_dir}
use Rattle.lease.proofs.LockFiles.{never}
use Rattle.std.proofs.lemmas.Bool.{false≢true}
use Rattle.sync_info.specs.Info.{IsInfo}
use Rattle.sync_info.specs.Json.{info_text}
use Rattle.sync_info.specs.declared.info.Info.{Info}
use Rattle.target_upgrade.specs.Steps.{UpgradeStage, Reads, ReadsOld, At, Gets, Upgraded, Stuck, SUPPORTED, at_version}
use Rattle.law_exclusion.specs.Target.{tree_info, with_keys, upgraded_info, content_at, has_dir, with_dir, is_lock}
use Rattle.target_upgrade.specs.declared.step.Step.{Step}
use Rattle.target_upgrade.specs.declared.step.Step.TheVariants.{MakesResources, MakesOldSync, PutsOne, MakesLocks, MakesTemp, PutsTwo, PutsInfo, ListsRoot}
use Rattle.law_exclusion.proofs.Files.{has_dir-with, is_version_file}

-- ---- what an upgrade changes, and what it leaves

pub record Final : Type 0 where
  pub info : Option Content
  pub old : Option Content
  pub resources : Bool
  pub sync : Bool
  pub temp : Bool

abbrev pub as_is : Tree → Final
as_is t = record {
  info = content_at t InfoFile;
  old = content_at t OldVersion;
  resources = has_dir
      t.folders Resources;
  sync = has_dir t.folders OldSync;
  temp = has_dir t.folders Temp;
}

abbrev pub last_info : Tree → Info → Option Content
last_info t info = Some (Whole (info_text (upgraded_info t.files info)))

abbrev pub final_at : ℕ → Info → Tree → Final
final_at zero info t = record {
  info = last_info t info;
  old = Some (Whole (codes "2"));
  resources =
      true;
  sync = true;
  temp = true;
}
final_at (suc zero) info t = record {
  info = last_info t info;
  old = Some (Whole (codes "2"));
  resources = has_dir t.folders Resources;
  sync = has_dir t.folders OldSync;
  temp = true;
}
final_at (suc (suc zero)) info t = record {
  info = last_info t info;
  old = content_at t OldVersion;
  resources = has_dir t.folders Resources;
  sync = has_dir t.folders OldSync;
  temp = has_dir
      t.folders Temp;
}
final_at (suc (suc (suc n))) info t = as_is t

abbrev pub final_with : Option Info → Tree → Final
final_with None t = as_is t
final_with (Some info) t = final_at info.version info t

-- what a tree comes to
abbrev pub final : Tree → Final
final t = final_with (tree_info t) t

pub final_is : (t : Tree) (info : Info) (v : ℕ) → tree_info t ≡ Some info → info.version ≡ v → final t
    ≡ final_at v info t
final_is t info v reads ver = ap (λ (o : Option Info). final_with o t) reads ∙ ap
    (λ (n : ℕ). final_at n info t) ver

pub final_same : (x y : Final) → x.info ≡ y.info → x.old ≡ y.old → x.resources ≡ y.resources →
    x.sync ≡ y.sync → x.temp ≡ y.temp → x ≡ y
final_same x y h k l m n = λ i. record {
  info = h i;
  old = k i;
  resources = l i;
  sync = m i;
  temp =
      n i;
}

-- whether an upgrade leaves the folder as it is: it makes these, and sets that of the locks aside
abbrev pub is_left : Dir → Bool
is_left Resources = false
is_left OldSync = false
is_left Locks = false
is_left Temp = false
is_left dir = true

-- a folder that an upgrade makes is none that it leaves as it is
pub made_apart : (made d : Dir) → is_left made ≡ false → is_left d ≡ true → is_same_dir made d ≡ false
made_apart made d m left = never (is_same_dir made d) (λ same.
    false≢true (sym m ∙ ap is_left (same_dir made d same) ∙ left))

pub left_with : (ds : List Dir) (made d : Dir) → is_left made ≡ false → is_left d ≡ true →
    has_dir (with_dir ds made) d ≡ has_dir ds d
left_with ds made d m left = has_dir-with ds made d ∙ rw (made_apart made d m left) refl

-- all else is as it was
pub record HasSameRest (t u : Tree) : Type 0 where
  pub files : (path : Path) → is_lock path ≡ false → is_version_file path ≡ false → content_at u
      path ≡ content_at t path
  pub folders : (dir : Dir) → is_left dir ≡ true → has_dir u.folders dir ≡ has_dir t.folders dir

-- two trees come to the same
pub record ComesToSame (t u : Tree) : Type 0 where
  pub final : final u ≡ final t
  pub rest : HasSameRest t u

pub untouched : (t : Tree) → HasSameRest t t
untouched t = record { files = λ p l v. refl; folders = λ d left. refl }

pub same_tree : (t : Tree) → ComesToSame t t
same_tree t = record { final = refl; rest = untouched t }

pub same_on : (t u v : Tree) → ComesToSame t u → ComesToSame u v → ComesToSame t v
same_on t u v h k = record {
  final = k.final ∙ h.final;
  rest = record {
    files = λ p l o. k.rest.files p l o ∙ h.rest.files p l o;
    folders = λ d left. k.rest.folders d left ∙ h.rest.folders d left;
  };
}

-- ---- where an upgrade stands, the tree is

-- before version 2: the info is the one of the upgrade but for its version; from version 0 on two folders are made
pub record IsEarly (info : Info) (t : Tree) : Type 0 where
  pub now : Info
  pub reads : tree_info t ≡ Some now
  pub same : at_version 2 now ≡ at_version 2 info
  pub valid : IsInfo info
  pub made : ((now.version ≡ 0) × (has_dir t.folders Resources ≡ true) ×
      (has_dir t.folders OldSync ≡ true)) ⊎ (now.version ≡ 1)

-- at version 0, before they are made
pub record IsNew (info : Info) (t : Tree) : Type 0 where
  pub reads : tree_info t ≡ Some info
  pub version : info.version ≡ 0
  pub valid : IsInfo info

-- at version 2
pub record IsSecond (info : Info) (t : Tree) : Type 0 where
  pub now : Info
  pub reads : tree_info t ≡ Some now
  pub version : now.version ≡ 2
  pub same : at_version 3 now ≡ at_version 3 info
  pub valid : IsInfo info

abbrev pub IsAtStep : Step → Info → Tree → Type 0
IsAtStep MakesResources info t = IsNew info t
IsAtStep MakesOldSync info t = IsNew info t × (has_dir t.folders Resources ≡ true)
IsAtStep PutsOne info t = IsEarly info t
IsAtStep MakesLocks info t = IsEarly info t
IsAtStep MakesTemp info t = IsEarly info t
IsAtStep PutsTwo info t = IsEarly info t × (has_dir t.folders Temp ≡ true)
IsAtStep PutsInfo info t = IsEarly info t × (has_dir t.folders Temp ≡ true) ×
    (content_at t OldVersion ≡ Some (Whole (codes "2")))
IsAtStep ListsRoot info t = IsSecond info t

-- what is still to be got leads to the info in the end
pub record IsGetting (ids : List (List ℕ)) (info : Info) (t : Tree) : Type 0 where
  pub now : Info
  pub reads : tree_info t ≡ Some now
  pub version : now.version ≡ 2
  pub leads : with_keys t.files ids info ≡ upgraded_info t.files now
  pub valid : IsInfo info

abbrev pub IsInTune : UpgradeStage → Tree → Type 0
IsInTune Reads t = Unit {0}
IsInTune ReadsOld t = file_at t.files InfoFile ≡ None
IsInTune (At step info) t = IsAtStep step info t
IsInTune (Gets ids info) t = IsGetting ids info t
IsInTune Upgraded t = (info : Info) × (tree_info t ≡ Some info) × (info.version ≡ SUPPORTED)
IsInTune Stuck t = Unit {0}

-- behind a call the tree is in tune again, and comes to the same
pub record IsOnItsWay (stage : UpgradeStage) (t u : Tree) : Type 0 where
  pub tuned : IsInTune stage u
  pub same : ComesToSame t u
