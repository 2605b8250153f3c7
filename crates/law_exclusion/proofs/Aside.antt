-- A call on locks leaves a tree as it was but for them.
use Rattle.std.proofs.Common.{◌≡◌, ◌∙◌, refl, sym, ap, inl, inr, ℕ, zero, suc, true, false, Option, Some, None, option_map}
use Rattle.std.proofs.lemmas.Bool.{false≢true}
use Rattle.jop_base.specs.declared.dir.Dir.{Dir}
use Rattle.jop_base.specs.declared.dir.Dir.TheVariants.{Resources, OldSync, Locks, Temp}
use Rattle.jop_base.specs.declared.path.Path.{Path}
use Rattle.jop_base.specs.declared.path.Path.TheVariants.{Info as InfoFile, OldVersion, Lock as LockFile}
use Rattle.jop_target.specs.declared.call.Call.{Call}
use Rattle.jop_target.specs.declared.call.Call.TheVariants.{List as ListDir, Get, Put, Delete, MakeDir, GetBlob, PutBlob}
use Rattle.jop_target.specs.declared.tree.Content.TheVariants.{Whole}
use Rattle.jop_target.specs.declared.tree.File.{File}
use Rattle.jop_target.specs.declared.tree.Tree.{Tree}
use Rattle.jop_target.specs.History.{tree_with}
use Rattle.jop_target.specs.Store.{is_same_dir, file_at, tree_after}
use Rattle.sync_info.specs.Json.{info_text}
use Rattle.sync_info.specs.declared.info.Info.{Info}
use Rattle.law_exclusion.specs.Runs.{is_aside, lands_aside}
use Rattle.target_upgrade.specs.Steps.{UpgradeStage, Reads, ReadsOld, At, Gets, Upgraded, Stuck}
use Rattle.law_exclusion.specs.Target.{tree_info, upgraded_info, content_at, has_dir, is_lock}
use Rattle.target_upgrade.specs.declared.step.Step.{Step as UpgradeStep}
use Rattle.target_upgrade.specs.declared.step.Step.TheVariants.{MakesResources, MakesOldSync, PutsOne, MakesLocks as MakesLockFolder, MakesTemp, PutsTwo, PutsInfo, ListsRoot}
use Rattle.jop_target.proofs.Files.{file_at-other_delete, file_at-other_put}
use Rattle.law_exclusion.proofs.Files.{HasSameItems, same_items, same_with, same_without, with_keys-same, upgraded_info-same, has_dir-with, lock_apart, lock_no_item}
use Rattle.law_exclusion.proofs.InTune.{as_is, final_at, final_with, final_same, made_apart, ComesToSame, IsEarly, IsNew, IsAtStep, IsInTune}

-- ---- calls that are aside

-- only lock files and the folder of locks differ
pub record IsLike (t u : Tree) : Type 0 where
  pub info_file : file_at u.files InfoFile ≡ file_at t.files InfoFile
  pub old_file : file_at u.files OldVersion ≡ file_at t.files OldVersion
  pub items : HasSameItems t.files u.files
  pub files : (p : Path) → is_lock p ≡ false → content_at u p ≡ content_at t p
  pub dirs : (d : Dir) → is_same_dir Locks d ≡ false → has_dir u.folders d ≡ has_dir t.folders d

like_itself : (t : Tree) → IsLike t t
like_itself t = record {
  info_file = refl;
  old_file = refl;
  items = same_items t.files;
  files =
      λ p l. refl;
  dirs = λ d l. refl;
}

like_after : (t : Tree) (m : ℕ) (call : Call) → is_aside call ≡ true → IsLike t
    (tree_after t m call)
unfolding tree_after
like_after t m (ListDir dir) h = like_itself t
like_after t m (Get path) h = like_itself t
like_after t m (GetBlob id) h = like_itself t
like_after t m (PutBlob id len) h = absurd (false≢true h)
like_after t m (MakeDir Locks) h = record {
  info_file = refl;
  old_file = refl;
  items = same_items
      t.files;
  files = λ p l. refl;
  dirs = λ d l. has_dir-with t.folders Locks d ∙ rw l refl;
}
like_after t m (Put (LockFile name) content) h =
    let f : File = record { path = LockFile name; content = Whole content; stamp = m } in
    record {
      info_file = file_at-other_put t.files f InfoFile (lock_apart name InfoFile refl);
      old_file = file_at-other_put t.files f OldVersion (lock_apart name OldVersion refl);
      items = same_with t.files f (lock_no_item name);
      files = λ p l. ap (option_map (λ (g : File). g.content))
          (file_at-other_put t.files f p (lock_apart name p l));
      dirs = λ d l. refl;
    }
like_after t m (Delete (LockFile name)) h = record {
  info_file = file_at-other_delete t.files (LockFile name) InfoFile (lock_apart name InfoFile refl);
  old_file = file_at-other_delete t.files (LockFile name) OldVersion
      (lock_apart name OldVersion refl);
  items = same_without t.files (LockFile name) (lock_no_item name);
  files = λ p l. ap (option_map (λ (g : File). g.content)) (file_at-other_delete t.files
      (LockFile name) p (lock_apart name p l));
  dirs = λ d l. refl;
}
like_after t m call h = cc

pub like_landed : (t : Tree) (m : ℕ) (o : Option Call) → lands_aside o ≡ true → IsLike t
    (tree_with t m o)
like_landed t m None h = like_itself t
like_landed t m (Some call) h = like_after t m call h

module _ (t u : Tree) (like : IsLike t u) where
  info_like : tree_info u ≡ tree_info t
  unfolding tree_info
  info_like = rw (like.info_file, like.old_file) refl

  last_like : (info : Info) → upgraded_info u.files info ≡ upgraded_info t.files info
  last_like info = upgraded_info-same t.files u.files info like.items

  last_content : (info : Info) → Some (Whole (info_text (upgraded_info u.files info))) ≡ Some
      (Whole (info_text (upgraded_info t.files info)))
  last_content info = ap (λ (i : Info). Some (Whole (info_text i))) (last_like info)

  final_like : (v : ℕ) (info : Info) → final_at v info u ≡ final_at v info t
  final_like zero info = final_same (final_at 0 info u) (final_at 0 info t) (last_content info) refl
      refl refl refl
  final_like (suc zero) info = final_same (final_at 1 info u) (final_at 1 info t)
      (last_content info) refl (like.dirs Resources refl) (like.dirs OldSync refl) refl
  final_like (suc (suc zero)) info = final_same (final_at 2 info u) (final_at 2 info t)
      (last_content info) (like.files OldVersion refl) (like.dirs Resources refl)
      (like.dirs OldSync refl) (like.dirs Temp refl)
  final_like (suc (suc (suc n))) info = final_same (as_is u) (as_is t) (like.files InfoFile refl)
      (like.files OldVersion refl) (like.dirs Resources refl) (like.dirs OldSync refl)
      (like.dirs Temp refl)

  with_like : (o : Option Info) → final_with o u ≡ final_with o t
  with_like None = final_same (as_is u) (as_is t) (like.files InfoFile refl)
      (like.files OldVersion refl) (like.dirs Resources refl) (like.dirs OldSync refl)
      (like.dirs Temp refl)
  with_like (Some info) = final_like info.version info

  pub same_like : ComesToSame t u
  same_like = record {
    final = ap (λ (o : Option Info). final_with o u) info_like ∙ with_like (tree_info t);
    rest = record {
      files = λ p l v. like.files p l;
      folders = λ d left. like.dirs d (made_apart Locks d refl left);
    };
  }

  early_like : (info : Info) → IsEarly info t → IsEarly info u
  early_like info h = record {
    now = h.now;
    reads = info_like ∙ h.reads;
    same = h.same;
    valid = h.valid;
    made = elim h.made [
      | inl new ↦ inl (new.0, like.dirs Resources refl ∙ new.1, like.dirs OldSync refl ∙ new.2)
      | inr first ↦ inr first
    ];
  }

  new_like : (info : Info) → IsNew info t → IsNew info u
  new_like info h = record { reads = info_like ∙ h.reads; version = h.version; valid = h.valid }

  step_like : (step : UpgradeStep) (info : Info) → IsAtStep step info t → IsAtStep step info u
  step_like MakesResources info h = new_like info h
  step_like MakesOldSync info h = (new_like info h.0, like.dirs Resources refl ∙ h.1)
  step_like PutsOne info h = early_like info h
  step_like MakesLockFolder info h = early_like info h
  step_like MakesTemp info h = early_like info h
  step_like PutsTwo info h = (early_like info h.0, like.dirs Temp refl ∙ h.1)
  step_like PutsInfo info h = (
    early_like info h.0,
    like.dirs Temp refl ∙ h.1,
    like.files OldVersion
        refl ∙ h.2,
  )
  step_like ListsRoot info h = record {
    now = h.now;
    reads = info_like ∙ h.reads;
    version =
        h.version;
    same = h.same;
    valid = h.valid;
  }

  pub tuned_like : (stage : UpgradeStage) → IsInTune stage t → IsInTune stage u
  tuned_like Reads h = tt
  tuned_like ReadsOld h = like.info_file ∙ h
  tuned_like (At step info) h = step_like step info h
  tuned_like (Gets ids info) h = record {
    now = h.now;
    reads = info_like ∙ h.reads;
    version = h.version;
    leads = with_keys-same t.files u.files like.items ids info ∙ (h.leads ∙ sym (last_like h.now));
    valid = h.valid;
  }
  tuned_like Upgraded h = (h.0, info_like ∙ h.1, h.2)
  tuned_like Stuck h = tt
