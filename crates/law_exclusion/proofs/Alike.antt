-- What a tree comes to is the upgraded tree.
use Rattle.std.proofs.Common.{◌≡◌, ◌∙◌, refl, sym, ap, ℕ, zero, suc, codes, false, Option, Some, None, option_map}
use Rattle.jop_base.specs.declared.dir.Dir.{Dir}
use Rattle.jop_base.specs.declared.dir.Dir.TheVariants.{Resources, OldSync, Locks, Temp}
use Rattle.jop_base.specs.declared.path.Path.{Path}
use Rattle.jop_base.specs.declared.path.Path.TheVariants.{Info as InfoFile, OldVersion, Lock as LockFile}
use Rattle.jop_target.specs.declared.tree.File.{File}
use Rattle.jop_target.specs.declared.tree.Tree.{Tree}
use Rattle.jop_target.specs.Store.{is_same_dir}
use Rattle.sync_info.specs.Json.{info_text}
use Rattle.sync_info.specs.declared.info.Info.{Info}
use Rattle.target_upgrade.specs.Steps.{SUPPORTED}
use Rattle.law_exclusion.specs.Target.{tree_info, upgraded_info, file_of, files_from, steps_from, upgraded_from, upgraded_with, upgraded, is_lock, content_at, has_dir, IsAlike}
use Rattle.jop_target.proofs.Files.{file_at-other_put, file_at-put}
use Rattle.law_exclusion.proofs.Files.{has_dir-with, info_apart_old, info_apart, old_apart}
use Rattle.law_exclusion.proofs.InTune.{Final, as_is, final_at, final_with, final, final_same, left_with, untouched, HasSameRest, ComesToSame}

at_from : (v : ℕ) (info : Info) (t : Tree) → as_is (upgraded_from v info t) ≡ final_at v info t
at_from zero info t = final_same (as_is (steps_from 0 info t)) (final_at 0 info t)
    (ap (option_map (λ (f : File). f.content)) (file_at-put (files_from 0 t.files)
    (file_of InfoFile (info_text (upgraded_info t.files info)))))
    (ap (option_map (λ (f : File). f.content)) (file_at-other_put (files_from 0 t.files)
    (file_of InfoFile (info_text (upgraded_info t.files info))) OldVersion info_apart_old ∙
    file_at-put t.files (file_of OldVersion (codes "2"))))
    (simp has_dir-with) (simp has_dir-with) (simp has_dir-with)
at_from (suc zero) info t = final_same (as_is (steps_from 1 info t)) (final_at 1 info t)
    (ap (option_map (λ (f : File). f.content)) (file_at-put (files_from 1 t.files)
    (file_of InfoFile (info_text (upgraded_info t.files info)))))
    (ap (option_map (λ (f : File). f.content)) (file_at-other_put (files_from 1 t.files)
    (file_of InfoFile (info_text (upgraded_info t.files info))) OldVersion info_apart_old ∙
    file_at-put t.files (file_of OldVersion (codes "2"))))
    (simp has_dir-with) (simp has_dir-with) (simp has_dir-with)
at_from (suc (suc zero)) info t = final_same (as_is (steps_from 2 info t)) (final_at 2 info t)
    (ap (option_map (λ (f : File). f.content)) (file_at-put (files_from 2 t.files)
    (file_of InfoFile (info_text (upgraded_info t.files info)))))
    (ap (option_map (λ (f : File). f.content)) (file_at-other_put (files_from 2 t.files)
    (file_of InfoFile (info_text (upgraded_info t.files info))) OldVersion info_apart_old))
    refl refl refl
at_from (suc (suc (suc n))) info t = refl

with_option : (o : Option Info) (t : Tree) → as_is (upgraded_with o t) ≡ final_with o t
with_option None t = refl
with_option (Some info) t = at_from info.version info t

-- the upgraded tree is what the tree comes to
pub upgraded-final : (t : Tree) → as_is (upgraded t) ≡ final t
unfolding upgraded
upgraded-final t = with_option (tree_info t) t

rest_from : (v : ℕ) (info : Info) (t : Tree) → HasSameRest t (upgraded_from v info t)
rest_from zero info t = record {
  files = λ p l v. ap (option_map (λ (f : File). f.content))
      (file_at-other_put (files_from 0 t.files) (file_of InfoFile
      (info_text (upgraded_info t.files info))) p (info_apart p l v) ∙ file_at-other_put t.files
      (file_of OldVersion (codes "2")) p (old_apart p l v));
  folders = λ d left. left_with _ Temp d refl left ∙ (left_with _ Locks d refl left
      ∙ (left_with _ OldSync d refl left ∙ left_with t.folders Resources d refl left));
}
rest_from (suc zero) info t = record {
  files = λ p l v. ap (option_map (λ (f : File). f.content))
      (file_at-other_put (files_from 1 t.files) (file_of InfoFile
      (info_text (upgraded_info t.files info))) p (info_apart p l v) ∙ file_at-other_put t.files
      (file_of OldVersion (codes "2")) p (old_apart p l v));
  folders = λ d left. left_with _ Temp d refl left ∙ left_with t.folders Locks d refl left;
}
rest_from (suc (suc zero)) info t = record {
  files = λ p l v. ap (option_map (λ (f : File). f.content))
      (file_at-other_put t.files (file_of InfoFile (info_text (upgraded_info t.files info))) p
      (info_apart p l v));
  folders = λ d left. refl;
}
rest_from (suc (suc (suc n))) info t = untouched t

rest_option : (o : Option Info) (t : Tree) → HasSameRest t (upgraded_with o t)
rest_option None t = untouched t
rest_option (Some info) t = rest_from info.version info t

upgraded-rest : (t : Tree) → HasSameRest t (upgraded t)
unfolding upgraded
upgraded-rest t = rest_option (tree_info t) t

pub alike : (t u : Tree) → as_is t ≡ as_is u → HasSameRest u t → IsAlike t u
alike t u same rest = record { files = files; folders = folders } where
  files : (p : Path) → is_lock p ≡ false → content_at t p ≡ content_at u p
  files InfoFile l = ap (λ (f : Final). f.info) same
  files OldVersion l = ap (λ (f : Final). f.old) same
  files (LockFile name) l = cc
  files p l = rest.files p l refl

  folders : (d : Dir) → is_same_dir d Locks ≡ false → has_dir t.folders d ≡ has_dir u.folders d
  folders Resources l = ap (λ (f : Final). f.resources) same
  folders OldSync l = ap (λ (f : Final). f.sync) same
  folders Temp l = ap (λ (f : Final). f.temp) same
  folders Locks l = cc
  folders d l = rest.folders d refl

-- a tree at the supported version is what it comes to
pub alike_ended : (t u : Tree) (info : Info) → tree_info u ≡ Some info → info.version ≡ SUPPORTED →
    ComesToSame t u → IsAlike u (upgraded t)
alike_ended t u info reads ver h =
    let ended : as_is u ≡ final u = sym (ap (λ (o : Option Info). final_with o u) reads ∙ ap
    (λ (n : ℕ). final_at n info u) ver) in
    alike u (upgraded t) (ended ∙ (h.final ∙ sym (upgraded-final t))) (record {
      files = λ p l v. h.rest.files p l v ∙ sym ((upgraded-rest t).files p l v);
      folders = λ d left. h.rest.folders d left ∙ sym ((upgraded-rest t).folders d left);
    })
