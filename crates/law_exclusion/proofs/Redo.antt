-- Each call of an upgrade leaves what the target comes to in the end.
use Rattle.std.proofs.Common.{◌≡◌, ◌∙◌, refl, sym, ap, subst, inl, ℕ, [], ◌∷◌, codes, true, Some, option_map}
use Rattle.std.proofs.lemmas.Option.{same_Some}
use Rattle.jop_base.specs.declared.dir.Dir.TheVariants.{Resources, OldSync, Locks, Temp}
use Rattle.jop_base.specs.declared.path.Path.TheVariants.{Info as InfoFile, OldVersion, Item}
use Rattle.jop_target.specs.declared.call.Call.{Call}
use Rattle.jop_target.specs.declared.call.Call.TheVariants.{Get, Put}
use Rattle.jop_target.specs.declared.tree.File.{File}
use Rattle.jop_target.specs.declared.tree.Tree.{Tree}
use Rattle.jop_target.specs.Store.{file_at, reply_of, tree_after}
use Rattle.sync_info.specs.Json.{info_text}
use Rattle.sync_info.specs.declared.info.Info.{Info}
use Rattle.target_upgrade.specs.Course.{puts_text}
use Rattle.target_upgrade.specs.Steps.{UpgradeStage, Reads, ReadsOld, At, Gets, Upgraded, Stuck, awaited, stage_after_reply, step_call}
use Rattle.law_exclusion.specs.Target.{has_dir}
use Rattle.target_upgrade.specs.declared.step.Step.{Step}
use Rattle.target_upgrade.specs.declared.step.Step.TheVariants.{MakesResources, MakesOldSync, PutsOne, MakesLocks, MakesTemp, PutsTwo, PutsInfo, ListsRoot}
use Rattle.law_exclusion.proofs.Files.{has_dir-with}
use Rattle.law_exclusion.proofs.InTune.{same_tree, IsAtStep, IsInTune, IsOnItsWay}
use Rattle.law_exclusion.proofs.InTuneReads.{read_info, read_old, get_item, list_root}
use Rattle.law_exclusion.proofs.InTunePuts.{dir_stays, with_folder, new_folder, early_folder, old_there, put_old, put_second, put_last}

-- ---- each call

temp_made : (t : Tree) → has_dir (with_folder t Temp).folders Temp ≡ true
temp_made t = has_dir-with t.folders Temp Temp

done_step : (step : Step) (info : Info) (t : Tree) (now m : ℕ) → puts_text (step_call step info) ≡
    true → IsAtStep step info t → IsOnItsWay (stage_after_reply (At step info)
    (reply_of t now (step_call step info))) t (tree_after t m (step_call step info))
unfolding reply_of tree_after
done_step MakesResources info t now m text h =
    let on = new_folder t Resources info refl h in
    record { tuned = (on.0, has_dir-with t.folders Resources Resources); same = on.1 }
done_step MakesOldSync info t now m text h =
    let on = new_folder t OldSync info refl h.0 in
    record {
      tuned = record {
        now = info;
        reads = on.0.reads;
        same = refl;
        valid = on.0.valid;
        made = inl (
          on.0.version,
          dir_stays t.folders OldSync Resources h.1,
          has_dir-with t.folders OldSync
              OldSync,
        );
      };
      same = on.1;
    }
done_step PutsOne info t now m text h = let on = put_old t (codes "1") m info h in record
    { tuned = on.0; same = on.1 }
done_step MakesLocks info t now m text h = let on = early_folder t Locks info refl refl refl h in
    record { tuned = on.0; same = on.1 }
done_step MakesTemp info t now m text h = let on = early_folder t Temp info refl refl refl h in
    record { tuned = (on.0, temp_made t); same = on.1 }
done_step PutsTwo info t now m text h =
    let on = put_old t (codes "2") m info h.0 in
    record {
      tuned = (
        on.0,
        h.1,
        ap (option_map (λ (f : File). f.content))
            (old_there t (codes "2") m),
      );
      same = on.1;
    }
done_step PutsInfo info t now m text h = put_second t m info text h
done_step ListsRoot info t now m text h = record { tuned = list_root t info h; same = same_tree t }

-- An awaited call, answered as the store answers it, leaves the tree in tune, and what it comes to.
pub done_call : (stage : UpgradeStage) (t : Tree) (now m : ℕ) (call : Call) →
    awaited stage ≡ Some call → puts_text call ≡ true → IsInTune stage t →
    IsOnItsWay (stage_after_reply stage (reply_of t now call)) t (tree_after t m call)
unfolding reply_of tree_after
done_call stage t now m call next text h = by_stage stage next h where
  -- the call is the awaited one
  by_call : (s : UpgradeStage) (c : Call) → awaited s ≡ Some call → awaited s ≡ Some c →
      (puts_text c ≡ true → IsOnItsWay (stage_after_reply s (reply_of t now c)) t
      (tree_after t m c)) →
      IsOnItsWay (stage_after_reply s (reply_of t now call)) t (tree_after t m call)
  by_call s c one other done =
      let same : c ≡ call = same_Some c call (sym other ∙ one) in
      subst (λ (d : Call). IsOnItsWay (stage_after_reply s (reply_of t now d)) t (tree_after t m d))
      same (done (ap puts_text same ∙ text))

  by_stage : (s : UpgradeStage) → awaited s ≡ Some call → IsInTune s t →
      IsOnItsWay (stage_after_reply s (reply_of t now call)) t (tree_after t m call)
  by_stage Reads next h =
      by_call Reads (Get InfoFile) next refl (λ utf8. record {
        tuned = read_info t now (file_at t.files InfoFile) refl;
        same = same_tree t;
      })
  by_stage ReadsOld next h =
      by_call ReadsOld (Get OldVersion) next refl (λ utf8. record {
        tuned = read_old t now (file_at t.files OldVersion) refl h;
        same = same_tree t;
      })
  by_stage (At step info) next h =
      by_call (At step info) (step_call step info) next refl
      (λ utf8. done_step step info t now m utf8 h)
  by_stage (Gets (id ∷ ids) info) next h =
      by_call (Gets (id ∷ ids) info) (Get (Item id)) next refl (λ utf8. record {
        tuned = get_item t now id ids info h;
        same = same_tree t;
      })
  by_stage (Gets [] info) next h =
      by_call (Gets [] info) (Put InfoFile (info_text info)) next refl
      (λ utf8. put_last t m info utf8 h)
  by_stage Upgraded next h = cc
  by_stage Stuck next h = cc
