-- What an entry more makes of a log.
use Rattle.std.proofs.Common.{refl, ◌≡◌, ℕ, ◌≤◌, List, [], ◌∷◌, ◌++◌, ◌∙◌, sym, ap, subst}
use Rattle.jop_target.specs.declared.tree.Tree.{Tree}
use Rattle.call_log.specs.Logs.{IsHonestEntry, IsHonestLog, IsHonestLogFrom, last_logged, tree_after_entry, tree_after_log}
use Rattle.call_log.specs.declared.entry.LogEntry.{LogEntry}
use Rattle.hall.specs.Keeping.{KeepsLog}

pub tree_after_log-grown : (tree : Tree) (es : List LogEntry) (e : LogEntry)
    → tree_after_log tree (es ++ e ∷ []) ≡ tree_after_entry (tree_after_log tree es) e
unfolding tree_after_log
tree_after_log-grown tree [] e = refl
tree_after_log-grown tree (d ∷ ds) e = tree_after_log-grown (tree_after_entry tree d) ds e

pub last_logged-grown : (now : ℕ) (es : List LogEntry) (e : LogEntry)
    → last_logged now (es ++ e ∷ []) ≡ e.moment
unfolding last_logged
last_logged-grown now [] e = refl
last_logged-grown now (d ∷ ds) e = last_logged-grown d.moment ds e

pub IsHonestLogFrom-grown : (tree : Tree) (now : ℕ) (es : List LogEntry) (e : LogEntry)
    → IsHonestLogFrom tree now es → last_logged now es ≤ e.moment
    → IsHonestEntry (tree_after_log tree es) e → IsHonestLogFrom tree now (es ++ e ∷ [])
unfolding tree_after_log last_logged IsHonestLogFrom
IsHonestLogFrom-grown tree now [] e honest later entry = (later, entry, tt)
IsHonestLogFrom-grown tree now (d ∷ ds) e honest later entry = (
  honest.0,
  honest.1,
  IsHonestLogFrom-grown (tree_after_entry tree d) d.moment ds e honest.2 later entry,
)

-- what is kept when an entry is added to a log that a reservation left as it was
pub kept_grown : {first : Tree} {moment moment' : ℕ} {tree tree' : Tree} {log room log' : List LogEntry}
    (e : LogEntry) → KeepsLog first moment tree log → room ≡ log → log' ≡ room ++ e ∷ []
    → moment ≤ e.moment → IsHonestEntry tree e → moment' ≡ e.moment → tree' ≡ tree_after_entry tree e
    → KeepsLog first moment' tree' log'
kept_grown {first} {moment} {moment'} {tree} {tree'} {log} {room} {log'}
    e kept same grown later entry moment_is tree_is =
    let whole : log' ≡ log ++ e ∷ [] = grown ∙ ap (λ es. es ++ e ∷ []) same in
    record {
      moment_is = moment_is
          ∙ (sym (last_logged-grown 0 log e) ∙ sym (ap (λ es. last_logged 0 es) whole));
      tree_is = tree_is ∙ (ap (λ t. tree_after_entry t e) kept.tree_is
          ∙ (sym (tree_after_log-grown first log e) ∙ sym (ap (λ es. tree_after_log first es) whole)));
      honest = subst (λ es. IsHonestLog first es) (sym whole)
          (IsHonestLogFrom-grown first 0 log e kept.honest
          (subst (λ n. n ≤ e.moment) kept.moment_is later)
          (subst (λ t. IsHonestEntry t e) kept.tree_is entry));
    }
