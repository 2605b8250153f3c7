-- The log of a shared store: what it has answered, call by call, and when that is honest.
use Rattle.std.specs.Prelude.{ℕ, ◌≤◌, ◌≡◌, ◌⊎◌, List, [], ◌∷◌, true, false, if◌then◌else◌, nat_eq, codes}
use Rattle.jop_base.specs.declared.path.Path.TheVariants.{OldVersion}
use Rattle.jop_target.specs.Runs.{is_failed}
use Rattle.jop_target.specs.Store.{reply_of, tree_after}
use Rattle.jop_target.specs.declared.tree.Content.TheVariants.{Whole}
use Rattle.jop_target.specs.declared.tree.File.{File}
use Rattle.jop_target.specs.declared.tree.Tree.{Tree}
use Rattle.call_log.specs.declared.entry.LogEntry.{LogEntry}

-- ---- the opening tree

-- the file of a target of version 1
abbrev pub first_version_file : File
first_version_file = record { path = OldVersion; content = Whole (codes "1"); stamp = 0 }

-- the opening tree of a number: 1 is a target of version 1, and each other number an empty one
abbrev pub opening_tree : ℕ → Tree
opening_tree number = record {
  files = if nat_eq number 1 then first_version_file ∷ [] else [];
  folders = [];
}

-- ---- what the entries make of it

-- the tree after an entry: a call that didn't land leaves it as it was
abbrev pub tree_after_entry : Tree → LogEntry → Tree
tree_after_entry tree e = if e.landed then tree_after tree e.moment e.call else tree

-- the tree after all entries
unfoldable pub tree_after_log : Tree → List LogEntry → Tree
tree_after_log tree [] = tree
tree_after_log tree (e ∷ es) = tree_after_log (tree_after_entry tree e) es

-- the moment of the last entry; before the first, the one that is given
unfoldable pub last_logged : ℕ → List LogEntry → ℕ
last_logged now [] = now
last_logged now (e ∷ es) = last_logged e.moment es

-- ---- honest

-- A call that failed didn't land. Every other one landed, and was answered as the tree answers it at
-- that moment.
abbrev pub IsHonestEntry : Tree → LogEntry → Type 0
IsHonestEntry tree e =
    ((is_failed e.reply ≡ true) × (e.landed ≡ false))
    ⊎ ((e.landed ≡ true) × (e.reply ≡ reply_of tree e.moment e.call))

-- moments never fall, and each entry is honest at the tree that the earlier ones left
unfoldable pub IsHonestLogFrom : Tree → ℕ → List LogEntry → Type 0
IsHonestLogFrom tree now [] = Unit {0}
IsHonestLogFrom tree now (e ∷ es) =
    (now ≤ e.moment)
    × IsHonestEntry tree e
    × IsHonestLogFrom (tree_after_entry tree e) e.moment es

-- the log is honest from this tree on
abbrev pub IsHonestLog : Tree → List LogEntry → Type 0
IsHonestLog tree log = IsHonestLogFrom tree 0 log
