-- What words say to do: a row for each command.
use Rattle.std.specs.Prelude.{ℕ, List, [], ◌∷◌, codes, bytes_eq, Bool, true, false, if◌then◌else◌}
use Rattle.std.specs.Prelude.{Option, Some, None, option_map}
use Rattle.local_commands.specs.Commands.{IsWellFormed}
use Rattle.jop_words.specs.Keys.{blob_words, keys_words}
use Rattle.jop_words.specs.Local.{local_words}
use Rattle.jop_words.specs.Words.{word_id, word_target}
use Rattle.jop_words.specs.declared.target_name.TargetName.{TargetName}
use Rattle.jop_words.specs.declared.verb.Verb.{Verb}
use Rattle.jop_words.specs.declared.verb.Verb.TheVariants as verbs

-- ---- the words behind the first one

-- no words: the first one is all
abbrev pub verb_alone : Verb → List (List ℕ) → Option Verb
verb_alone verb [] = Some verb
verb_alone verb words = None

abbrev pub check_for : Option TargetName → Option (List ℕ) → Option Verb
check_for (Some target) (Some client) = Some (verbs.Check target client)
check_for target client = None

-- a target and a client
abbrev pub check_words : List (List ℕ) → Option Verb
check_words (target ∷ client ∷ []) = check_for (word_target target) (word_id client)
check_words words = None

abbrev pub sync_of : Option TargetName → Option Verb
sync_of None = None
sync_of (Some target) = Some (verbs.Sync target)

-- a target, to sync with
abbrev pub sync_words : List (List ℕ) → Option Verb
sync_words (target ∷ []) = sync_of (word_target target)
sync_words words = None

abbrev pub upgrade_of : Option TargetName → Option Verb
upgrade_of None = None
upgrade_of (Some target) = Some (verbs.Upgrade target)

-- a target, to upgrade
abbrev pub upgrade_words : List (List ℕ) → Option Verb
upgrade_words (target ∷ []) = upgrade_of (word_target target)
upgrade_words words = None

-- ---- all words

-- what words say to do, by the first of them
abbrev pub verb_of : List (List ℕ) → Option Verb
verb_of [] = None
verb_of (word ∷ words) =
    if bytes_eq word (codes "blob") then option_map verbs.Keys (blob_words words)
    else if bytes_eq word (codes "check") then check_words words
    else if bytes_eq word (codes "help") then verb_alone verbs.Help words
    else if bytes_eq word (codes "keys") then option_map verbs.Keys (keys_words words)
    else if bytes_eq word (codes "sync") then sync_words words
    else if bytes_eq word (codes "tidy") then verb_alone verbs.Tidy words
    else if bytes_eq word (codes "upgrade") then upgrade_words words
    else if bytes_eq word (codes "version") then verb_alone verbs.Version words
    else option_map verbs.Local (local_words word words)

-- ---- what a command tells of itself

-- the target that a command names
abbrev pub target_in : Verb → Option TargetName
target_in (verbs.Check target client) = Some target
target_in (verbs.Sync target) = Some target
target_in (verbs.Upgrade target) = Some target
target_in verb = None

-- whether a command uses this machine's own tables
abbrev pub uses_tables : Verb → Bool
uses_tables (verbs.Keys command) = true
uses_tables (verbs.Local command) = true
uses_tables (verbs.Sync target) = true
uses_tables (verbs.Upgrade target) = true
uses_tables verb = false

-- titles, names and types of content stand on a line
abbrev pub IsFit : Verb → Type 0
IsFit (verbs.Local command) = IsWellFormed command
IsFit verb = Unit {0}
