-- What the words on a command line mean: a command, on some target and tables.
use Rattle.std.specs.Prelude.{ℕ, List, ◌∷◌, codes, bytes_eq, Option, Some, None, if◌then◌else◌}
use Rattle.jop_words.specs.Verbs.{target_in, uses_tables, verb_of}
use Rattle.jop_words.specs.declared.command.Command.{Command}
use Rattle.jop_words.specs.declared.profile.Profile.{Profile}
use Rattle.jop_words.specs.declared.profile.Profile.TheVariants as profiles
use Rattle.jop_words.specs.declared.target_name.TargetName.{TargetName}
use Rattle.jop_words.specs.declared.verb.Verb.{Verb}

abbrev pub with_profile : Option (List ℕ) → Option Verb → Option Command
with_profile profile None = None
with_profile profile (Some verb) = Some (record { profile = profile; verb = verb })

-- the command that words mean, which may begin with `--profile PATH`
abbrev pub command_of : List (List ℕ) → Option Command
command_of (option ∷ path ∷ words) =
    if bytes_eq option (codes "--profile") then with_profile (Some path) (verb_of words)
    else with_profile None (verb_of (option ∷ path ∷ words))
command_of words = with_profile None (verb_of words)

abbrev pub verb_in : Option Command → Option Verb
verb_in None = None
verb_in (Some command) = Some command.verb

-- what words say to do, if they mean a command
abbrev pub meant : List (List ℕ) → Option Verb
meant words = verb_in (command_of words)

abbrev pub target_of_verb : Option Verb → Option TargetName
target_of_verb None = None
target_of_verb (Some verb) = target_in verb

-- the target that words name
abbrev pub target_words : List (List ℕ) → Option TargetName
target_words words = target_of_verb (meant words)

-- ---- where the tables are kept

-- the file of a path, or that of the default; `:memory:` is none
abbrev pub profile_at : Option (List ℕ) → Profile
profile_at None = profiles.File (codes "jop.sqlite")
profile_at (Some path) =
    if bytes_eq path (codes ":memory:") then profiles.Memory else profiles.File path

abbrev pub profile_in : Option Command → Profile
profile_in None = profiles.Memory
profile_in (Some command) =
    if uses_tables command.verb then profile_at command.profile else profiles.Memory

-- where the tables are kept that words ask for
abbrev pub profile_words : List (List ℕ) → Profile
profile_words words = profile_in (command_of words)
