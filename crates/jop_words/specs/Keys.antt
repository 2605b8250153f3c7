-- The words of the commands on master keys.
use Rattle.std.specs.Prelude.{ℕ, List, [], ◌∷◌, codes, bytes_eq, if◌then◌else◌, Option, Some, None, option_map}
use Rattle.key_commands.specs.declared.key_command.KeyCommand.{KeyCommand}
use Rattle.key_commands.specs.declared.key_command.KeyCommand.TheVariants.{Blob, New, Use}
use Rattle.key_commands.specs.declared.key_command.KeyCommand.TheVariants as commands
use Rattle.local_commands.specs.TypedIds.{typed_id}
use Rattle.local_commands.specs.declared.typed_id.TypedId.{TypedId}
use Rattle.jop_words.specs.Words.{word_id}

abbrev pub blob_plain : TypedId → KeyCommand
blob_plain id = Blob id None

abbrev pub blob_under : List ℕ → TypedId → KeyCommand
blob_under password id = Blob id (Some password)

-- an id, and a password if one is given, which is any text
abbrev pub blob_words : List (List ℕ) → Option KeyCommand
blob_words (id ∷ []) = option_map blob_plain (typed_id id)
blob_words (id ∷ option ∷ password ∷ []) =
    if bytes_eq option (codes "--password") then option_map (blob_under password) (typed_id id) else None
blob_words words = None

-- nothing, or a password for a new key, or the id of the key that is to be used
abbrev pub keys_words : List (List ℕ) → Option KeyCommand
keys_words [] = Some commands.List
keys_words (option ∷ word ∷ []) =
    if bytes_eq option (codes "--new") then Some (New word)
    else if bytes_eq option (codes "--use") then option_map Use (word_id word) else None
keys_words words = None
