-- What is told of the keys of an info.
use Rattle.std.specs.Prelude.{ℕ, List, [], ◌∷◌, ◌++◌, codes, bytes_eq, if◌then◌else◌}
use Rattle.std.specs.List.{flat_map}
use Rattle.sync_info.specs.declared.info.Info.{Info}
use Rattle.sync_info.specs.declared.key_record.KeyRecord.{KeyRecord}

-- what stands behind the id of a key, where this one is active
abbrev pub key_mark : List ℕ → List ℕ → List ℕ
key_mark active id =
    if bytes_eq active id then codes " active" ++ 10 ∷ [] else codes " -" ++ 10 ∷ []

abbrev pub key_line : List ℕ → KeyRecord → List ℕ
key_line active known = known.id ++ key_mark active known.id

abbrev pub key_lines : List ℕ → List KeyRecord → List ℕ
key_lines active keys = flat_map (key_line active) keys

-- a line for each, in the order of the info
abbrev pub keys_text : Info → List ℕ
keys_text info = key_lines info.active.value info.keys
