-- An info in which a key is active.
use Rattle.std.specs.Prelude.{ℕ, List, [], ◌∷◌, ◌++◌, true, if◌then◌else◌}
use Rattle.std.specs.List.{flat_map}
use Rattle.sync_info.specs.Info.{has_id}
use Rattle.sync_info.specs.declared.info.Info.{Info}
use Rattle.sync_info.specs.declared.key_record.KeyRecord.{KeyRecord}

-- the key of this id is active, and puts are sealed, from a time on; all else stays
abbrev pub with_active_key : Info → List ℕ → ℕ → Info
with_active_key info id now = record info {
  e2ee = record { value = true; updated = now };
  active = record { value = id; updated = now };
}

-- a record, unless it has this id
abbrev pub kept_if_other : List ℕ → KeyRecord → List KeyRecord
kept_if_other id known = if has_id id known then [] else known ∷ []

-- the records that don't have this id
abbrev pub other_keys : List ℕ → List KeyRecord → List KeyRecord
other_keys id keys = flat_map (kept_if_other id) keys

-- a key stands behind the others, in place of one of its id, and is active
abbrev pub with_new_key : Info → KeyRecord → ℕ → Info
with_new_key info key now =
    with_active_key (record info { keys = other_keys key.id info.keys ++ key ∷ [] }) key.id now
