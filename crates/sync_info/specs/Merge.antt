-- How a client's info and its target's become one. The rule is this project's own.
use Rattle.std.specs.Prelude.{◌≡◌, ℕ, not, List, ◌++◌, map, Option, Some, None, nat_lt, if◌then◌else◌, option_and_then, slice_get}
use Rattle.std.specs.BTreeMap.{BTreeMap, get}
use Rattle.std.specs.Cmp.Lexicographic.{slice_cmp}
use Rattle.std.specs.List.{filter, find, list_any}
use Rattle.std.specs.Ordering.{nat_cmp}
use Rattle.sync_info.specs.Info.{has_id}
use Rattle.sync_info.specs.declared.info.Info.{Info}
use Rattle.sync_info.specs.declared.key_record.KeyRecord.{KeyRecord}
use Rattle.sync_info.specs.declared.timed.Timed.{Timed}

-- at the place that the map has for an id stands the first record of that id, and if it has none
-- there is no such record
abbrev pub IsIndex : List KeyRecord → BTreeMap (List ℕ) ℕ → Type 0
IsIndex keys index =
    (id : List ℕ)
    → option_and_then (slice_get keys) (get (slice_cmp nat_cmp) index id) ≡ find (has_id id) keys

-- the setting that was changed later, the remote one if both were at one time
abbrev pub later : {T : Type 0} → Timed T → Timed T → Timed T
later local remote = if nat_lt remote.updated local.updated then local else remote

-- the local record in place of an older remote one
abbrev pub later_record : Option KeyRecord → KeyRecord → KeyRecord
later_record None remote = remote
later_record (Some local) remote = if nat_lt remote.updated local.updated then local else remote

-- the remote records in their order, each the later one
abbrev pub renewed : List KeyRecord → List KeyRecord → List KeyRecord
renewed local remote = map (λ key. later_record (find (has_id key.id) local) key) remote

-- the local records that the remote ones lack
abbrev pub missing : List KeyRecord → List KeyRecord → List KeyRecord
missing local remote = filter (λ key. not (list_any (has_id key.id) remote)) local

abbrev pub joined_keys : List KeyRecord → List KeyRecord → List KeyRecord
joined_keys local remote = renewed local remote ++ missing local remote

-- version and kept members are the remote's
abbrev pub merged : Info → Info → Info
merged local remote = record {
  version = remote.version;
  e2ee = later local.e2ee remote.e2ee;
  active = later local.active remote.active;
  keys = joined_keys local.keys remote.keys;
  others = remote.others;
}
