-- What the record of a key is sealed as.
use Rattle.std.specs.Prelude.{ℕ, List, bytes_eq, Option, None, option_map, if◌then◌else◌}
use Rattle.std.specs.Result.{result_ok}
use Rattle.jed_format.specs.Chunk.{chunk_in}
use Rattle.jed_format.specs.declared.sjcl_chunk.SjclChunk.{SjclChunk}
use Rattle.jop_base.specs.Keyed.{at}
use Rattle.master_keys.specs.Rings.{id_of_locked, locked_keys}
use Rattle.master_keys.specs.declared.locked_key.LockedKey.{LockedKey}
use Rattle.sync_info.specs.declared.key_record.KeyRecord.{KeyRecord}

-- what a record of this id is sealed as, if that is readable
abbrev pub chunk_if : List ℕ → KeyRecord → Option SjclChunk
chunk_if id known = if bytes_eq known.id id then result_ok (chunk_in known.content 1) else None

-- what the first readable record of an id is sealed as
abbrev pub chunk_at : List KeyRecord → List ℕ → Option SjclChunk
chunk_at keys id = option_map (λ (key : LockedKey). key.chunk) (at id_of_locked (locked_keys keys) id)
