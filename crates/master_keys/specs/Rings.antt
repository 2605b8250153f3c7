-- The keys of a session: what the records of an info open to under a password.
use Rattle.std.specs.Prelude.{ℕ, ◌≡◌, List, [], ◌∷◌, Bool, true, ◌&&◌, not, Option, Some, None, map, is_some, option_and_then}
use Rattle.std.specs.Result.{result_ok}
use Rattle.std.specs.List.{AllByRecursion}
use Rattle.jop_base.specs.Id.{is_id}
use Rattle.jop_base.specs.Keyed.{at}
use Rattle.jed_format.specs.Chunk.{chunk_in, is_chunk, passing}
use Rattle.jed_format.specs.Opening.{opened_piece}
use Rattle.jed_format.specs.declared.sjcl_chunk.SjclChunk.{SjclChunk}
use Rattle.master_keys.specs.declared.key_err.KeyErr.{KeyErr}
use Rattle.master_keys.specs.declared.key_err.KeyErr.TheVariants.{NoKey, BadPassword, EntropyFault, Jed, BadItem, NoMemory}
use Rattle.master_keys.specs.declared.locked_key.LockedKey.{LockedKey}
use Rattle.master_keys.specs.declared.tried_key.TriedKey.{TriedKey}
use Rattle.sync_info.specs.declared.info.Info.{Info}
use Rattle.sync_info.specs.declared.key_record.KeyRecord.{KeyRecord}

-- a key by its id, and the digits that are the password of what it seals, if its record opens
pub record KeyNow : Type 0 where
  pub id : List ℕ
  pub digits : Option (List ℕ)

-- the keys whose records are readable, in the order of the info; the one that seals; and whether puts are sealed
pub record RingNow : Type 0 where
  pub keys : List KeyNow
  pub active : Option (List ℕ)
  pub seals : Bool

abbrev pub id_of_key : KeyNow → List ℕ
id_of_key key = key.id

-- the digits of a key, if it is there and open
abbrev pub digits_of : RingNow → List ℕ → Option (List ℕ)
digits_of ring id = option_and_then (λ (key : KeyNow). key.digits) (at id_of_key ring.keys id)

-- the digits of the key that seals
abbrev pub active_digits : RingNow → Option (List ℕ)
active_digits ring = option_and_then (digits_of ring) ring.active

-- the digits of the key that seals, which is here and open
pub record HasActive (ring : RingNow) (key digits : List ℕ) : Type 0 where
  pub active : ring.active ≡ Some key
  pub opened : digits_of ring key ≡ Some digits

-- the key that seals isn't here and open, or memory ran out
abbrev pub LacksActive : RingNow → KeyErr → Type 0
LacksActive ring (NoKey id) = (id ≡ ring.active) × (active_digits ring ≡ None)
LacksActive ring NoMemory = Unit {0}
LacksActive ring (BadPassword id) = ⊥
LacksActive ring EntropyFault = ⊥
LacksActive ring (Jed e) = ⊥
LacksActive ring BadItem = ⊥

-- ---- the keys of an info

-- what a record is sealed as, if that is readable
abbrev pub locked_as : List ℕ → Option SjclChunk → Option LockedKey
locked_as id None = None
locked_as id (Some chunk) = Some (record { id = id; chunk = chunk })

abbrev pub locked_key : KeyRecord → Option LockedKey
locked_key key = locked_as key.id (result_ok (chunk_in key.content 1))

abbrev pub before_keys : Option LockedKey → List LockedKey → List LockedKey
before_keys None keys = keys
before_keys (Some key) keys = key ∷ keys

-- the records that are readable
abbrev pub locked_keys : List KeyRecord → List LockedKey
locked_keys [] = []
locked_keys (key ∷ keys) = before_keys (locked_key key) (locked_keys keys)

-- what a chunk opens to under a password, if there is one
abbrev pub digits_under : Option (List ℕ) → SjclChunk → Option (List ℕ)
digits_under None chunk = None
digits_under (Some password) chunk = opened_piece password chunk

abbrev pub ring_key : Option (List ℕ) → LockedKey → KeyNow
ring_key password key = record { id = key.id; digits = digits_under password key.chunk }

abbrev pub ring_now : Option (List ℕ) → List LockedKey → Option (List ℕ) → Bool → RingNow
ring_now password locked active seals =
    record { keys = map (ring_key password) locked; active = active; seals = seals }

-- the ring of an info under a password: the active key is the one that the info names
abbrev pub ring_of : Info → Option (List ℕ) → RingNow
ring_of info password =
    ring_now password (locked_keys info.keys) (passing is_id (Some info.active.value)) info.e2ee.value

-- ---- a wrong password

-- the record of a key is readable
abbrev pub is_here : RingNow → List ℕ → Bool
is_here ring id = is_some (at id_of_key ring.keys id)

-- and doesn't open
abbrev pub is_shut : RingNow → List ℕ → Bool
is_shut ring id = is_here ring id && not (is_some (digits_of ring id))

-- the key that seals, if it is shut
abbrev pub shut_active : RingNow → Option (List ℕ)
shut_active ring = passing (is_shut ring) ring.active

-- ---- what a ring holds

abbrev pub id_of_locked : LockedKey → List ℕ
id_of_locked key = key.id

-- the digits of the first key of an id
abbrev pub digits_in : Option (List ℕ) → List LockedKey → List ℕ → Option (List ℕ)
digits_in password locked id =
    option_and_then (λ (key : LockedKey). digits_under password key.chunk) (at id_of_locked locked id)

-- each record is valid, and each key that was tried is as it was found
pub record IsRing (password : Option (List ℕ)) (locked : List LockedKey) (tried : List TriedKey)
    : Type 0 where
  pub valid : AllByRecursion (λ (key : LockedKey). is_chunk key.chunk ≡ true) locked
  pub known : AllByRecursion (λ (key : TriedKey). digits_in password locked key.id ≡ key.digits) tried
