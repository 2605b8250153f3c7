-- The first readable record of a key is the one that the ring has.
use Rattle.std.proofs.Common.{◌≡◌, ℕ, ◌+◌, ◌<◌, ◌≤◌, Bool, true, false, ◌&&◌, not, bytes_eq, List, [], ◌∷◌, length, drop, get_or, Option, Some, None, Result, Err, option_map, option_and_then, is_some, if◌then◌else◌, refl, sym, ap, ◌∙◌}
use Rattle.std.specs.Option.{ok_or}
use Rattle.std.specs.Result.{result_ok}
use Rattle.std.proofs.lemmas.List.{drop_all, drop_more}
use Rattle.jed_format.specs.Chunk.{chunk_in}
use Rattle.jed_format.specs.Opening.{opened_piece}
use Rattle.jed_format.specs.declared.sjcl_chunk.SjclChunk.{SjclChunk}
use Rattle.jop_base.specs.Keyed.{at}
use Rattle.key_records.specs.Reading.{chunk_at, chunk_if}
use Rattle.key_records.specs.SealedBytes.{by_chunk, key_digits}
use Rattle.master_keys.proofs.Found.{digits_of-ring_now, is_here-ring_now}
use Rattle.master_keys.specs.Rings.{before_keys, digits_of, digits_under, id_of_locked, is_here, is_shut, locked_as, locked_keys, ring_of}
use Rattle.master_keys.specs.declared.key_err.KeyErr.{KeyErr}
use Rattle.master_keys.specs.declared.key_err.KeyErr.TheVariants.{NoKey, BadPassword}
use Rattle.master_keys.specs.declared.locked_key.LockedKey.{LockedKey}
use Rattle.sync_info.specs.declared.info.Info.{Info}
use Rattle.sync_info.specs.declared.key_record.KeyRecord.{KeyRecord}

-- ---- one record more

abbrev chunk_of_locked : LockedKey → SjclChunk
chunk_of_locked key = key.chunk

-- the first, or else the other
abbrev pub or_other : Option SjclChunk → Option SjclChunk → Option SjclChunk
or_other None other = other
or_other (Some chunk) other = Some chunk

pick : (b : Bool) (key : LockedKey) (rest : Option LockedKey)
    → option_map chunk_of_locked (if b then Some key else rest)
    ≡ or_other (if b then Some key.chunk else None) (option_map chunk_of_locked rest)
pick true key rest = refl
pick false key rest = refl

none_either : (b : Bool) (other : Option SjclChunk) → other ≡ or_other (if b then None else None) other
none_either true other = refl
none_either false other = refl

at_first : (id own : List ℕ) (found : Option SjclChunk) (rest : List LockedKey)
    → option_map chunk_of_locked (at id_of_locked (before_keys (locked_as own found) rest) id)
    ≡ or_other (if bytes_eq own id then found else None) (option_map chunk_of_locked (at id_of_locked rest id))
unfolding at
at_first id own None rest = none_either (bytes_eq own id) (option_map chunk_of_locked (at id_of_locked rest id))
at_first id own (Some chunk) rest =
    pick (bytes_eq own id) (record { id = own; chunk = chunk }) (at id_of_locked rest id)

chunk_more : (known : KeyRecord) (keys : List KeyRecord) (id : List ℕ)
    → chunk_at (known ∷ keys) id ≡ or_other (chunk_if id known) (chunk_at keys id)
chunk_more known keys id = at_first id known.id (result_ok (chunk_in known.content 1)) (locked_keys keys)

-- the loop that looks for it
pub chunk_from : (keys : List KeyRecord) (i : ℕ) (known : KeyRecord) (id : List ℕ) → i < length keys
    → known ≡ get_or keys i known
    → chunk_at (drop i keys) id ≡ or_other (chunk_if id known) (chunk_at (drop (i + 1) keys) id)
chunk_from keys i known id lt is =
    ap (λ (ks : List KeyRecord). chunk_at ks id)
    (drop_more keys i known lt ∙ ap (λ (k : KeyRecord). k ∷ drop (i + 1) keys) (sym is))
    ∙ chunk_more known (drop (i + 1) keys) id

none_at : (id : List ℕ) → chunk_at [] id ≡ None
unfolding at
none_at id = refl

pub chunk_end : (keys : List KeyRecord) (i : ℕ) (id : List ℕ) → length keys ≤ i → chunk_at (drop i keys) id ≡ None
chunk_end keys i id end = ap (λ (ks : List KeyRecord). chunk_at ks id) (drop_all i keys end) ∙ none_at id

-- ---- the digits

abbrev digits_of_found : List ℕ → Option LockedKey → Option (List ℕ)
digits_of_found password found =
    option_and_then (λ (key : LockedKey). digits_under (Some password) key.chunk) found

by_opened : (key : List ℕ) (opened : Option (List ℕ))
    → (if not (is_some opened) then Err (BadPassword key) else ok_or opened (NoKey (Some key)))
    ≡ ok_or opened (BadPassword key)
by_opened key None = refl
by_opened key (Some digits) = refl

by_found : (password key : List ℕ) (found : Option LockedKey)
    → (if is_some found && not (is_some (digits_of_found password found)) then Err (BadPassword key)
    else ok_or (digits_of_found password found) (NoKey (Some key)))
    ≡ by_chunk password key (option_map chunk_of_locked found)
by_found password key None = refl
by_found password key (Some locked) = by_opened key (opened_piece password locked.chunk)

-- what the ring says of a key, by its record
pub digits_by_chunk : (info : Info) (password key : List ℕ)
    → key_digits info (Some password) key ≡ by_chunk password key (chunk_at info.keys key)
digits_by_chunk info password key =
    let ring = ring_of info (Some password) in
    let locked = locked_keys info.keys in
    let here = is_here-ring_now (Some password) locked ring.active ring.seals key in
    let opened = digits_of-ring_now (Some password) locked ring.active ring.seals key in
    ap (λ (h : Bool). if h && not (is_some (digits_of ring key)) then Err (BadPassword key)
    else ok_or (digits_of ring key) (NoKey (Some key))) here
    ∙ ap (λ (d : Option (List ℕ)). if is_some (at id_of_locked locked key) && not (is_some d) then Err (BadPassword key)
    else ok_or d (NoKey (Some key))) opened
    ∙ by_found password key (at id_of_locked locked key)

without : (found : Option LockedKey) → option_and_then (λ (key : LockedKey). digits_under None key.chunk) found ≡ None
without None = refl
without (Some key) = refl

-- without a password no key is open
pub digits_without : (info : Info) (key : List ℕ) → key_digits info None key ≡ Err (NoKey (Some key))
digits_without info key =
    let ring = ring_of info None in
    let locked = locked_keys info.keys in
    ap (λ (d : Option (List ℕ)). ok_or d (NoKey (Some key)))
    (digits_of-ring_now None locked ring.active ring.seals key ∙ without (at id_of_locked locked key))
