-- Keys that are looked up.
use Rattle.std.proofs.Common.{◌≡◌, ℕ, Bool, true, false, bytes_eq, List, [], ◌∷◌, ◌++◌, map, Option, Some, None, if◌then◌else◌, is_some, option_map, option_and_then, refl, sym, ap, ◌∙◌, inl, inr}
use Rattle.std.specs.Borrow.{Bor}
use Rattle.std.specs.List.{AllByRecursion}
use Rattle.std.specs.Option.{option_copied}
use Rattle.std.proofs.lemmas.Bool.{cases_Bool}
use Rattle.std.proofs.lemmas.Slice.Eq.{bytes_eq-Decides}
use Rattle.jed_format.specs.Chunk.{is_chunk}
use Rattle.jop_base.specs.Keyed.{at}
use Rattle.master_keys.specs.Rings.{KeyNow, digits_in, digits_of, digits_under, id_of_key, id_of_locked, is_here, ring_key, ring_now}
use Rattle.master_keys.specs.declared.locked_key.LockedKey.{LockedKey}
use Rattle.master_keys.specs.declared.tried_key.TriedKey.{TriedKey}

pick : (password : Option (List ℕ)) (b : Bool) (key : LockedKey) (rest : Option LockedKey) (other : Option KeyNow)
    → other ≡ option_map (ring_key password) rest
    → (if b then Some (ring_key password key) else other)
    ≡ option_map (ring_key password) (if b then Some key else rest)
pick password true key rest other is = refl
pick password false key rest other is = is

-- a key of the ring is that of the first record of its id
pub at-ring_key : (password : Option (List ℕ)) (locked : List LockedKey) (id : List ℕ)
    → at id_of_key (map (ring_key password) locked) id
    ≡ option_map (ring_key password) (at id_of_locked locked id)
unfolding at
at-ring_key password [] id = refl
at-ring_key password (key ∷ locked) id =
    pick password (bytes_eq key.id id) key (at id_of_locked locked id)
    (at id_of_key (map (ring_key password) locked) id) (at-ring_key password locked id)

opened_key : (password : Option (List ℕ)) (found : Option LockedKey)
    → option_and_then (λ (key : KeyNow). key.digits) (option_map (ring_key password) found)
    ≡ option_and_then (λ (key : LockedKey). digits_under password key.chunk) found
opened_key password None = refl
opened_key password (Some key) = refl

pub digits_of-ring_now : (password : Option (List ℕ)) (locked : List LockedKey) (active : Option (List ℕ)) (seals : Bool)
    (id : List ℕ) → digits_of (ring_now password locked active seals) id ≡ digits_in password locked id
digits_of-ring_now password locked active seals id =
    ap (option_and_then (λ (key : KeyNow). key.digits)) (at-ring_key password locked id)
    ∙ opened_key password (at id_of_locked locked id)

some_map : (password : Option (List ℕ)) (found : Option LockedKey)
    → is_some (option_map (ring_key password) found) ≡ is_some found
some_map password None = refl
some_map password (Some key) = refl

pub is_here-ring_now : (password : Option (List ℕ)) (locked : List LockedKey) (active : Option (List ℕ)) (seals : Bool)
    (id : List ℕ) → is_here (ring_now password locked active seals) id ≡ is_some (at id_of_locked locked id)
is_here-ring_now password locked active seals id =
    ap is_some (at-ring_key password locked id) ∙ some_map password (at id_of_locked locked id)

pub copied_some : (found : Option (Bor LockedKey)) → is_some (option_copied found) ≡ is_some found
copied_some None = refl
copied_some (Some key) = refl

-- a record that is found is valid
pub valid_at : (locked : List LockedKey) (id : List ℕ) (key : LockedKey)
    → AllByRecursion (λ (k : LockedKey). is_chunk k.chunk ≡ true) locked
    → Some key ≡ at id_of_locked locked id → is_chunk key.chunk ≡ true
unfolding at
valid_at [] id key valid is = cc
valid_at (first ∷ locked) id key valid is = elim (cases_Bool (bytes_eq first.id id)) [
  | inl same ↦
      let here : Some key ≡ Some first = rw same at is in
      let k : key ≡ first = cc in
      ap (λ (x : LockedKey). is_chunk x.chunk) k ∙ valid.0
  | inr differ ↦ valid_at locked id key valid.1 (rw differ at is)
]

-- ---- keys that were tried

abbrev pub id_of_tried : TriedKey → List ℕ
id_of_tried key = key.id

-- what is known of each
abbrev pub IsKnown : Option (List ℕ) → List LockedKey → TriedKey → Type 0
IsKnown password locked key = digits_in password locked key.id ≡ key.digits

pub known_at : (password : Option (List ℕ)) (locked : List LockedKey) (tried : List TriedKey) (id : List ℕ)
    (key : TriedKey) → AllByRecursion (IsKnown password locked) tried → Some key ≡ at id_of_tried tried id
    → key.digits ≡ digits_in password locked id
unfolding at
known_at password locked [] id key known is = cc
known_at password locked (first ∷ tried) id key known is = elim (cases_Bool (bytes_eq first.id id)) [
  | inl same ↦
      let here : Some key ≡ Some first = rw same at is in
      let k : key ≡ first = cc in
      let named : first.id ≡ id = (bytes_eq-Decides first.id id).0 same in
      ap (λ (x : TriedKey). x.digits) k ∙ sym known.0 ∙ ap (digits_in password locked) named
  | inr differ ↦ known_at password locked tried id key known.1 (rw differ at is)
]

pub known_more : (password : Option (List ℕ)) (locked : List LockedKey) (tried : List TriedKey) (key : TriedKey)
    → AllByRecursion (IsKnown password locked) tried → IsKnown password locked key
    → AllByRecursion (IsKnown password locked) (tried ++ key ∷ [])
known_more password locked [] key known is = (is, tt)
known_more password locked (first ∷ tried) key known is = (known.0, known_more password locked tried key known.1 is)
