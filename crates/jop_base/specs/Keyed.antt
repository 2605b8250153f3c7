-- Lists in which each item has a key, a text: files by their paths, rows and blobs by their ids.
use Rattle.std.specs.Prelude.{ℕ, ◌≡◌, ◌<◌, ◌≤◌, length, slice_get, slice_set, List, [], ◌∷◌, Bool, true, if◌then◌else◌, bytes_eq, Option, Some, None}
use Rattle.std.specs.List.{insert, remove}
use Rattle.std.specs.Ordering.{is_lt, nat_cmp}
use Rattle.std.specs.Cmp.Lexicographic.{slice_cmp}

-- whether the first text stands before the second, by bytes
abbrev pub text_lt : List ℕ → List ℕ → Bool
text_lt a b = is_lt (slice_cmp nat_cmp a b)

-- the first item of a key
unfoldable pub at : {T : Type 0} → (T → List ℕ) → List T → List ℕ → Option T
at key [] k = None
at key (x ∷ xs) k = if bytes_eq (key x) k then Some x else at key xs k

-- the items with this one among them: in place of the first of its key, or before the first whose key is greater, or
-- at the end
unfoldable pub put : {T : Type 0} → (T → List ℕ) → List T → T → List T
put key [] x = x ∷ []
put key (y ∷ ys) x =
    if bytes_eq (key y) (key x) then x ∷ ys
    else if text_lt (key x) (key y) then x ∷ y ∷ ys
    else y ∷ put key ys x

-- the items without the first of a key
unfoldable pub cut : {T : Type 0} → (T → List ℕ) → List T → List ℕ → List T
cut key [] k = []
cut key (x ∷ xs) k = if bytes_eq (key x) k then xs else x ∷ cut key xs k

-- the first item of a key stands at this place
pub record IsFirstPlaceOf {T : Type 0} (key : T → List ℕ) (xs : List T) (k : List ℕ) (place : ℕ)
    : Type 0 where
  pub within : place < length xs
  pub item : at key xs k ≡ slice_get xs place
  pub rest : cut key xs k ≡ remove xs place

-- no item has a key
pub record IsLacking {T : Type 0} (key : T → List ℕ) (xs : List T) (k : List ℕ) : Type 0 where
  pub item : at key xs k ≡ None
  pub rest : cut key xs k ≡ xs

-- an item of a key is put in place of the one that stands there
pub record Replaces {T : Type 0} (key : T → List ℕ) (xs : List T) (k : List ℕ) (place : ℕ)
    : Type 0 where
  pub within : place < length xs
  pub put : (x : T) → key x ≡ k → put key xs x ≡ slice_set xs place x

-- an item of a key is put before the one that stands there, or at the end
pub record GoesBefore {T : Type 0} (key : T → List ℕ) (xs : List T) (k : List ℕ) (place : ℕ)
    : Type 0 where
  pub within : place ≤ length xs
  pub put : (x : T) → key x ≡ k → put key xs x ≡ insert xs place x

-- the first item, if there is one, comes after a key
abbrev pub IsAfter : {T : Type 0} → (T → List ℕ) → List ℕ → List T → Type 0
IsAfter key k [] = Unit {0}
IsAfter key k (x ∷ xs) = text_lt k (key x) ≡ true

-- the items stand in the order of their keys, each key once
abbrev pub IsSorted : {T : Type 0} → (T → List ℕ) → List T → Type 0
IsSorted key [] = Unit {0}
IsSorted key (x ∷ xs) = IsAfter key (key x) xs × IsSorted key xs
