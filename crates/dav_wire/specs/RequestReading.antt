-- What a server reads in the bytes that came so far: a whole request, a status to refuse them with,
-- or too little to say. A head is what `httparse` says is one.
use Rattle.std.specs.Prelude.{◌≡◌, ℕ, ◌+◌, ◌-◌, ◌<◌, ◌≤◌, ◌⊎◌, List, length, map, take}
use Rattle.httparse.specs.Grammar.{RequestHead, print_request, ReadsRequest, HasNoRequest, MayBecomeRequest}
use Rattle.httparse.specs.Spans.{name_and_value}
use Rattle.dav_parts.specs.Fields.{Fields}
use Rattle.dav_wire.specs.Requests.{framing_of, IsRequestFrom}
use Rattle.dav_wire.specs.declared.framing.Framing.TheVariants.{Refused, Body}
use Rattle.dav_wire.specs.declared.request_reader.ReadRequest.{ReadRequest}
use Rattle.dav_wire.specs.declared.request_reader.ReadRequest.TheVariants.{Whole, More, Bad}

-- ---- after a head

-- what is read of the rest after a head of that length
abbrev pub RequestBodyReadsAs
    : List ℕ → List ℕ → Fields → List ℕ → ℕ → ReadRequest → Type 0
RequestBodyReadsAs method target fields rest len (Bad status) =
    framing_of method target fields ≡ Refused status
RequestBodyReadsAs method target fields rest len More =
    (n : ℕ) × (framing_of method target fields ≡ Body n) × (length rest < n)
RequestBodyReadsAs method target fields rest len (Whole request used) =
    (n : ℕ) × (framing_of method target fields ≡ Body n) × (n ≤ length rest)
    × IsRequestFrom method target fields (take n rest) request × (used ≡ len + n)

-- the names and values of the head's fields
abbrev pub fields_of : RequestHead → Fields
fields_of head = map name_and_value head.fields

-- ---- heads

-- the bytes begin with this head, which isn't too long
pub record BeginsWith (bytes : List ℕ) (head : RequestHead) (rest : List ℕ) : Type 0 where
  pub reads : ReadsRequest bytes head rest
  pub short : length (print_request head) ≤ 16_384

-- no head is whole, and one may still be
pub record IsUnfinished (bytes : List ℕ) : Type 0 where
  pub none : HasNoRequest bytes
  pub may : MayBecomeRequest bytes
  pub short : length bytes < 16_384

-- no head is whole in as many bytes as one may have, and none may still be
pub record IsUnreadable (bytes : List ℕ) : Type 0 where
  pub none : HasNoRequest (take 16_384 bytes)
  pub never : (16_384 ≤ length bytes) ⊎ (MayBecomeRequest bytes → ⊥)

-- ---- requests

-- what is read if a head is whole
abbrev pub RequestHeadReadsAs : List ℕ → ReadRequest → Type 0
RequestHeadReadsAs bytes read =
    (head : RequestHead) × (rest : List ℕ) × BeginsWith bytes head rest
    × RequestBodyReadsAs head.method head.target (fields_of head) rest
    (length (print_request head)) read

-- what is read in the bytes so far
abbrev pub RequestReadsAs : List ℕ → ReadRequest → Type 0
RequestReadsAs bytes (Whole request used) = RequestHeadReadsAs bytes (Whole request used)
RequestReadsAs bytes More = RequestHeadReadsAs bytes More ⊎ IsUnfinished bytes
RequestReadsAs bytes (Bad status) =
    RequestHeadReadsAs bytes (Bad status) ⊎ (IsUnreadable bytes × (status ≡ 400))

-- so many bytes are missing, by a head that is whole and isn't refused
abbrev pub IsRequestMissing : List ℕ → ℕ → Type 0
IsRequestMissing bytes missing =
    (head : RequestHead) × (rest : List ℕ) × BeginsWith bytes head rest
    × (n : ℕ) × (framing_of head.method head.target (fields_of head) ≡ Body n)
    × (missing ≡ n - length rest)
