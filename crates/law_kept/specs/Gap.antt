-- That no other client's put of the file lands between a client's check and the put that follows it.
use Rattle.std.specs.Prelude.{◌≡◌, ◌<◌, ℕ, List, Bool, true, false, Some, slice_get}
use Rattle.law_kept.specs.Acts.{Answer, Act, Gets, Puts, Changes, Elsewhere, FileStep}

-- a call on the file, or the beginning or the end of a session
abbrev pub is_touching : Act → Bool
is_touching (Changes change) = false
is_touching Elsewhere = false
is_touching act = true

abbrev pub does : List ℕ → Act → FileStep
does client act = record { client = client; act = act }

-- between two places the client makes no call on the file, and its session goes on
abbrev pub IsStillBetween : List FileStep → List ℕ → ℕ → ℕ → Type 0
IsStillBetween ss client first last =
    (place : ℕ) (s : FileStep) → first < place → place < last
    → slice_get ss place ≡ Some s → s.client ≡ client → is_touching s.act ≡ false

-- another client's put lands between two places
pub record IsCrossed (ss : List FileStep) (client : List ℕ) (first last : ℕ) : Type 0 where
  pub place : ℕ
  pub other : List ℕ
  pub bytes : List ℕ
  pub heard : Bool
  pub here : slice_get ss place ≡ Some (does other (Puts bytes true heard))
  pub apart : ¬ (other ≡ client)
  pub after : first < place
  pub before : place < last

-- a client checks the file, another one's put lands, and then one of the first client's
pub record HasGap (ss : List FileStep) : Type 0 where
  pub client : List ℕ
  pub check : ℕ
  pub put : ℕ
  pub answer : Answer
  pub bytes : List ℕ
  pub heard : Bool
  pub checks : slice_get ss check ≡ Some (does client (Gets answer))
  pub puts : slice_get ss put ≡ Some (does client (Puts bytes true heard))
  pub still : IsStillBetween ss client check put
  pub crossed : IsCrossed ss client check put

abbrev pub NoOtherUploadBetween : List FileStep → Type 0
NoOtherUploadBetween ss = HasGap ss → ⊥
