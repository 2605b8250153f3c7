-- The ids that a command draws.
use Rattle.std.specs.Prelude.{ℕ, ◌+◌, ◌%◌, ◌^◌, ◌≡◌, ◌⊎◌, List}
use Rattle.client.specs.Outside.{WasDrawn}
use Rattle.jop_base.specs.Id.{number_of}
use Rattle.jop_outside.specs.Outside.{HasRisen}
use Rattle.jop_outside.specs.Random.{EntropyNow}
use Rattle.local_changes.specs.Free.{IsFirstFree}
use Rattle.local_store.specs.declared.tables.Tables.{Tables}
use Rattle.local_commands.specs.declared.drawing.Drawing.{Drawing}
use Rattle.local_commands.specs.declared.drawing.Drawing.TheVariants.{NoId, OneId, TwoIds}
use Rattle.local_commands.specs.declared.drawing.Ids.{Ids}
use Rattle.local_commands.specs.declared.drawing.Ids.TheVariants as ids

-- the id is the first of the drawn one and its followers that no row and no deletion has
pub record IsNewId (t : Tables) (old : EntropyNow) (id : List ℕ) (new : EntropyNow) : Type 0 where
  pub digits : List ℕ
  pub drawn : WasDrawn old digits new
  pub free : IsFirstFree t digits id

-- The first free id, from the drawn one on, that isn't this other one; behind the other one it is the
-- first from the next number on.
abbrev pub IsFirstBut : Tables → List ℕ → List ℕ → List ℕ → Type 0
IsFirstBut t other digits id =
    (IsFirstFree t digits id × ¬ (id ≡ other))
    ⊎ ((next : List ℕ) × IsFirstFree t digits other
    × (number_of next ≡ (number_of other + 1) % 16 ^ 32) × IsFirstFree t next id)

-- a second id was drawn, which isn't the first one
pub record IsSecondId (t : Tables) (other : List ℕ) (old : EntropyNow) (id : List ℕ)
    (new : EntropyNow) : Type 0 where
  pub digits : List ℕ
  pub drawn : WasDrawn old digits new
  pub free : IsFirstBut t other digits id

-- two ids were drawn, one after the other
pub record AreTwoIds (t : Tables) (old : EntropyNow) (id second : List ℕ) (new : EntropyNow)
    : Type 0 where
  pub between : EntropyNow
  pub first_id : IsNewId t old id between
  pub second_id : IsSecondId t id between second new

-- these ids were drawn, in order; the random source isn't used for none
abbrev pub DrawsIds : Drawing → Tables → EntropyNow → Ids → EntropyNow → Type 0
DrawsIds NoId t old ids.None new = new ≡ old
DrawsIds OneId t old (ids.One id) new = IsNewId t old id new
DrawsIds TwoIds t old (ids.Two id second) new = AreTwoIds t old id second new
DrawsIds draws t old drawn new = ⊥

-- the random source is used, and failed
abbrev pub FailsToDraw : Drawing → EntropyNow → EntropyNow → Type 0
FailsToDraw NoId old new = ⊥
FailsToDraw draws old new = HasRisen old.faults new.faults

-- they are as many as are drawn
abbrev pub AreDrawn : Drawing → Ids → Type 0
AreDrawn NoId ids.None = Unit {0}
AreDrawn OneId (ids.One id) = Unit {0}
AreDrawn TwoIds (ids.Two id second) = Unit {0}
AreDrawn draws drawn = ⊥
