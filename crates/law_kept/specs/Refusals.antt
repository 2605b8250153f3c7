-- Which steps of a history are refused by the licences, and histories in which a note is lost.
use Rattle.std.specs.Prelude.{◌≡◌, ℕ, ◌+◌, List, [], ◌∷◌, true, if◌then◌else◌, Option}
use Rattle.item_text.specs.declared.item.Item.{Item}
use Rattle.law_kept.specs.Acts.{FileStep, FileHistory}
use Rattle.law_kept.specs.Fair.{StandsAsRead, AllObey, file_bytes}
use Rattle.law_kept.specs.Fates.{WasSaved, IsLost}
use Rattle.law_kept.specs.Gap.{NoOtherUploadBetween}
use Rattle.law_kept.specs.Honest.{is_honest_from}
use Rattle.law_licences.specs.Items.{is_note}
use Rattle.law_kept.specs.Licences.{may_act}
use Rattle.law_kept.specs.Standing.{World, opening_world, happened}

-- the places, counted from this one on, of steps which their clients may not take
unfoldable pub refused_from : (List ℕ → Option Item) → ℕ → World → List FileStep → List ℕ
refused_from reads place w [] = []
refused_from reads place w (s ∷ ss) =
    if may_act reads (w.at s.client).own s.act then refused_from reads (place + 1) (happened w s) ss
    else place ∷ refused_from reads (place + 1) (happened w s) ss

abbrev pub refused_places : (List ℕ → Option Item) → FileHistory → List ℕ
refused_places reads h = refused_from reads 0 (opening_world h.opening) h.steps

-- the note was saved, and is lost
pub record LosesNote (h : FileHistory) (item : Item) : Type 0 where
  pub note : is_note item ≡ true
  pub saved : (place : ℕ) × WasSaved h place item
  pub lost : IsLost h item

-- A note is lost, and but for one step, at this place, which its client may not take, the history is fair.
pub record IsLostByRefused (reads : List ℕ → Option Item) (h : FileHistory) (place : ℕ)
    (item : Item) : Type 0 where
  pub opening : StandsAsRead reads h.opening
  pub honest : is_honest_from (file_bytes h.opening) h.steps ≡ true
  pub gapless : NoOtherUploadBetween h.steps
  pub refused : refused_places reads h ≡ place ∷ []
  pub loses : LosesNote h item

-- a note is lost, and the history is fair but for the store, which doesn't tell the truth
pub record IsLostByLie (reads : List ℕ → Option Item) (h : FileHistory) (item : Item) : Type 0 where
  pub opening : StandsAsRead reads h.opening
  pub obey : AllObey reads h.steps
  pub gapless : NoOtherUploadBetween h.steps
  pub loses : LosesNote h item

-- a note is lost, and the history is fair, but another client's put lands between a check and the put that follows it
pub record IsLostByGap (reads : List ℕ → Option Item) (h : FileHistory) (item : Item) : Type 0 where
  pub opening : StandsAsRead reads h.opening
  pub honest : is_honest_from (file_bytes h.opening) h.steps ≡ true
  pub obey : AllObey reads h.steps
  pub loses : LosesNote h item
