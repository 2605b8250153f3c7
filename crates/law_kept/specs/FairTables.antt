-- The premises of the law on kept notes, over the tables of all clients.
use Rattle.std.specs.Prelude.{◌≡◌, ℕ, List}
use Rattle.jop_base.specs.Id.{IsIdText}
use Rattle.jop_target.specs.History.{IsHonest}
use Rattle.local_store.specs.Tables.{new_tables}
use Rattle.local_store.specs.Tale.{Tale, plain}
use Rattle.law_licences.specs.Deeds.{deeds_in}
use Rattle.law_licences.specs.Licences.{ObeysBySome, ObeysData}
use Rattle.law_licences.specs.Sealing.{no_keys}
use Rattle.law_licences.specs.Views.{View, at_rest, view_from}
use Rattle.law_kept.specs.Fates.{IsKept}
use Rattle.law_kept.specs.Gap.{NoOtherUploadBetween}
use Rattle.law_kept.specs.Known.{known}
use Rattle.law_kept.specs.Own.{acts_by, new_own, own_from}
use Rattle.law_kept.specs.Telling.{history_of, steps_of}

-- a client that has nothing yet
abbrev pub new_view : View
new_view = at_rest no_keys new_tables

-- all that the client did by then has its licences, each session with some keys
abbrev pub ClientObeys : Tale → List ℕ → Type 0
ClientObeys tale client = ObeysBySome new_view (deeds_in client tale.steps)

-- what one has seen of the client in the end
abbrev pub view_at_end : Tale → List ℕ → View
view_at_end tale client = view_from new_view (deeds_in client tale.steps)

abbrev pub AllObeyData : Tale → Type 0
AllObeyData tale = (client : List ℕ) → ClientObeys tale client

-- and no session of any client had keys, so that nothing was sealed or opened
abbrev pub AllObeyWithoutKeys : Tale → Type 0
AllObeyWithoutKeys tale = (client : List ℕ) → ObeysData new_view (deeds_in client tale.steps)

-- the store tells the truth, and no other client's put of the item lands between a check and the
-- put that follows it
pub record IsServed (id : List ℕ) (tale : Tale) : Type 0 where
  pub honest : IsHonest (plain tale)
  pub text : IsIdText id
  pub gapless : NoOtherUploadBetween (steps_of id tale)

-- no saved note of this id is lost
abbrev pub KeepsItem : List ℕ → Tale → Type 0
KeepsItem id tale = IsKept (history_of id tale)

-- what one has seen of a client that obeys says of each item what the client knows of it
abbrev pub IsKnownAsSeen : Type 0
IsKnownAsSeen =
    (id client : List ℕ) (tale : Tale) → ClientObeys tale client →
    known id (view_at_end tale client) ≡ own_from new_own (acts_by client (steps_of id tale))
