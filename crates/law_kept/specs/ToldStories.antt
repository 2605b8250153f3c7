-- A history of a target that is written out, told with its changes: two clients change one note at once.
use Rattle.std.specs.Prelude.{ℕ, List, [], ◌∷◌, codes, true, Some, None}
use Rattle.item_text.specs.Grammar.{written}
use Rattle.item_text.specs.declared.item.Item.{Item}
use Rattle.jop_base.specs.declared.path.Path.TheVariants.{Item as ItemFile}
use Rattle.jop_target.specs.History.{Happening, Begins, Answered, Changed, Ends, Stopped}
use Rattle.jop_target.specs.declared.call.Call.TheVariants.{Get, Put}
use Rattle.jop_target.specs.declared.reply.Reply.TheVariants.{Got, Absent, Done}
use Rattle.local_store.specs.Tale.{Tale, TaleStep}
use Rattle.local_store.specs.declared.change.Change.{Change}
use Rattle.local_store.specs.declared.change.Change.TheVariants.{Saved, Conflict}
use Rattle.local_store.specs.declared.content.Content.TheVariants.{Plain}
use Rattle.law_licences.specs.Stories.{it}
use Rattle.law_kept.specs.Stories.{first_client, second_client}

abbrev pub a_text : List ℕ → Item
a_text title = record {
  title = Some title;
  body = [];
  props =
      record { key = codes "id"; value = it }
      ∷ record { key = codes "type_"; value = codes "1" }
      ∷ [];
}

abbrev pub first_text : Item
first_text = a_text (codes "first")

abbrev pub second_text : Item
second_text = a_text (codes "second")

-- something happens
abbrev pub tells : List ℕ → Happening → TaleStep
tells client happening =
    record { step = record { client = client; moment = 0; happens = happening }; change = None }

-- a client makes a change
abbrev pub tells_change : List ℕ → ℕ → Change → TaleStep
tells_change client number change = record {
  step = record { client = client; moment = 0; happens = Changed number };
  change = Some change;
}

-- The first client puts its text, and is stopped. The second one finds it, and copies its own.
abbrev pub a_told_conflict : Tale
a_told_conflict = record {
  opening = record { files = []; folders = [] };
  steps =
      tells_change first_client 0 (Saved it first_text)
      ∷ tells first_client Begins
      ∷ tells first_client (Answered (Get (ItemFile it)) (Absent 0) true)
      ∷ tells first_client (Answered (Put (ItemFile it) (written first_text)) (Done 0) true)
      ∷ tells first_client Stopped
      ∷ tells_change second_client 0 (Saved it second_text)
      ∷ tells second_client Begins
      ∷ tells second_client (Answered (Get (ItemFile it)) (Got 0 (written first_text)) true)
      ∷ tells_change second_client 1 (Conflict it (Some (written first_text, Plain first_text)) true)
      ∷ tells second_client Ends
      ∷ [];
}
