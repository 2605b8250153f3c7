-- The history that is written out in the crate kept: what its second client's run tells.
use Rattle.std.specs.Prelude.{List, [], ◌∷◌, true, Some}
use Rattle.item_text.specs.Grammar.{written}
use Rattle.jop_base.specs.declared.path.Path.TheVariants.{Item as ItemFile}
use Rattle.jop_target.specs.declared.call.Call.TheVariants.{Get}
use Rattle.jop_target.specs.declared.event.Event.{Event}
use Rattle.jop_target.specs.declared.event.Event.TheVariants.{Began, Called, Made, Ended}
use Rattle.jop_target.specs.declared.reply.Reply.TheVariants.{Got}
use Rattle.local_store.specs.declared.change.Change.{Change}
use Rattle.local_store.specs.declared.change.Change.TheVariants.{Saved, Conflict}
use Rattle.local_store.specs.declared.content.Content.TheVariants.{Plain}
use Rattle.law_licences.specs.Stories.{it}
use Rattle.law_kept.specs.ToldStories.{first_text, second_text}

-- the second client's run: it saves its text, finds the first one's, and copies its own
abbrev pub a_trail : List Event
a_trail =
    Made 0
    ∷ Began
    ∷ Called (Get (ItemFile it)) (Got 0 (written first_text))
    ∷ Made 1
    ∷ Ended
    ∷ []

-- the changes of that run
abbrev pub a_list : List Change
a_list =
    Saved it second_text
    ∷ Conflict it (Some (written first_text, Plain first_text)) true
    ∷ []
