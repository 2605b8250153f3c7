-- Which texts become conflict notes when something else takes their place.
use Rattle.std.specs.Prelude.{ℕ, List, [], Bool, false, ◌&&◌, not, bytes_eq, unwrap_or, Option, Some, None}
use Rattle.item_text.specs.declared.item.Item.{Item}
use Rattle.local_store.specs.declared.content.Content.{Content}
use Rattle.local_store.specs.declared.content.Content.TheVariants.{Plain, Sealed}
use Rattle.law_licences.specs.Items.{is_note, is_plain_note}

-- the title; one that is absent equals an empty one
abbrev pub title_or_empty : Item → List ℕ
title_or_empty item = unwrap_or item.title []

-- the same title and body
abbrev pub is_alike : Item → Item → Bool
is_alike item other = bytes_eq (title_or_empty item) (title_or_empty other) && bytes_eq item.body other.body

-- a readable note that says the same
abbrev pub is_same_note : Item → Content → Bool
is_same_note item (Sealed other) = false
is_same_note item (Plain other) = is_note other && is_alike item other

-- a readable note whose text is lost if this takes its place
abbrev pub must_copy : Content → Content → Bool
must_copy (Sealed item) remote = false
must_copy (Plain item) remote = is_note item && not (is_same_note item remote)

-- the same of a row whose file may be gone
abbrev pub copies_for : Content → Option (List ℕ × Content) → Bool
copies_for row None = is_plain_note row
copies_for row (Some remote) = must_copy row remote.1
