-- What a file holds that another client has written.
use Rattle.std.specs.Prelude.{ℕ, List, Option, option_map}
use Rattle.local_store.specs.declared.content.Content.{Content}
use Rattle.law_licences.specs.Items.{content_without_keys, item_of_file}

-- the item of this id that a file of these bytes is, as a client without keys has it
abbrev pub content_in_file : List ℕ → List ℕ → Option Content
content_in_file id bytes = option_map content_without_keys (item_of_file id bytes)
