-- The items that this client makes.
use Rattle.std.specs.Prelude.{◌≡◌, ℕ, false, List, [], Option, Some, None, codes, unwrap_or}
use Rattle.std.specs.Fmt.{decimal}
use Rattle.item_text.specs.declared.item.Item.{Item}
use Rattle.item_text.specs.Lines.{has, trimmed}
use Rattle.item_text.specs.Escape.{escaped}
use Rattle.item_kinds.specs.Slots.{given, filled, note_slots, folder_slots, note_tag_slots, resource_slots}
use Rattle.item_kinds.specs.Times.{time_text}

-- a text without a line feed or a carriage return
pub record IsLine (text : List ℕ) : Type 0 where
  pub no_feed : has 10 text ≡ false
  pub no_return : has 13 text ≡ false

-- a new note
abbrev pub note : List ℕ → List ℕ → List ℕ → List ℕ → ℕ → Item
note id parent title body now = record {
  title = Some title;
  body = body;
  props = filled note_slots (record (given id (time_text now)) { parent = parent });
}

-- a new folder, which has no parent at the top
abbrev pub folder : List ℕ → Option (List ℕ) → List ℕ → ℕ → Item
folder id parent title now = record {
  title = Some title;
  body = [];
  props = filled (folder_slots (codes "2"))
      (record (given id (time_text now)) { parent = unwrap_or parent [] });
}

-- a new tag
abbrev pub tag : List ℕ → List ℕ → ℕ → Item
tag id title now = record {
  title = Some title;
  body = [];
  props = filled (folder_slots (codes "5")) (given id (time_text now));
}

-- a new tag on a note, which has no title
abbrev pub note_tag : List ℕ → List ℕ → List ℕ → ℕ → Item
note_tag id note tag now = record {
  title = None;
  body = [];
  props = filled note_tag_slots (record (given id (time_text now)) { note = note; tag = tag });
}

-- a new resource of that many bytes, whose title is its name
abbrev pub resource : List ℕ → List ℕ → List ℕ → ℕ → ℕ → Item
resource id name mime len now = record {
  title = Some name;
  body = [];
  props = filled resource_slots (record (given id (time_text now)) {
    mime = escaped mime;
    file = escaped (trimmed name);
    size = decimal len;
  });
}
