-- The texts of tags and of what stands between them (XML 1.0, 2.4, 3.1 and 4.1), as a multistatus may have them: with
-- any prefix, any attributes, blanks, and both forms of an empty element.
use Rattle.std.specs.Prelude.{◌≡◌, ℕ, suc, ◌≤◌, Bool, true, false, ◌||◌, ◌&&◌, ◌==◌, not, List, [], ◌∷◌, ◌++◌, length, codes, Option, Some, None, if◌then◌else◌}
use Rattle.std.specs.List.{list_all, list_any}
use Rattle.dav_listing.specs.Lexing.{is_name_byte, is_xml_blank}

-- how an element is written besides its local name: its prefix without the colon, what stands behind the name in its
-- start tag, and the blanks behind the name in its end tag
pub record Tag : Type 0 where
  pub prefix : List ℕ
  pub attributes : List ℕ
  pub space : List ℕ

-- whether `<`, `>` and `/` stand in quotes alone, and `<` nowhere, from inside this quote on or from outside
abbrev pub is_quoted_well : Option ℕ → List ℕ → Bool
is_quoted_well None [] = true
is_quoted_well (Some quote) [] = false
is_quoted_well None (b ∷ text) =
    if b == 34 then is_quoted_well (Some 34) text
    else if b == 39 then is_quoted_well (Some 39) text
    else not ((b == 62 || b == 47) || b == 60) && is_quoted_well None text
is_quoted_well (Some quote) (b ∷ text) =
    if b == quote then is_quoted_well None text
    else not (b == 60) && is_quoted_well (Some quote) text

-- whether a text may stand behind the name in a start tag: nothing, or a blank and attributes
abbrev pub are_attributes : List ℕ → Bool
are_attributes [] = true
are_attributes (b ∷ text) = is_xml_blank b && is_quoted_well None text

-- whether all are blanks
abbrev pub are_blank : List ℕ → Bool
are_blank text = list_all is_xml_blank text

pub record IsTag (tag : Tag) : Type 0 where
  pub prefix : list_all is_name_byte tag.prefix ≡ true
  pub short : length tag.prefix ≤ 64
  pub attributes : are_attributes tag.attributes ≡ true
  pub space : are_blank tag.space ≡ true

-- a local name has at least one byte, and at most 64
pub record IsLocalName (name : List ℕ) : Type 0 where
  pub bytes : list_all is_name_byte name ≡ true
  pub long : 1 ≤ length name
  pub short : length name ≤ 64

-- a name with its prefix
abbrev pub qualified : List ℕ → List ℕ → List ℕ
qualified [] name = name
qualified (b ∷ prefix) name = b ∷ prefix ++ 58 ∷ name

abbrev pub start_tag : Tag → List ℕ → List ℕ
start_tag tag name = 60 ∷ (qualified tag.prefix name ++ (tag.attributes ++ 62 ∷ []))

abbrev pub end_tag : Tag → List ℕ → List ℕ
end_tag tag name = 60 ∷ 47 ∷ (qualified tag.prefix name ++ (tag.space ++ 62 ∷ []))

abbrev pub empty_tag : Tag → List ℕ → List ℕ
empty_tag tag name = 60 ∷ (qualified tag.prefix name ++ (tag.attributes ++ 47 ∷ 62 ∷ []))

-- an element with what stands in it
abbrev pub element : Tag → List ℕ → List ℕ → List ℕ
element tag name content = start_tag tag name ++ (content ++ end_tag tag name)

-- ---- text

-- a byte of a text, as itself or as one of XML's entities
pub data Letter : Type 0 where
  plain : ℕ → Letter
  ampersand less greater quote apostrophe : Letter

abbrev pub letter_text : Letter → List ℕ
letter_text (plain b) = b ∷ []
letter_text ampersand = codes "&amp;"
letter_text less = codes "&lt;"
letter_text greater = codes "&gt;"
letter_text quote = codes "&quot;"
letter_text apostrophe = codes "&apos;"

abbrev pub letter_byte : Letter → ℕ
letter_byte (plain b) = b
letter_byte ampersand = 38
letter_byte less = 60
letter_byte greater = 62
letter_byte quote = 34
letter_byte apostrophe = 39

-- whether a byte may stand for itself
abbrev pub is_written_letter : Letter → Bool
is_written_letter (plain b) = not (b == 60 || b == 38)
is_written_letter letter = true

unfoldable pub letters_text : List Letter → List ℕ
letters_text [] = []
letters_text (letter ∷ letters) = letter_text letter ++ letters_text letters

unfoldable pub letters_bytes : List Letter → List ℕ
letters_bytes [] = []
letters_bytes (letter ∷ letters) = letter_byte letter ∷ letters_bytes letters

-- a text that says something
pub record AreLetters (letters : List Letter) : Type 0 where
  pub sound : list_all is_written_letter letters ≡ true
  pub short : length letters ≤ 2048

-- ---- what is passed over

-- a piece of what stands in an element that is passed over: a tag with its local name, a byte of text, or an entity
-- of whatever name
pub data Passed : Type 0 where
  starts ends stands : Tag → List ℕ → Passed
  says : ℕ → Passed
  calls : List ℕ → Passed

abbrev pub passed_text : Passed → List ℕ
passed_text (starts tag name) = start_tag tag name
passed_text (ends tag name) = end_tag tag name
passed_text (stands tag name) = empty_tag tag name
passed_text (says b) = b ∷ []
passed_text (calls name) = 38 ∷ (name ++ 59 ∷ [])

abbrev pub IsPassed : Passed → Type 0
IsPassed (starts tag name) = IsTag tag × IsLocalName name
IsPassed (ends tag name) = IsTag tag × IsLocalName name
IsPassed (stands tag name) = IsTag tag × IsLocalName name
IsPassed (says b) = (b == 60 || b == 38) ≡ false
IsPassed (calls name) =
    (list_any (λ b. b == 59 || b == 60) name ≡ false) × (length name ≤ 64)

-- these pieces end the elements that are open, so many of which are, and go at most 100 deep
abbrev pub PassOver : ℕ → List Passed → Type 0
PassOver depth [] = depth ≡ 0
PassOver depth (starts tag name ∷ pieces) =
    (1 ≤ depth) × (depth ≤ 99) × IsPassed (starts tag name) × PassOver (suc depth) pieces
PassOver depth (ends tag name ∷ pieces) =
    (before : ℕ) × (depth ≡ suc before) × IsPassed (ends tag name) × PassOver before pieces
PassOver depth (piece ∷ pieces) =
    (1 ≤ depth) × (depth ≤ 99) × IsPassed piece × PassOver depth pieces

unfoldable pub passed_texts : List Passed → List ℕ
passed_texts [] = []
passed_texts (piece ∷ pieces) = passed_text piece ++ passed_texts pieces
