-- How the bytes of a multistatus are cut into tags, entities and text (XML 1.0, 2 to 4). Each `<` begins a tag, also
-- one that stands in quotes, so no tag can hide in a value. Comments, CDATA and a document type are not understood.
use Rattle.std.specs.Prelude.{ℕ, Bool, ◌||◌, ◌&&◌, ◌==◌, nat_le, if◌then◌else◌}
use Rattle.dav_listing.specs.declared.mode.Mode.{Mode}
use Rattle.dav_listing.specs.declared.mode.Mode.TheVariants.{Text, Entity, Tag, OpenName, OpenLocal, Inside, DoubleQuoted, SingleQuoted, Slash, CloseName, CloseLocal, CloseEnd, Prolog, PrologEnd, Lost}
use Rattle.dav_listing.specs.declared.mode.Effect.{Effect}
use Rattle.dav_listing.specs.declared.mode.Effect.TheVariants as effects

-- space, tab, line feed and carriage return (XML 1.0, 2.3)
abbrev pub is_xml_blank : ℕ → Bool
is_xml_blank b = ((b == 32 || b == 9) || b == 10) || b == 13

-- a byte of a name: a letter, a digit, `_`, `-`, `.`, or one outside ASCII. The colon parts a prefix from a local name
abbrev pub is_name_byte : ℕ → Bool
is_name_byte b =
    ((((((nat_le 97 b && nat_le b 122)
    || (nat_le 65 b && nat_le b 90))
    || (nat_le 48 b && nat_le b 57))
    || b == 95) || b == 45) || b == 46) || nat_le 128 b

-- a byte behind the first of a start tag's name
abbrev pub in_start_name : Mode → ℕ → Effect
in_start_name mode b =
    if b == 62 then effects.Open
    else if b == 47 then effects.Go Slash
    else if is_xml_blank b then effects.Go Inside
    else if is_name_byte b then effects.Add mode else effects.Go Lost

-- a byte of an end tag's name
abbrev pub in_end_name : Mode → ℕ → Effect
in_end_name mode b =
    if b == 62 then effects.Close
    else if is_xml_blank b then effects.Go CloseEnd
    else if is_name_byte b then effects.Add mode else effects.Go Lost

-- a byte among a start tag's attributes
abbrev pub in_attributes : ℕ → Effect
in_attributes b =
    if b == 62 then effects.Open
    else if b == 47 then effects.Go Slash
    else if b == 34 then effects.Go DoubleQuoted
    else if b == 39 then effects.Go SingleQuoted
    else if b == 60 then effects.Go Lost else effects.Go Inside

-- a byte in a value between quotes
abbrev pub in_quotes : ℕ → Mode → ℕ → Effect
in_quotes quote mode b =
    if b == quote then effects.Go Inside
    else if b == 60 then effects.Go Lost else effects.Go mode

-- a byte between two tags
abbrev pub between_tags : ℕ → Effect
between_tags b =
    if b == 60 then effects.Begin Tag else if b == 38 then effects.Begin Entity else effects.Text

-- a byte of an entity's name
abbrev pub in_entity : ℕ → Effect
in_entity b =
    if b == 59 then effects.Entity else if b == 60 then effects.Go Lost else effects.Add Entity

-- the first byte of a tag
abbrev pub first_in_tag : ℕ → Effect
first_in_tag b =
    if b == 47 then effects.Go CloseName
    else if b == 63 then effects.Go Prolog
    else if is_name_byte b then effects.Add OpenName else effects.Go Lost

-- a byte behind an end tag's name
abbrev pub behind_end_name : ℕ → Effect
behind_end_name b =
    if b == 62 then effects.Close
    else if is_xml_blank b then effects.Go CloseEnd else effects.Go Lost

-- what a byte does where it stands
abbrev pub effect_of : Mode → ℕ → Effect
effect_of Text b = between_tags b
effect_of Entity b = in_entity b
effect_of Tag b = first_in_tag b
effect_of OpenName b = if b == 58 then effects.Begin OpenLocal else in_start_name OpenName b
effect_of OpenLocal b = in_start_name OpenLocal b
effect_of Inside b = in_attributes b
effect_of DoubleQuoted b = in_quotes 34 DoubleQuoted b
effect_of SingleQuoted b = in_quotes 39 SingleQuoted b
effect_of Slash b = if b == 62 then effects.Empty else effects.Go Lost
effect_of CloseName b = if b == 58 then effects.Begin CloseLocal else in_end_name CloseName b
effect_of CloseLocal b = in_end_name CloseLocal b
effect_of CloseEnd b = behind_end_name b
effect_of Prolog b = if b == 63 then effects.Go PrologEnd else effects.Go Prolog
effect_of PrologEnd b =
    if b == 62 then effects.Prolog
    else if b == 63 then effects.Go PrologEnd else effects.Go Prolog
effect_of Lost b = effects.Go Lost
