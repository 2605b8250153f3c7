-- The texts that a server may write for a multistatus about two properties (RFC 4918, 14): any prefixes, attributes and
-- blanks, XML's entities, properties in any order, others beside them, and propstats of any status.
use Rattle.std.specs.Prelude.{◌≡◌, ℕ, ◌≤◌, Bool, true, false, ◌==◌, List, [], ◌∷◌, ◌++◌, length, codes, Option, Some, None}
use Rattle.std.specs.List.{list_any}
use Rattle.dav_listing.specs.Elements.{element_of}
use Rattle.dav_listing.specs.Lexing.{is_xml_blank}
use Rattle.dav_listing.specs.Members.{no_props, tell_twice, told_together}
use Rattle.dav_listing.specs.Multistatus.{date_moment, is_well}
use Rattle.dav_listing.specs.Places.{opening_of}
use Rattle.dav_listing.specs.Tags.{AreLetters, IsLocalName, IsTag, Letter, PassOver, Passed, Tag, are_blank, element, empty_tag, letters_bytes, letters_text, passed_texts, start_tag}
use Rattle.dav_listing.specs.declared.element.Element.{Element}
use Rattle.dav_listing.specs.declared.element.Element.TheVariants as elements
use Rattle.dav_listing.specs.declared.member.Member.{Member}
use Rattle.dav_listing.specs.declared.member.Props.{Props}
use Rattle.dav_listing.specs.declared.place.Place.TheVariants as places
use Rattle.dav_listing.specs.declared.place.Opening.TheVariants as openings

-- ---- an element that is passed over

-- empty, or with these pieces behind its start tag, of which the last is its end tag
pub record Aside : Type 0 where
  pub tag : Tag
  pub name : List ℕ
  pub pieces : Option (List Passed)

abbrev pub text_aside : Tag → List ℕ → Option (List Passed) → List ℕ
text_aside tag name None = empty_tag tag name
text_aside tag name (Some pieces) = start_tag tag name ++ passed_texts pieces

abbrev pub ArePassed : Option (List Passed) → Type 0
ArePassed None = Unit {0}
ArePassed (Some pieces) = PassOver 1 pieces

pub record IsAside (aside : Aside) : Type 0 where
  pub tag : IsTag aside.tag
  pub name : IsLocalName aside.name
  pub pieces : ArePassed aside.pieces

-- ---- properties

-- what stands in `resourcetype`: a blank, or a type
pub data TypePart : Type 0 where
  type_blank : ℕ → TypePart
  type_named : Aside → TypePart

abbrev pub type_text : TypePart → List ℕ
type_text (type_blank b) = b ∷ []
type_text (type_named a) = text_aside a.tag a.name a.pieces

unfoldable pub types_text : List TypePart → List ℕ
types_text [] = []
types_text (part ∷ parts) = type_text part ++ types_text parts

abbrev pub is_collection : Element → Bool
is_collection elements.Collection = true
is_collection element = false

abbrev pub names_collection : TypePart → Bool
names_collection (type_blank b) = false
names_collection (type_named a) = is_collection (element_of a.name)

abbrev pub IsTypePart : TypePart → Type 0
IsTypePart (type_blank b) = is_xml_blank b ≡ true
IsTypePart (type_named a) = IsAside a

abbrev pub AreTypeParts : List TypePart → Type 0
AreTypeParts [] = Unit {0}
AreTypeParts (part ∷ parts) = IsTypePart part × AreTypeParts parts

-- what stands in `prop`: the date with its text, or empty; the type, empty or with its parts; another property; a blank
pub data Property : Type 0 where
  dated : Tag → List Letter → Property
  undated : Tag → Property
  untyped : Tag → Property
  typed : Tag → List TypePart → Property
  another : Aside → Property
  prop_blank : ℕ → Property

abbrev pub property_text : Property → List ℕ
property_text (dated tag letters) = element tag (codes "getlastmodified") (letters_text letters)
property_text (undated tag) = empty_tag tag (codes "getlastmodified")
property_text (untyped tag) = empty_tag tag (codes "resourcetype")
property_text (typed tag parts) = element tag (codes "resourcetype") (types_text parts)
property_text (another a) = text_aside a.tag a.name a.pieces
property_text (prop_blank b) = b ∷ []

unfoldable pub properties_text : List Property → List ℕ
properties_text [] = []
properties_text (property ∷ properties) = property_text property ++ properties_text properties

-- what is said with one property more
abbrev pub said_with : Props → Property → Props
said_with found (dated tag letters) = record found { stamp = date_moment (letters_bytes letters) }
said_with found (undated tag) = record found { stamp = date_moment [] }
said_with found (untyped tag) = record found { folder = Some false }
said_with found (typed tag parts) =
    record found { folder = Some (list_any names_collection parts) }
said_with found property = found

-- neither the date nor the type is said twice
abbrev pub IsProperty : Props → Property → Type 0
IsProperty found (dated tag letters) = (found.stamp ≡ None) × IsTag tag × AreLetters letters
IsProperty found (undated tag) = (found.stamp ≡ None) × IsTag tag
IsProperty found (untyped tag) = (found.folder ≡ None) × IsTag tag
IsProperty found (typed tag parts) = (found.folder ≡ None) × IsTag tag × AreTypeParts parts
IsProperty found (another a) =
    (opening_of places.Prop (element_of a.name) ≡ openings.Pass) × IsAside a
IsProperty found (prop_blank b) = is_xml_blank b ≡ true

abbrev pub ArePropertiesOf : Props → List Property → Props → Type 0
ArePropertiesOf found [] props = props ≡ found
ArePropertiesOf found (property ∷ properties) props =
    IsProperty found property × ArePropertiesOf (said_with found property) properties props

-- ---- propstats

-- a propstat, with the blanks before it, before each of its two elements, and behind them
pub record Propstat : Type 0 where
  pub before : List ℕ
  pub tag : Tag
  pub lead : List ℕ
  pub prop_tag : Tag
  pub properties : List Property
  pub gap : List ℕ
  pub status_tag : Tag
  pub status : List Letter
  pub tail : List ℕ

abbrev pub propstat_text : Propstat → List ℕ
propstat_text p =
    p.before ++ element p.tag (codes "propstat")
    (p.lead ++ (element p.prop_tag (codes "prop") (properties_text p.properties)
    ++ (p.gap ++ (element p.status_tag (codes "status") (letters_text p.status) ++ p.tail))))

unfoldable pub propstats_text : List Propstat → List ℕ
propstats_text [] = []
propstats_text (p ∷ ps) = propstat_text p ++ propstats_text ps

-- the propstat says this
pub record IsPropstat (p : Propstat) (found : Props) : Type 0 where
  pub before : are_blank p.before ≡ true
  pub tag : IsTag p.tag
  pub lead : are_blank p.lead ≡ true
  pub prop_tag : IsTag p.prop_tag
  pub properties : ArePropertiesOf no_props p.properties found
  pub gap : are_blank p.gap ≡ true
  pub status_tag : IsTag p.status_tag
  pub status : AreLetters p.status
  pub tail : are_blank p.tail ≡ true

-- what is said with one propstat more: it counts if its status is 200
abbrev pub counted_with : Bool → Props → Props → Props
counted_with true props found = told_together props found
counted_with false props found = props

-- the propstats say this, and none that counts says again what was said
abbrev pub ArePropstatsOf : Props → List Propstat → Props → Type 0
ArePropstatsOf props [] all = all ≡ props
ArePropstatsOf props (p ∷ ps) all =
    (found : Props) × IsPropstat p found
    × (is_well (letters_bytes p.status) ≡ true → tell_twice props found ≡ false)
    × ArePropstatsOf (counted_with (is_well (letters_bytes p.status)) props found) ps all

-- ---- responses

-- a response, with the blanks before it, before its href, and at its end
pub record Response : Type 0 where
  pub before : List ℕ
  pub tag : Tag
  pub lead : List ℕ
  pub href_tag : Tag
  pub href : List Letter
  pub propstats : List Propstat
  pub tail : List ℕ

abbrev pub shown_response : Response → List ℕ
shown_response r =
    r.before ++ element r.tag (codes "response")
    (r.lead ++ (element r.href_tag (codes "href") (letters_text r.href)
    ++ (propstats_text r.propstats ++ r.tail)))

unfoldable pub responses_text : List Response → List ℕ
responses_text [] = []
responses_text (r ∷ rs) = shown_response r ++ responses_text rs

-- the response shows this resource
pub record IsWrittenResponse (r : Response) (member : Member) : Type 0 where
  pub before : are_blank r.before ≡ true
  pub tag : IsTag r.tag
  pub lead : are_blank r.lead ≡ true
  pub href_tag : IsTag r.href_tag
  pub href : AreLetters r.href
  pub some : 1 ≤ length r.propstats
  pub propstats : ArePropstatsOf no_props r.propstats member.props
  pub tail : are_blank r.tail ≡ true
  pub named : member.href ≡ letters_bytes r.href

abbrev pub AreWrittenResponses : List Response → List Member → Type 0
AreWrittenResponses [] members = members ≡ []
AreWrittenResponses (r ∷ rs) members =
    (member : Member) × (rest : List Member) × (members ≡ member ∷ rest)
    × IsWrittenResponse r member × AreWrittenResponses rs rest

-- ---- the whole

-- the declaration of XML, if there is one, without its marks; the blanks behind it and at the end of all
pub record Document : Type 0 where
  pub declaration : Option (List ℕ)
  pub lead : List ℕ
  pub tag : Tag
  pub responses : List Response
  pub tail : List ℕ
  pub end : List ℕ

abbrev pub declaration_text : Option (List ℕ) → List ℕ
declaration_text None = []
declaration_text (Some text) = 60 ∷ 63 ∷ (text ++ 63 ∷ 62 ∷ [])

abbrev pub IsDeclaration : Option (List ℕ) → Type 0
IsDeclaration None = Unit {0}
IsDeclaration (Some text) = list_any (λ b. b == 63) text ≡ false

abbrev pub document_text : Document → List ℕ
document_text d =
    declaration_text d.declaration ++ (d.lead
    ++ (element d.tag (codes "multistatus") (responses_text d.responses ++ d.tail) ++ d.end))

-- the text shows these resources
pub record IsWritten (members : List Member) (text : List ℕ) : Type 0 where
  pub document : Document
  pub declaration : IsDeclaration document.declaration
  pub lead : are_blank document.lead ≡ true
  pub tag : IsTag document.tag
  pub responses : AreWrittenResponses document.responses members
  pub tail : are_blank document.tail ≡ true
  pub end : are_blank document.end ≡ true
  pub text_is : text ≡ document_text document
