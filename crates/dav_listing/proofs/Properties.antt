-- The properties of a propstat are read as what they say.
use Rattle.std.proofs.Common.{◌≡◌, ◌∙◌, refl, sym, ap, arith, ℕ, List, [], ◌∷◌, ◌++◌, Bool, true, false, Option, Some, None}
use Rattle.std.specs.Prelude.{◌||◌, codes, is_some, if◌then◌else◌}
use Rattle.std.specs.List.{list_any}
use Rattle.dav_listing.specs.Elements.{element_of}
use Rattle.dav_listing.specs.Grammar.{ArePropertiesOf, AreTypeParts, Aside, IsAside, IsProperty, Property, TypePart, another, dated, is_collection, names_collection, prop_blank, properties_text, property_text, said_with, text_aside, type_blank, type_named, typed, types_text, undated, untyped}
use Rattle.dav_listing.specs.Multistatus.{begun_as, date_moment, done_with, reached, unmarked, with_kind, wrong_if}
use Rattle.dav_listing.specs.Places.{opening_of}
use Rattle.dav_listing.specs.Tags.{AreLetters, IsLocalName, IsTag, Letter, Tag, element, empty_tag, end_tag, letters_bytes, letters_text, start_tag}
use Rattle.dav_listing.specs.declared.element.Element.{Element}
use Rattle.dav_listing.specs.declared.element.Element.TheVariants as elements
use Rattle.dav_listing.specs.declared.member.Member.{Member}
use Rattle.dav_listing.specs.declared.member.Props.{Props}
use Rattle.dav_listing.specs.declared.place.Place.TheVariants as places
use Rattle.dav_listing.specs.declared.place.Opening.TheVariants as openings
use Rattle.dav_listing.proofs.TagReading.{at_tag, empty_reads, end_reads, start_reads}
use Rattle.dav_listing.proofs.TreeReading.{Known, Leads, aside_leads, inside, knowing, leads_nowhere, leads_on, letters_lead, one_blank, with_known}

modified_is_local : IsLocalName (codes "getlastmodified")
modified_is_local = record { bytes = refl; long = omega arith; short = omega arith }

kind_is_local : IsLocalName (codes "resourcetype")
kind_is_local = record { bytes = refl; long = omega arith; short = omega arith }

kind_opening : (e : Element)
    → opening_of places.Kind e ≡ (if is_collection e then openings.Collection else openings.Pass)
kind_opening elements.Collection = refl
kind_opening e = refl

or_true : (b : Bool) → (b || true) ≡ true
or_true true = refl
or_true false = refl

or_false : (b : Bool) → (b || false) ≡ b
or_false true = refl
or_false false = refl

or_again : (a b c : Bool) → ((a || b) || c) ≡ (a || (b || c))
or_again true b c = refl
or_again false b c = refl

module _ (members : List Member) (href : Option (List ℕ)) (props : Props) (told : Bool) where
  -- within `prop`, with this said
  abbrev in_prop : Props → Known
  in_prop found = inside places.Prop [] href props told found None

  -- within `resourcetype`
  abbrev in_kind : Props → Bool → Known
  in_kind found folder =
      inside places.Kind [] href props told (record found { folder = Some folder }) None

  date_said : (found : Props) (tag : Tag) (letters : List Letter) → found.stamp ≡ None → IsTag tag
      → AreLetters letters
      → Leads members (in_prop found)
      (element tag (codes "getlastmodified") (letters_text letters))
      (in_prop (record found { stamp = date_moment (letters_bytes letters) }))
  date_said found tag letters none t l =
      let name = codes "getlastmodified" in
      let open_at = inside places.Modified [] href props told found None in
      let full = inside places.Modified (letters_bytes letters) href props told found None in
      let later = record found { stamp = date_moment (letters_bytes letters) } in
      leads_on members (in_prop found) open_at (in_prop later) (start_tag tag name)
      (letters_text letters ++ end_tag tag name)
      (start_reads (with_known members (in_prop found)) tag name t modified_is_local refl)
      (leads_on members open_at full (in_prop later) (letters_text letters) (end_tag tag name)
      (letters_lead members open_at letters refl refl l)
      (end_reads (with_known members full) tag name t modified_is_local refl
      ∙ ap (λ (b : Bool). reached (with_known members full) (unmarked
      (record (wrong_if b (at_tag (knowing full) name)) {
        found = later;
        text = [];
        place = places.Prop;
      }))) (ap is_some none)))

  no_date_said : (found : Props) (tag : Tag) → found.stamp ≡ None → IsTag tag
      → Leads members (in_prop found) (empty_tag tag (codes "getlastmodified"))
      (in_prop (record found { stamp = date_moment [] }))
  no_date_said found tag none t =
      let name = codes "getlastmodified" in
      let open_at = inside places.Modified [] href props told found None in
      empty_reads (with_known members (in_prop found)) tag name t modified_is_local refl
      ∙ ap (λ (b : Bool). reached (with_known members (in_prop found)) (unmarked
      (record (wrong_if b (at_tag (knowing open_at) name)) {
        found = record found { stamp = date_moment [] };
        text = [];
        place = places.Prop;
      }))) (ap is_some none)

  no_type_said : (found : Props) (tag : Tag) → found.folder ≡ None → IsTag tag
      → Leads members (in_prop found) (empty_tag tag (codes "resourcetype"))
      (in_prop (record found { folder = Some false }))
  no_type_said found tag none t =
      let name = codes "resourcetype" in
      empty_reads (with_known members (in_prop found)) tag name t kind_is_local refl
      ∙ ap (λ (b : Bool). reached (with_known members (in_prop found)) (unmarked (done_with
      (record (with_kind false (wrong_if b (at_tag (knowing (in_prop found)) name))) {
        text = [];
        place = places.Kind;
      })))) (ap is_some none)

  type_begins : (found : Props) (tag : Tag) → found.folder ≡ None → IsTag tag
      → Leads members (in_prop found) (start_tag tag (codes "resourcetype")) (in_kind found false)
  type_begins found tag none t =
      let name = codes "resourcetype" in
      start_reads (with_known members (in_prop found)) tag name t kind_is_local refl
      ∙ ap (λ (b : Bool). reached (with_known members (in_prop found)) (unmarked
      (record (with_kind false (wrong_if b (at_tag (knowing (in_prop found)) name))) {
        text = [];
        place = places.Kind;
      }))) (ap is_some none)

  type_ends : (found : Props) (tag : Tag) (folder : Bool) → IsTag tag
      → Leads members (in_kind found folder) (end_tag tag (codes "resourcetype"))
      (in_prop (record found { folder = Some folder }))
  type_ends found tag folder t =
      end_reads (with_known members (in_kind found folder)) tag (codes "resourcetype") t kind_is_local
      refl

  one_type : (found : Props) (folder : Bool) (a : Aside) (b : Bool) → IsAside a
      → is_collection (element_of a.name) ≡ b
      → Leads members (in_kind found folder) (text_aside a.tag a.name a.pieces)
      (in_kind found (folder || b))
  one_type found folder a true sound is =
      let r = at_tag (knowing (in_kind found folder)) a.name in
      aside_leads members (in_kind found folder) (in_kind found true) a.tag a.name a.pieces sound.tag
      sound.name sound.pieces
      (ap (begun_as r) (kind_opening (element_of a.name)
      ∙ ap (λ (c : Bool). if c then openings.Collection else openings.Pass) is))
      ∙ ap (λ (c : Bool). with_known members (in_kind found c)) (sym (or_true folder))
  one_type found folder a false sound is =
      let r = at_tag (knowing (in_kind found folder)) a.name in
      aside_leads members (in_kind found folder) (in_kind found folder) a.tag a.name a.pieces sound.tag
      sound.name sound.pieces
      (ap (begun_as r) (kind_opening (element_of a.name)
      ∙ ap (λ (c : Bool). if c then openings.Collection else openings.Pass) is))
      ∙ ap (λ (c : Bool). with_known members (in_kind found c)) (sym (or_false folder))

  types_said : (found : Props) (folder : Bool) (parts : List TypePart) → AreTypeParts parts
      → Leads members (in_kind found folder) (types_text parts)
      (in_kind found (folder || list_any names_collection parts))
  unfolding types_text
  types_said found folder [] sound =
      leads_nowhere members (in_kind found folder)
      ∙ ap (λ (c : Bool). with_known members (in_kind found c)) (sym (or_false folder))
  types_said found folder (type_blank b ∷ parts) sound =
      leads_on members (in_kind found folder) (in_kind found folder)
      (in_kind found (folder || list_any names_collection parts)) (b ∷ []) (types_text parts)
      (one_blank members (in_kind found folder) b refl sound.0)
      (types_said found folder parts sound.1)
  types_said found folder (type_named a ∷ parts) sound =
      let here = is_collection (element_of a.name) in
      leads_on members (in_kind found folder) (in_kind found (folder || here))
      (in_kind found ((folder || here) || list_any names_collection parts))
      (text_aside a.tag a.name a.pieces) (types_text parts)
      (one_type found folder a here sound.0 refl) (types_said found (folder || here) parts sound.1)
      ∙ ap (λ (c : Bool). with_known members (in_kind found c))
      (or_again folder here (list_any names_collection parts))

  property_said : (found : Props) (property : Property) → IsProperty found property
      → Leads members (in_prop found) (property_text property) (in_prop (said_with found property))
  property_said found (dated tag letters) sound = date_said found tag letters sound.0 sound.1 sound.2
  property_said found (undated tag) sound = no_date_said found tag sound.0 sound.1
  property_said found (untyped tag) sound = no_type_said found tag sound.0 sound.1
  property_said found (typed tag parts) sound =
      let name = codes "resourcetype" in
      let folder = list_any names_collection parts in
      let later = in_prop (record found { folder = Some folder }) in
      leads_on members (in_prop found) (in_kind found false) later (start_tag tag name)
      (types_text parts ++ end_tag tag name) (type_begins found tag sound.0 sound.1)
      (leads_on members (in_kind found false) (in_kind found folder) later (types_text parts)
      (end_tag tag name) (types_said found false parts sound.2)
      (type_ends found tag folder sound.1))
  property_said found (another a) sound =
      aside_leads members (in_prop found) (in_prop found) a.tag a.name a.pieces sound.1.tag sound.1.name
      sound.1.pieces (ap (begun_as (at_tag (knowing (in_prop found)) a.name)) sound.0)
  property_said found (prop_blank b) sound = one_blank members (in_prop found) b refl sound

  pub properties_said : (found : Props) (properties : List Property) (all : Props)
      → ArePropertiesOf found properties all
      → Leads members (inside places.Prop [] href props told found None)
      (properties_text properties) (inside places.Prop [] href props told all None)
  unfolding properties_text
  properties_said found [] all is =
      leads_nowhere members (in_prop found)
      ∙ ap (λ (p : Props). with_known members (in_prop p)) (sym is)
  properties_said found (property ∷ properties) all (sound, rest) =
      leads_on members (in_prop found) (in_prop (said_with found property)) (in_prop all)
      (property_text property) (properties_text properties) (property_said found property sound)
      (properties_said (said_with found property) properties all rest)
