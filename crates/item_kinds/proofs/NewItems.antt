-- The items that are made: valid, and of their kind and id.
use Rattle.std.proofs.Common.{◌≡◌, ℕ, ◌≤◌, ◌<◌, ◌^◌, Bool, true, false, not, List, [], ◌∷◌, Option, Some, None, refl, sym, ap, ◌∙◌, subst, arith, inl, inr}
use Rattle.std.specs.Prelude.{◌&&◌, codes, nat_le, option_and_then, MatchOption, IfSome, IfNone}
use Rattle.std.specs.Fmt.{decimal}
use Rattle.std.specs.List.{list_all, AllByRecursion}
use Rattle.std.proofs.lemmas.Bool.{and_parts, not-true, cases_Bool, cond-false}
use Rattle.std.proofs.lemmas.Bool.Decides.{nat_tests}
use Rattle.std.proofs.lemmas.List.Elements.{recursion_from_All}
use Rattle.std.proofs.lemmas.Fmt.{decimal_is_IsNumeral}
use Rattle.std.proofs.lemmas.Str.Parse.{digit_from_value}
use Rattle.std.specs.Str.Parse.{AllDigits}
use Rattle.jop_base.specs.Id.{IsIdText, is_digit}
use Rattle.item_text.specs.declared.item.Item.{Item}
use Rattle.item_text.specs.declared.item.Prop.{Prop}
use Rattle.item_text.specs.Lines.{has}
use Rattle.item_text.specs.Props.{type_key, value_of}
use Rattle.item_text.specs.Valid.{is_type_value, HasType, IsField, IsProp, IsItem}
use Rattle.item_kinds.specs.Times.{time_text}
use Rattle.item_kinds.specs.Kinds.{type_number}
use Rattle.item_kinds.specs.Slots as slot
use Rattle.item_kinds.specs.Slots.{Given, given, Slot, text_in, pair, filled, note_slots, folder_slots, note_tag_slots, resource_slots}
use Rattle.item_kinds.proofs.Visible.{AreVisible, visible_field, time_visible}

-- ---- fields

-- whether each byte is a visible ASCII letter
abbrev is_plain : List ℕ → Bool
is_plain text = list_all (λ b. nat_le 33 b && nat_le b 126) text

plain_visible : (text : List ℕ) → is_plain text ≡ true → AreVisible text
plain_visible [] h = tt
plain_visible (b ∷ bs) h =
    let parts = and_parts (nat_le 33 b && nat_le b 126) (is_plain bs) h in
    let both = and_parts (nat_le 33 b) (nat_le b 126) parts.0 in
    let low = both.0 in
    let high = both.1 in
    ((grind (arith, nat_tests), grind (arith, nat_tests)), plain_visible bs parts.1)

plain : (text : List ℕ) → is_plain text ≡ true → IsField text
plain text h = visible_field text (plain_visible text h)

digits_visible : (text : List ℕ) → AllByRecursion (λ d. is_digit d ≡ true) text → AreVisible text
digits_visible [] h = tt
digits_visible (b ∷ bs) h = let digit = h.0 in
    ((grind (arith, nat_tests), grind (arith, nat_tests)), digits_visible bs h.1)

-- an id, a time and a number in digits
pub id_field : (text id : List ℕ) → text ≡ id → IsIdText id → IsField text
id_field text id e h = let P : List ℕ → Type 0 = λ t. IsField t in
    subst P (sym e) (visible_field id (digits_visible id (recursion_from_All _ id h.digits)))

pub time_field : (text stamp : List ℕ) (t : ℕ) → text ≡ stamp → stamp ≡ time_text t
    → t ≤ 253_402_300_799_999 → IsField text
time_field text stamp t e same fits = let P : List ℕ → Type 0 = λ t. IsField t in
    subst P (sym (e ∙ same)) (visible_field (time_text t) (time_visible t fits))

numeral_visible : (text : List ℕ) → AllDigits 10 text → AreVisible text
numeral_visible [] h = tt
numeral_visible (b ∷ bs) h = let range = digit_from_value b h.0 in
    ((omega (arith, range.0), omega (arith, range.1)), numeral_visible bs h.1)

pub number_field : (text digits : List ℕ) (n : ℕ) → text ≡ digits → digits ≡ decimal n → n < 2 ^ 64
    → IsField text
number_field text digits n e same fits = let P : List ℕ → Type 0 = λ t. IsField t in
    subst P (sym (e ∙ same))
    (visible_field (decimal n) (numeral_visible (decimal n) (decimal_is_IsNumeral n fits).0.1))

pub same_field : (text value : List ℕ) → text ≡ value → IsField value → IsField text
same_field text value e h = let P : List ℕ → Type 0 = λ t. IsField t in subst P (sym e) h

pub empty_field : IsField []
empty_field = plain [] refl

-- ---- the pairs of a table

-- the texts that an item is given are fields
pub record AreFields (g : Given) : Type 0 where
  pub id : IsField g.id
  pub stamp : IsField g.stamp
  pub parent : IsField g.parent
  pub note : IsField g.note
  pub tag : IsField g.tag
  pub mime : IsField g.mime
  pub file : IsField g.file
  pub size : IsField g.size

pub given_fields : (id stamp : List ℕ) → IsField id → IsField stamp → AreFields (given id stamp)
given_fields id stamp i s = record {
  id = i;
  stamp = s;
  parent = empty_field;
  note = empty_field;
  tag = empty_field;
  mime = empty_field;
  file = empty_field;
  size = empty_field;
}

pub with_parent : (g : Given) (parent : List ℕ) → AreFields g → IsField parent
    → AreFields (record g { parent = parent })
with_parent g parent h p = record {
  id = h.id;
  stamp = h.stamp;
  parent = p;
  note = h.note;
  tag = h.tag;
  mime = h.mime;
  file = h.file;
  size = h.size;
}

pub with_link : (g : Given) (note tag : List ℕ) → AreFields g → IsField note → IsField tag
    → AreFields (record g { note = note; tag = tag })
with_link g note tag h n t = record {
  id = h.id;
  stamp = h.stamp;
  parent = h.parent;
  note = n;
  tag = t;
  mime = h.mime;
  file = h.file;
  size = h.size;
}

pub with_file : (g : Given) (mime file size : List ℕ) → AreFields g → IsField mime → IsField file
    → IsField size
    → AreFields (record g { mime = mime; file = file; size = size })
with_file g mime file size h m f z = record {
  id = h.id;
  stamp = h.stamp;
  parent = h.parent;
  note = h.note;
  tag = h.tag;
  mime = m;
  file = f;
  size = z;
}

abbrev is_plain_slot : Slot → Bool
is_plain_slot (slot.fixed text) = is_plain text
is_plain_slot slot.id = true
is_plain_slot slot.stamp = true
is_plain_slot slot.parent = true
is_plain_slot slot.note = true
is_plain_slot slot.tag = true
is_plain_slot slot.mime = true
is_plain_slot slot.file = true
is_plain_slot slot.size = true

-- each key, and each text that all items of the kind have, is visible letters, and no key has a colon
abbrev pub are_plain : List (List ℕ × Slot) → Bool
are_plain slots = list_all (λ s. is_plain s.0 && (not (has 58 s.0) && is_plain_slot s.1)) slots

slot_field : (g : Given) (s : Slot) → is_plain_slot s ≡ true → AreFields g → IsField (text_in g s)
slot_field g (slot.fixed text) h fields = plain text h
slot_field g slot.id h fields = fields.id
slot_field g slot.stamp h fields = fields.stamp
slot_field g slot.parent h fields = fields.parent
slot_field g slot.note h fields = fields.note
slot_field g slot.tag h fields = fields.tag
slot_field g slot.mime h fields = fields.mime
slot_field g slot.file h fields = fields.file
slot_field g slot.size h fields = fields.size

filled_props : (slots : List (List ℕ × Slot)) (g : Given) → are_plain slots ≡ true → AreFields g
    → AllByRecursion IsProp (filled slots g)
filled_props [] g h fields = tt
filled_props (s ∷ slots) g h fields =
    let parts = and_parts (is_plain s.0 && (not (has 58 s.0) && is_plain_slot s.1))
    (are_plain slots) h in
    let key = and_parts (is_plain s.0) (not (has 58 s.0) && is_plain_slot s.1) parts.0 in
    let rest = and_parts (not (has 58 s.0)) (is_plain_slot s.1) key.1 in
    let here : IsProp (pair s.0 (text_in g s.1)) = record {
      key = plain s.0 key.0;
      no_colon = not-true (has 58 s.0) rest.0;
      value = slot_field g s.1 rest.1 fields;
    } in
    (here, filled_props slots g parts.1 fields)

-- what has a number for its kind has a type
type_by : (value : Option (List ℕ)) (n : ℕ) → option_and_then type_number value ≡ Some n
    → MatchOption value ⊥ (λ v. is_type_value v ≡ true)
type_by None n is = absurd (cc)
type_by (Some v) n is =
    elim (cases_Bool (is_type_value v)) [
      | inl digits ↦ digits
      | inr other ↦ absurd (let none = sym (cond-false (is_type_value v) _ _ other) ∙ is in cc)
    ]

-- what a table makes is of this kind and has the id that it is given, and its own texts are plain
pub record IsTable (slots : List (List ℕ × Slot)) (n : ℕ) : Type 0 where
  pub kind : (g : Given) → option_and_then type_number (value_of type_key (filled slots g)) ≡ Some n
  pub id : (g : Given) → value_of (codes "id") (filled slots g) ≡ Some g.id
  pub plain : are_plain slots ≡ true

pub note_table : IsTable note_slots 1
unfolding value_of is_type_value
note_table = record { kind = λ g. refl; id = λ g. refl; plain = refl }

pub folder_table : IsTable (folder_slots (codes "2")) 2
unfolding value_of is_type_value
folder_table = record { kind = λ g. refl; id = λ g. refl; plain = refl }

pub tag_table : IsTable (folder_slots (codes "5")) 5
unfolding value_of is_type_value
tag_table = record { kind = λ g. refl; id = λ g. refl; plain = refl }

pub note_tag_table : IsTable note_tag_slots 6
unfolding value_of is_type_value
note_tag_table = record { kind = λ g. refl; id = λ g. refl; plain = refl }

pub resource_table : IsTable resource_slots 4
unfolding value_of is_type_value
resource_table = record { kind = λ g. refl; id = λ g. refl; plain = refl }

-- an item of the kind, and with the id
pub record IsNew (item : Item) (n : ℕ) (own : List ℕ) : Type 0 where
  pub valid : IsItem item
  pub kind : option_and_then type_number (value_of type_key item.props) ≡ Some n
  pub id : value_of (codes "id") item.props ≡ Some own

-- one lemma for the makers of all kinds
pub is_new : (slots : List (List ℕ × Slot)) (g : Given) (n : ℕ) (item : Item) (id : List ℕ)
    → IsTable slots n
    → item.props ≡ filled slots g → AreFields g → g.id ≡ id
    → IfSome item.title (λ t. has 10 t ≡ false) → IfNone item.title (item.body ≡ [])
    → IsNew item n id
is_new slots g n item id table is fields same one none =
    let P : List Prop → Type 0 = AllByRecursion IsProp in
    let Q : List Prop → Type 0 = HasType in
    let kind : List Prop → Option ℕ = λ ps. option_and_then type_number (value_of type_key ps) in
    record {
      valid = record {
        title = one;
        no_title = none;
        props = subst P (sym is) (filled_props slots g table.plain fields);
        typed = subst Q (sym is) (type_by _ n (table.kind g));
      };
      kind = ap kind is ∙ table.kind g;
      id = ap (value_of (codes "id")) is ∙ table.id g ∙ ap Some same;
    }
