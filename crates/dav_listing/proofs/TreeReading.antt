-- Each text of a multistatus is read as what it says, element by element.
use Rattle.std.proofs.Common.{◌≡◌, ◌∙◌, refl, sym, ap, arith, ℕ, ◌+◌, ◌≤◌, ◌<◌, List, [], ◌∷◌, ◌++◌, length, Bool, true, false, Option, Some, None, append-nil, append_assoc, length-append}
use Rattle.std.specs.Prelude.{◌==◌, codes, not, nat_lt}
use Rattle.std.specs.List.{list_all}
use Rattle.std.proofs.lemmas.Bool.{and_parts, cond-true, cond-false}
use Rattle.std.proofs.lemmas.Bool.Decides.{nat_tests}
use Rattle.dav_listing.specs.Grammar.{ArePassed, text_aside}
use Rattle.dav_listing.specs.Lexing.{is_xml_blank}
use Rattle.dav_listing.specs.Multistatus.{Progress, back_in_text, element_begun, done_with, progress_behind, reached, text_on, unmarked}
use Rattle.dav_listing.specs.Places.{says_by_text}
use Rattle.dav_listing.specs.Tags.{AreLetters, IsLocalName, IsTag, Letter, Passed, Tag, ampersand, apostrophe, are_blank, greater, is_written_letter, less, letter_byte, letter_text, letters_bytes, letters_text, passed_texts, plain, quote, start_tag}
use Rattle.dav_listing.specs.declared.member.Member.{Member}
use Rattle.dav_listing.specs.declared.member.Props.{Props}
use Rattle.dav_listing.specs.declared.mode.Mode.TheVariants as modes
use Rattle.dav_listing.specs.declared.multistatus_reader.MultistatusReader.{MultistatusReader}
use Rattle.dav_listing.specs.declared.place.Place.{Place}
use Rattle.dav_listing.proofs.PassedReading.{entity_reads, over_at, passes_over, text_stepped}
use Rattle.dav_listing.proofs.TagReading.{at_tag, blank_is_not, empty_reads, not_parts, or_parts, start_reads, then_rest}

-- ---- a reader between two tags

-- what a reader knows between two tags
pub record Known : Type 0 where
  pub place : Place
  pub text : List ℕ
  pub href : Option (List ℕ)
  pub props : Props
  pub told : Bool
  pub found : Props
  pub good : Option Bool

abbrev pub knowing : Known → MultistatusReader
knowing k = record {
  mode = modes.Text;
  place = k.place;
  over = 0;
  mark = [];
  text = k.text;
  href = k.href;
  props = k.props;
  told = k.told;
  found = k.found;
  good = k.good;
  ended = None;
}

abbrev pub with_known : List Member → Known → Progress
with_known members k = record { reader = knowing k; members = members }

-- these bytes lead from one to the other
abbrev pub Leads : List Member → Known → List ℕ → Known → Type 0
Leads members k text l = progress_behind (with_known members k) text ≡ with_known members l

pub leads_on : (members : List Member) (k l m : Known) (xs ys : List ℕ) → Leads members k xs l
    → Leads members l ys m → Leads members k (xs ++ ys) m
leads_on members k l m xs ys first later =
    then_rest (with_known members k) (with_known members l) xs ys first ∙ later

pub leads_nowhere : (members : List Member) (k : Known) → Leads members k [] k
unfolding progress_behind
leads_nowhere members k = refl

-- ---- blanks

pub blank_on : (r : MultistatusReader) (b : ℕ) → r.over ≡ 0 → says_by_text r.place ≡ false
    → is_xml_blank b ≡ true → text_on r b ≡ back_in_text r
blank_on r b none says blank =
    cond-false (nat_lt 0 r.over) _ _ (ap (λ (n : ℕ). nat_lt 0 n) none)
    ∙ cond-true (not (says_by_text r.place)) _ _ (ap not says)
    ∙ cond-true (is_xml_blank b) _ _ blank

pub one_blank : (members : List Member) (k : Known) (b : ℕ) → says_by_text k.place ≡ false
    → is_xml_blank b ≡ true → Leads members k (b ∷ []) k
unfolding progress_behind
one_blank members k b says blank =
    text_stepped (with_known members k) (knowing k) b refl (blank_is_not 60 b refl blank)
    (blank_is_not 38 b refl blank)
    ∙ ap (reached (with_known members k)) (blank_on (knowing k) b refl says blank)

pub blanks : (members : List Member) (k : Known) (text : List ℕ) → says_by_text k.place ≡ false
    → are_blank text ≡ true → Leads members k text k
unfolding progress_behind
blanks members k [] says all = refl
blanks members k (b ∷ text) says all =
    let parts = and_parts (is_xml_blank b) (list_all is_xml_blank text) all in
    leads_on members k k k (b ∷ []) text (one_blank members k b says parts.0)
    (blanks members k text says parts.1)

-- ---- text that says something

abbrev with_text : Known → List ℕ → Known
with_text k text = record k { text = text }

said_on : (k : Known) (b : ℕ) → says_by_text k.place ≡ true → length k.text < 2048
    → text_on (knowing k) b ≡ knowing (with_text k (k.text ++ b ∷ []))
said_on k b says short =
    cond-false (not (says_by_text k.place)) _ _ (ap not says)
    ∙ cond-true (nat_lt (length k.text) 2048) _ _ (grind (arith, nat_tests))

-- the same at the end of an entity
said_marked : (k : Known) (name : List ℕ) (b : ℕ) → says_by_text k.place ≡ true
    → length k.text < 2048
    → text_on (record (knowing k) { mode = modes.Entity; mark = name }) b
    ≡ record (knowing (with_text k (k.text ++ b ∷ []))) { mark = name }
said_marked k name b says short =
    cond-false (not (says_by_text k.place)) _ _ (ap not says)
    ∙ cond-true (nat_lt (length k.text) 2048) _ _ (grind (arith, nat_tests))

letter_reads : (members : List Member) (k : Known) (letter : Letter) → says_by_text k.place ≡ true
    → is_written_letter letter ≡ true → length k.text < 2048
    → Leads members k (letter_text letter) (with_text k (k.text ++ letter_byte letter ∷ []))
unfolding progress_behind
letter_reads members k (plain b) says sound short =
    let parts = or_parts (b == 60) (b == 38) (not_parts _ sound) in
    text_stepped (with_known members k) (knowing k) b refl parts.0 parts.1
    ∙ ap (reached (with_known members k)) (said_on k b says short)
letter_reads members k ampersand says sound short =
    entity_reads (with_known members k) (codes "amp") refl (omega arith) refl
    ∙ ap (λ (r : MultistatusReader). reached (with_known members k) (unmarked r))
    (said_marked k (codes "amp") 38 says short)
letter_reads members k less says sound short =
    entity_reads (with_known members k) (codes "lt") refl (omega arith) refl
    ∙ ap (λ (r : MultistatusReader). reached (with_known members k) (unmarked r))
    (said_marked k (codes "lt") 60 says short)
letter_reads members k greater says sound short =
    entity_reads (with_known members k) (codes "gt") refl (omega arith) refl
    ∙ ap (λ (r : MultistatusReader). reached (with_known members k) (unmarked r))
    (said_marked k (codes "gt") 62 says short)
letter_reads members k quote says sound short =
    entity_reads (with_known members k) (codes "quot") refl (omega arith) refl
    ∙ ap (λ (r : MultistatusReader). reached (with_known members k) (unmarked r))
    (said_marked k (codes "quot") 34 says short)
letter_reads members k apostrophe says sound short =
    entity_reads (with_known members k) (codes "apos") refl (omega arith) refl
    ∙ ap (λ (r : MultistatusReader). reached (with_known members k) (unmarked r))
    (said_marked k (codes "apos") 39 says short)

letters_on : (members : List Member) (k : Known) (letters : List Letter) → says_by_text k.place ≡ true
    → list_all is_written_letter letters ≡ true → length k.text + length letters ≤ 2048
    → Leads members k (letters_text letters) (with_text k (k.text ++ letters_bytes letters))
unfolding progress_behind letters_text letters_bytes
letters_on members k [] says sound short =
    ap (λ (t : List ℕ). with_known members (with_text k t)) (sym (append-nil k.text))
letters_on members k (letter ∷ letters) says sound short =
    let parts = and_parts (is_written_letter letter) (list_all is_written_letter letters) sound in
    let next = with_text k (k.text ++ letter_byte letter ∷ []) in
    leads_on members k next (with_text k ((k.text ++ letter_byte letter ∷ []) ++ letters_bytes letters))
    (letter_text letter) (letters_text letters)
    (letter_reads members k letter says parts.0 (omega (arith, short)))
    (letters_on members next letters says parts.1
    (omega (arith, length-append k.text (letter_byte letter ∷ []), short)))
    ∙ ap (λ (t : List ℕ). with_known members (with_text k t))
    (append_assoc k.text (letter_byte letter ∷ []) (letters_bytes letters))

pub letters_lead : (members : List Member) (k : Known) (letters : List Letter)
    → says_by_text k.place ≡ true → k.text ≡ [] → AreLetters letters
    → Leads members k (letters_text letters) (record k { text = letters_bytes letters })
letters_lead members k letters says empty l =
    let none = ap (λ (t : List ℕ). length t) empty in
    letters_on members k letters says l.sound (omega (arith, none, l.short))
    ∙ ap (λ (t : List ℕ). with_known members (with_text k (t ++ letters_bytes letters))) empty

-- ---- elements that are passed over

pub aside_leads : (members : List Member) (k l : Known) (tag : Tag) (name : List ℕ)
    (pieces : Option (List Passed)) → IsTag tag → IsLocalName name → ArePassed pieces
    → element_begun (at_tag (knowing k) name) ≡ record (knowing l) { mark = name; over = 1 }
    → Leads members k (text_aside tag name pieces) l
aside_leads members k l tag name None t n passed begins =
    empty_reads (with_known members k) tag name t n refl
    ∙ ap (λ (r : MultistatusReader). reached (with_known members k) (unmarked (done_with r))) begins
aside_leads members k l tag name (Some pieces) t n passed begins =
    then_rest (with_known members k) (over_at (with_known members l) 1) (start_tag tag name)
    (passed_texts pieces)
    (start_reads (with_known members k) tag name t n refl
    ∙ ap (λ (r : MultistatusReader). reached (with_known members k) (unmarked r)) begins)
    ∙ passes_over (with_known members l) 1 pieces passed

-- what is known where this element is open
abbrev pub inside : Place → List ℕ → Option (List ℕ) → Props → Bool → Props → Option Bool → Known
inside place text href props told found good = record {
  place = place;
  text = text;
  href = href;
  props = props;
  told = told;
  found = found;
  good = good;
}
