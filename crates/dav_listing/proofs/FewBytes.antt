-- A reader keeps few bytes.
use Rattle.std.proofs.Common.{◌≡◌, refl, arith, ℕ, ◌+◌, ◌≤◌, ◌<◌, List, [], ◌∷◌, ◌++◌, length, Bool, true, false, Option, Some, None, length-append}
use Rattle.std.specs.Prelude.{is_some, not, nat_lt, if◌then◌else◌}
use Rattle.std.proofs.lemmas.Bool.Decides.{nat_tests}
use Rattle.dav_listing.specs.Elements.{element_of}
use Rattle.dav_listing.specs.Lexing.{effect_of, is_xml_blank}
use Rattle.dav_listing.specs.Members.{tell_twice}
use Rattle.dav_listing.specs.Multistatus.{Progress, after_effect, at_first, back_in_text, element_begun, begun_as, byte_on, counted_by, date_ended, done_with, entity_byte, entity_ended, gone_into, gone_wrong, href_ended, is_before_all, kept_bytes, left_from, member_size, named_on, one_on, passed_deeper, progress_behind, progress_of, prolog_ended, propstat_left, reached, response_left, set_for, member_shown, status_ended, text_on, text_size, unmarked, with_kind, wrong_if}
use Rattle.dav_listing.specs.Places.{is_end_of, opening_of, says_by_text}
use Rattle.dav_listing.specs.declared.mode.Mode.{Mode}
use Rattle.dav_listing.specs.declared.mode.Mode.TheVariants as modes
use Rattle.dav_listing.specs.declared.mode.Effect.{Effect}
use Rattle.dav_listing.specs.declared.mode.Effect.TheVariants as effects
use Rattle.dav_listing.specs.declared.multistatus_reader.MultistatusReader.{MultistatusReader}
use Rattle.dav_listing.specs.declared.place.Place.{Place}
use Rattle.dav_listing.specs.declared.place.Place.TheVariants as places
use Rattle.dav_listing.specs.declared.place.Opening.{Opening}
use Rattle.dav_listing.specs.declared.place.Opening.TheVariants as openings

-- the name, the text, the href and the resource at hand have at most so many bytes
record IsSmall (r : MultistatusReader) : Type 0 where
  mark : length r.mark ≤ 64
  text : length r.text ≤ 2048
  href : text_size r.href ≤ 2048
  ended : member_size r.ended ≤ 2048

small_if : (b : Bool) (x y : MultistatusReader) → IsSmall x → IsSmall y
    → IsSmall (if b then x else y)
small_if true x y h k = h
small_if false x y h k = k

wrong : (r : MultistatusReader) → IsSmall r → IsSmall (gone_wrong r)
wrong r h = record { mark = h.mark; text = h.text; href = h.href; ended = h.ended }

in_text : (r : MultistatusReader) → IsSmall r → IsSmall (back_in_text r)
in_text r h = record { mark = h.mark; text = h.text; href = h.href; ended = h.ended }

no_name : (r : MultistatusReader) → IsSmall r → IsSmall (unmarked r)
no_name r h = record { mark = omega arith; text = h.text; href = h.href; ended = h.ended }

wrong_or_not : (b : Bool) (r : MultistatusReader) → IsSmall r → IsSmall (wrong_if b r)
wrong_or_not b r h = small_if b (gone_wrong r) r (wrong r h) h

named_small : (r : MultistatusReader) (mode : Mode) (b : ℕ) → IsSmall r → IsSmall (named_on r mode b)
named_small r mode b h = at (nat_lt (length r.mark) 64) refl
  where
    at : (t : Bool) → nat_lt (length r.mark) 64 ≡ t
        → IsSmall (if t then record r { mode = mode; mark = r.mark ++ b ∷ [] } else gone_wrong r)
    at true e =
        let sum = length-append r.mark (b ∷ []) in
        let less : length r.mark < 64 = grind (arith, nat_tests) in record {
          mark = omega (arith, sum, less);
          text = h.text;
          href = h.href;
          ended = h.ended;
        }
    at false e = wrong r h

said_small : (r : MultistatusReader) (b : ℕ) → IsSmall r
    → IsSmall (if nat_lt (length r.text) 2048
    then record r { mode = modes.Text; text = r.text ++ b ∷ [] } else gone_wrong r)
said_small r b h = at (nat_lt (length r.text) 2048) refl
  where
    at : (t : Bool) → nat_lt (length r.text) 2048 ≡ t
        → IsSmall (if t then record r { mode = modes.Text; text = r.text ++ b ∷ [] }
        else gone_wrong r)
    at true e =
        let sum = length-append r.text (b ∷ []) in
        let less : length r.text < 2048 = grind (arith, nat_tests) in record {
          mark = h.mark;
          text = omega (arith, sum, less);
          href = h.href;
          ended = h.ended;
        }
    at false e = wrong r h

text_small : (r : MultistatusReader) (b : ℕ) → IsSmall r → IsSmall (text_on r b)
text_small r b h =
    small_if (nat_lt 0 r.over) _ _ (in_text r h)
    (small_if (not (says_by_text r.place)) _ _
    (small_if (is_xml_blank b) _ _ (in_text r h) (wrong r h)) (said_small r b h))

byte_small : (r : MultistatusReader) (b : Option ℕ) → IsSmall r → IsSmall (byte_on r b)
byte_small r (Some b) h = text_small r b h
byte_small r None h = wrong r h

entity_small : (r : MultistatusReader) → IsSmall r → IsSmall (entity_ended r)
entity_small r h =
    small_if (nat_lt 0 r.over) _ _ (in_text r h) (byte_small r (entity_byte r.mark) h)

prolog_small : (r : MultistatusReader) → IsSmall r → IsSmall (prolog_ended r)
prolog_small r h = small_if (is_before_all r.place) _ _ (in_text r h) (wrong r h)

-- ---- elements

deeper_small : (r : MultistatusReader) → IsSmall r → IsSmall (passed_deeper r)
deeper_small r h = small_if (nat_lt r.over 100) (record r { over = r.over + 1 }) (gone_wrong r)
    (record { mark = h.mark; text = h.text; href = h.href; ended = h.ended }) (wrong r h)

kind_small : (folder : Bool) (r : MultistatusReader) → IsSmall r → IsSmall (with_kind folder r)
kind_small folder r h = record { mark = h.mark; text = h.text; href = h.href; ended = h.ended }

set_small : (r : MultistatusReader) (place : Place) → IsSmall r → IsSmall (set_for r place)
set_small r places.Response h =
    record { mark = h.mark; text = h.text; href = omega arith; ended = h.ended }
set_small r places.Propstat h =
    record { mark = h.mark; text = h.text; href = h.href; ended = h.ended }
set_small r places.Kind h =
    kind_small false (wrong_if (is_some r.found.folder) r) (wrong_or_not (is_some r.found.folder) r h)
set_small r place h = h

into_small : (r : MultistatusReader) (place : Place) → IsSmall r → IsSmall (gone_into r place)
into_small r place h =
    let s = set_small r place h in
    record { mark = s.mark; text = omega arith; href = s.href; ended = s.ended }

begun_as_small : (r : MultistatusReader) (o : Opening) → IsSmall r → IsSmall (begun_as r o)
begun_as_small r (openings.Enter place) h = into_small r place h
begun_as_small r openings.Collection h =
    deeper_small (with_kind true r) (kind_small true r h)
begun_as_small r openings.Pass h = deeper_small r h
begun_as_small r openings.Lose h = wrong r h

begun_small : (r : MultistatusReader) → IsSmall r → IsSmall (element_begun r)
begun_small r h =
    small_if (nat_lt 0 r.over) _ _ (deeper_small r h)
    (begun_as_small r (opening_of r.place (element_of r.mark)) h)

href_small : (r : MultistatusReader) → IsSmall r → IsSmall (href_ended r)
href_small r h =
    let w = wrong_or_not (is_some r.href) r h in
    record { mark = w.mark; text = omega arith; href = h.text; ended = w.ended }

status_small : (r : MultistatusReader) → IsSmall r → IsSmall (status_ended r)
status_small r h =
    let w = wrong_or_not (is_some r.good) r h in
    record { mark = w.mark; text = omega arith; href = w.href; ended = w.ended }

date_small : (r : MultistatusReader) → IsSmall r → IsSmall (date_ended r)
date_small r h =
    let w = wrong_or_not (is_some r.found.stamp) r h in
    record { mark = w.mark; text = omega arith; href = w.href; ended = w.ended }

left_small : (r : MultistatusReader) → IsSmall r → IsSmall (propstat_left r)
left_small r h = record { mark = h.mark; text = h.text; href = h.href; ended = h.ended }

counted_small : (r : MultistatusReader) (good : Option Bool) → IsSmall r → IsSmall (counted_by r good)
counted_small r None h = wrong (propstat_left r) (left_small r h)
counted_small r (Some false) h = left_small r h
counted_small r (Some true) h =
    let w = wrong_or_not (tell_twice r.props r.found) (propstat_left r) (left_small r h) in
    record { mark = w.mark; text = w.text; href = w.href; ended = w.ended }

response_small : (r : MultistatusReader) → IsSmall r → IsSmall (response_left r)
response_small r h =
    let w = wrong_or_not (not r.told) r h in
    record { mark = w.mark; text = w.text; href = omega arith; ended = w.ended }

shown_small : (r : MultistatusReader) (href : Option (List ℕ)) → text_size href ≤ 2048 → IsSmall r
    → IsSmall (member_shown r href)
shown_small r None short h = wrong (response_left r) (response_small r h)
shown_small r (Some href) short h =
    let s = response_small r h in
    record { mark = s.mark; text = s.text; href = omega arith; ended = short }

left_from_small : (r : MultistatusReader) (place : Place) → IsSmall r → IsSmall (left_from r place)
left_from_small r places.Outside h = wrong r h
left_from_small r places.Multistatus h =
    record { mark = h.mark; text = h.text; href = h.href; ended = h.ended }
left_from_small r places.Response h = shown_small r r.href h.href h
left_from_small r places.Href h = href_small r h
left_from_small r places.Propstat h = counted_small r r.good h
left_from_small r places.Status h = status_small r h
left_from_small r places.Prop h =
    record { mark = h.mark; text = h.text; href = h.href; ended = h.ended }
left_from_small r places.Modified h = date_small r h
left_from_small r places.Kind h =
    record { mark = h.mark; text = h.text; href = h.href; ended = h.ended }
left_from_small r places.Ended h = wrong r h

done_small : (r : MultistatusReader) → IsSmall r → IsSmall (done_with r)
done_small r h =
    small_if (nat_lt 0 r.over) _ _
    (record { mark = h.mark; text = h.text; href = h.href; ended = h.ended })
    (small_if (is_end_of r.place (element_of r.mark)) _ _ (left_from_small r r.place h) (wrong r h))

-- ---- bytes

effect_small : (r : MultistatusReader) (b : ℕ) (effect : Effect) → IsSmall r
    → IsSmall (after_effect r b effect)
effect_small r b (effects.Go mode) h =
    record { mark = h.mark; text = h.text; href = h.href; ended = h.ended }
effect_small r b (effects.Begin mode) h =
    record { mark = omega arith; text = h.text; href = h.href; ended = h.ended }
effect_small r b (effects.Add mode) h = named_small r mode b h
effect_small r b effects.Text h = text_small r b h
effect_small r b effects.Open h = no_name _ (begun_small (back_in_text r) (in_text r h))
effect_small r b effects.Close h = no_name _ (done_small (back_in_text r) (in_text r h))
effect_small r b effects.Empty h =
    no_name _ (done_small (element_begun (back_in_text r)) (begun_small (back_in_text r) (in_text r h)))
effect_small r b effects.Entity h = no_name _ (entity_small r h)
effect_small r b effects.Prolog h = prolog_small r h

one_small : (r : MultistatusReader) (b : ℕ) → IsSmall r → IsSmall (one_on r b)
unfolding one_on
one_small r b h =
    effect_small (record r { ended = None }) b (effect_of r.mode b)
    (record { mark = h.mark; text = h.text; href = h.href; ended = omega arith })

small_after : (p : Progress) (bytes : List ℕ) → IsSmall p.reader
    → IsSmall (progress_behind p bytes).reader
unfolding progress_behind
small_after p [] h = h
small_after p (b ∷ bytes) h =
    small_after (reached p (one_on p.reader b)) bytes (one_small p.reader b h)

pub keeps_few : (body : List ℕ) → kept_bytes (progress_of body).reader < 8192
keeps_few body =
    let s = small_after at_first body
    (record { mark = omega arith; text = omega arith; href = omega arith; ended = omega arith }) in
    omega (arith, s.mark, s.text, s.href, s.ended)
