-- What the body of a 207 response shows (RFC 4918, 13): read from its first byte to its last, with what was said so
-- far.
use Rattle.std.specs.Prelude.{ℕ, ◌+◌, ◌-◌, ◌*◌, Bool, true, false, ◌&&◌, not, List, [], ◌∷◌, ◌++◌, length, take, drop, codes, Option, Some, None, is_some, option_map, if◌then◌else◌, nat_lt, nat_le, bytes_eq}
use Rattle.httpdate.specs.Date.{parse_secs}
use Rattle.dav_listing.specs.Elements.{element_of}
use Rattle.dav_listing.specs.Lexing.{effect_of, is_xml_blank}
use Rattle.dav_listing.specs.Members.{no_props, tell_twice, told_together}
use Rattle.dav_listing.specs.Places.{is_end_of, opening_of, says_by_text}
use Rattle.dav_listing.specs.declared.member.Member.{Member}
use Rattle.dav_listing.specs.declared.mode.Mode.{Mode}
use Rattle.dav_listing.specs.declared.mode.Mode.TheVariants.{Text, Lost}
use Rattle.dav_listing.specs.declared.mode.Effect.{Effect}
use Rattle.dav_listing.specs.declared.mode.Effect.TheVariants as effects
use Rattle.dav_listing.specs.declared.multistatus_reader.MultistatusReader.{MultistatusReader}
use Rattle.dav_listing.specs.declared.place.Place.{Place}
use Rattle.dav_listing.specs.declared.place.Place.TheVariants.{Outside, Multistatus, Response, Href, Propstat, Status, Prop, Modified, Kind, Ended}
use Rattle.dav_listing.specs.declared.place.Opening.{Opening}
use Rattle.dav_listing.specs.declared.place.Opening.TheVariants.{Enter, Collection, Pass, Lose}

-- ---- at first

-- nothing is read
abbrev pub fresh_reader : MultistatusReader
fresh_reader = record {
  mode = Text;
  place = Outside;
  over = 0;
  mark = [];
  text = [];
  href = None;
  props = no_props;
  told = false;
  found = no_props;
  good = None;
  ended = None;
}

-- ---- names and texts

-- the body is no listing, whatever follows
abbrev pub gone_wrong : MultistatusReader → MultistatusReader
gone_wrong r = record r { mode = Lost }

abbrev pub wrong_if : Bool → MultistatusReader → MultistatusReader
wrong_if broken r = if broken then gone_wrong r else r

abbrev pub back_in_text : MultistatusReader → MultistatusReader
back_in_text r = record r { mode = Text }

-- the name at hand is over
abbrev pub unmarked : MultistatusReader → MultistatusReader
unmarked r = record r { mark = [] }

-- a name has one byte more, of at most 64
abbrev pub named_on : MultistatusReader → Mode → ℕ → MultistatusReader
named_on r mode b =
    if nat_lt (length r.mark) 64
    then record r { mode = mode; mark = r.mark ++ b ∷ [] } else gone_wrong r

-- A text that says something has one byte more, of at most 2,048. Where text says nothing there are blanks alone, and
-- in what is passed over anything.
abbrev pub text_on : MultistatusReader → ℕ → MultistatusReader
text_on r b =
    if nat_lt 0 r.over then back_in_text r
    else if not (says_by_text r.place)
    then (if is_xml_blank b then back_in_text r else gone_wrong r)
    else if nat_lt (length r.text) 2048
    then record r { mode = Text; text = r.text ++ b ∷ [] } else gone_wrong r

-- the byte for which XML's entity of this name stands (XML 1.0, 4.6)
abbrev pub entity_byte : List ℕ → Option ℕ
entity_byte name =
    if bytes_eq name (codes "amp") then Some 38
    else if bytes_eq name (codes "lt") then Some 60
    else if bytes_eq name (codes "gt") then Some 62
    else if bytes_eq name (codes "quot") then Some 34
    else if bytes_eq name (codes "apos") then Some 39 else None

abbrev pub byte_on : MultistatusReader → Option ℕ → MultistatusReader
byte_on r (Some b) = text_on r b
byte_on r None = gone_wrong r

-- an entity is over; one that isn't known is none, but in what is passed over
abbrev pub entity_ended : MultistatusReader → MultistatusReader
entity_ended r =
    if nat_lt 0 r.over then back_in_text r else byte_on r (entity_byte r.mark)

abbrev pub is_before_all : Place → Bool
is_before_all Outside = true
is_before_all place = false

-- a prolog is over, which stands before the first element
abbrev pub prolog_ended : MultistatusReader → MultistatusReader
prolog_ended r = if is_before_all r.place then back_in_text r else gone_wrong r

-- ---- an element begins

-- one more element is passed over, at most 100 within one another
abbrev pub passed_deeper : MultistatusReader → MultistatusReader
passed_deeper r = if nat_lt r.over 100 then record r { over = r.over + 1 } else gone_wrong r

abbrev pub with_kind : Bool → MultistatusReader → MultistatusReader
with_kind folder r = record r { found = record (r.found) { folder = Some folder } }

-- A response and a propstat say nothing at first. What a resource is, is said once in a propstat, and it is no folder
-- before it is called a collection.
abbrev pub set_for : MultistatusReader → Place → MultistatusReader
set_for r Response = record r { href = None; props = no_props; told = false }
set_for r Propstat = record r { found = no_props; good = None }
set_for r Kind = with_kind false (wrong_if (is_some r.found.folder) r)
set_for r place = r

abbrev pub gone_into : MultistatusReader → Place → MultistatusReader
gone_into r place = record (set_for r place) { text = []; place = place }

abbrev pub begun_as : MultistatusReader → Opening → MultistatusReader
begun_as r (Enter place) = gone_into r place
begun_as r Collection = passed_deeper (with_kind true r)
begun_as r Pass = passed_deeper r
begun_as r Lose = gone_wrong r

-- the element of the name at hand begins
abbrev pub element_begun : MultistatusReader → MultistatusReader
element_begun r =
    if nat_lt 0 r.over then passed_deeper r
    else begun_as r (opening_of r.place (element_of r.mark))

-- ---- an element ends

-- whether a status line says that all is well, as `HTTP/1.1 200 OK`
abbrev pub is_well : List ℕ → Bool
is_well text =
    nat_le 12 (length text)
    && (bytes_eq (take 5 text) (codes "HTTP/") && bytes_eq (take 4 (drop 8 text)) (codes " 200"))

-- a response has one href
abbrev pub href_ended : MultistatusReader → MultistatusReader
href_ended r =
    record (wrong_if (is_some r.href) r) { href = Some r.text; text = []; place = Response }

-- a propstat has one status
abbrev pub status_ended : MultistatusReader → MultistatusReader
status_ended r =
    record (wrong_if (is_some r.good) r) {
      good = Some (is_well r.text);
      text = [];
      place = Propstat;
    }

-- the moment of an HTTP date in milliseconds since 1970; a text that is no date tells none
abbrev pub date_moment : List ℕ → Option ℕ
date_moment text = option_map (λ secs. secs * 1000) (parse_secs text)

-- a propstat tells one date at most
abbrev pub date_ended : MultistatusReader → MultistatusReader
date_ended r = record (wrong_if (is_some r.found.stamp) r) {
  found = record (r.found) { stamp = date_moment r.text };
  text = [];
  place = Prop;
}

-- the propstat at hand is over, and counts for nothing so far
abbrev pub propstat_left : MultistatusReader → MultistatusReader
propstat_left r = record r { told = true; found = no_props; good = None; place = Response }

-- What a propstat says counts if its status is good. It has a status, and no two say the same.
abbrev pub counted_by : MultistatusReader → Option Bool → MultistatusReader
counted_by r None = gone_wrong (propstat_left r)
counted_by r (Some false) = propstat_left r
counted_by r (Some true) =
    record (wrong_if (tell_twice r.props r.found) (propstat_left r)) {
      props = told_together r.props r.found;
    }

abbrev pub propstat_ended : MultistatusReader → MultistatusReader
propstat_ended r = counted_by r r.good

-- the response at hand is over
abbrev pub response_left : MultistatusReader → MultistatusReader
response_left r =
    record (wrong_if (not r.told) r) {
      href = None;
      props = no_props;
      told = false;
      place = Multistatus;
    }

abbrev pub member_shown : MultistatusReader → Option (List ℕ) → MultistatusReader
member_shown r None = gone_wrong (response_left r)
member_shown r (Some href) = record (response_left r) {
  ended = Some (record { href = href; props = r.props });
}

-- a response has an href and a propstat, and shows a resource
abbrev pub response_ended : MultistatusReader → MultistatusReader
response_ended r = member_shown r r.href

abbrev pub left_from : MultistatusReader → Place → MultistatusReader
left_from r Outside = gone_wrong r
left_from r Multistatus = record r { place = Ended }
left_from r Response = response_ended r
left_from r Href = href_ended r
left_from r Propstat = propstat_ended r
left_from r Status = status_ended r
left_from r Prop = record r { place = Propstat }
left_from r Modified = date_ended r
left_from r Kind = record r { place = Prop }
left_from r Ended = gone_wrong r

-- the element of the name at hand ends
abbrev pub done_with : MultistatusReader → MultistatusReader
done_with r =
    if nat_lt 0 r.over then record r { over = r.over - 1 }
    else if is_end_of r.place (element_of r.mark) then left_from r r.place else gone_wrong r

-- ---- bytes

abbrev pub after_effect : MultistatusReader → ℕ → Effect → MultistatusReader
after_effect r b (effects.Go mode) = record r { mode = mode }
after_effect r b (effects.Begin mode) = record r { mode = mode; mark = [] }
after_effect r b (effects.Add mode) = named_on r mode b
after_effect r b effects.Text = text_on r b
after_effect r b effects.Open = unmarked (element_begun (back_in_text r))
after_effect r b effects.Close = unmarked (done_with (back_in_text r))
after_effect r b effects.Empty = unmarked (done_with (element_begun (back_in_text r)))
after_effect r b effects.Entity = unmarked (entity_ended r)
after_effect r b effects.Prolog = prolog_ended r

-- one byte further; what ended before is told no more
unfoldable pub one_on : MultistatusReader → ℕ → MultistatusReader
one_on r b = after_effect (record r { ended = None }) b (effect_of r.mode b)

-- ---- a body

-- a reader, and the resources that were shown so far
pub record Progress : Type 0 where
  pub reader : MultistatusReader
  pub members : List Member

abbrev pub at_first : Progress
at_first = record { reader = fresh_reader; members = [] }

abbrev pub shown_more : List Member → Option Member → List Member
shown_more members None = members
shown_more members (Some member) = members ++ member ∷ []

abbrev pub reached : Progress → MultistatusReader → Progress
reached p r = record { reader = r; members = shown_more p.members r.ended }

-- these bytes further
unfoldable pub progress_behind : Progress → List ℕ → Progress
progress_behind p [] = p
progress_behind p (b ∷ bytes) = progress_behind (reached p (one_on p.reader b)) bytes

abbrev pub progress_of : List ℕ → Progress
progress_of body = progress_behind at_first body

-- whether a body may end there
abbrev pub is_whole : Mode → Place → Bool
is_whole Text Ended = true
is_whole mode place = false

abbrev pub members_reached : Progress → Option (List Member)
members_reached p = if is_whole p.reader.mode p.reader.place then Some p.members else None

-- the resources that a body shows, in its order; None if it is no whole multistatus
abbrev pub members_in : List ℕ → Option (List Member)
members_in body = members_reached (progress_of body)

-- ---- what is kept

abbrev pub text_size : Option (List ℕ) → ℕ
text_size None = 0
text_size (Some text) = length text

abbrev pub member_size : Option Member → ℕ
member_size None = 0
member_size (Some member) = length member.href

-- how many bytes a reader keeps of what it has read
abbrev pub kept_bytes : MultistatusReader → ℕ
kept_bytes r = length r.mark + length r.text + text_size r.href + member_size r.ended
