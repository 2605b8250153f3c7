-- Which element may stand in which (RFC 4918, 14). What a property says that wasn't asked for is passed over, and so is
-- a type of resource other than a collection; any other element out of its place makes the body no listing.
use Rattle.std.specs.Prelude.{Bool, true, false}
use Rattle.dav_listing.specs.declared.element.Element.{Element}
use Rattle.dav_listing.specs.declared.element.Element.TheVariants as elements
use Rattle.dav_listing.specs.declared.place.Place.{Place}
use Rattle.dav_listing.specs.declared.place.Place.TheVariants.{Outside, Multistatus, Response, Href, Propstat, Status, Prop, Modified, Kind}
use Rattle.dav_listing.specs.declared.place.Opening.{Opening}
use Rattle.dav_listing.specs.declared.place.Opening.TheVariants.{Enter, Collection, Pass, Lose}

-- what it does that an element begins there
abbrev pub opening_of : Place → Element → Opening
opening_of Outside elements.Multistatus = Enter Multistatus
opening_of Multistatus elements.Response = Enter Response
opening_of Response elements.Href = Enter Href
opening_of Response elements.Propstat = Enter Propstat
opening_of Propstat elements.Prop = Enter Prop
opening_of Propstat elements.Status = Enter Status
opening_of Prop elements.Modified = Enter Modified
opening_of Prop elements.Kind = Enter Kind
opening_of Prop element = Pass
opening_of Kind elements.Collection = Collection
opening_of Kind element = Pass
opening_of place element = Lose

-- whether the end of this element ends what it stands in
abbrev pub is_end_of : Place → Element → Bool
is_end_of Multistatus elements.Multistatus = true
is_end_of Response elements.Response = true
is_end_of Href elements.Href = true
is_end_of Propstat elements.Propstat = true
is_end_of Status elements.Status = true
is_end_of Prop elements.Prop = true
is_end_of Modified elements.Modified = true
is_end_of Kind elements.Kind = true
is_end_of place element = false

-- whether text says something there
abbrev pub says_by_text : Place → Bool
says_by_text Href = true
says_by_text Status = true
says_by_text Modified = true
says_by_text place = false
