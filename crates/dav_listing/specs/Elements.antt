-- The elements of a multistatus that say something of a file (RFC 4918, 14 and 15).
use Rattle.std.specs.Prelude.{ℕ, List, codes, if◌then◌else◌, bytes_eq}
use Rattle.dav_listing.specs.declared.element.Element.{Element}
use Rattle.dav_listing.specs.declared.element.Element.TheVariants.{Multistatus, Response, Href, Propstat, Prop, Status, Modified, Kind, Collection, Other}

-- the element of this local name; upper and lower case differ
abbrev pub element_of : List ℕ → Element
element_of name =
    if bytes_eq name (codes "multistatus") then Multistatus
    else if bytes_eq name (codes "response") then Response
    else if bytes_eq name (codes "href") then Href
    else if bytes_eq name (codes "propstat") then Propstat
    else if bytes_eq name (codes "prop") then Prop
    else if bytes_eq name (codes "status") then Status
    else if bytes_eq name (codes "getlastmodified") then Modified
    else if bytes_eq name (codes "resourcetype") then Kind
    else if bytes_eq name (codes "collection") then Collection else Other
