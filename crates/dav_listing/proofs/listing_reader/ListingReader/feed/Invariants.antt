use Rattle.std.proofs.Common.{ℕ, List, take, ◌++◌}
use Rattle.dav_listing.specs.Readers.{HasReadBody, ReadsSame}
use Rattle.dav_listing.proofs.listing_reader.ListingReader.feed.Given as goal

abbrev pub invariant-loop-byte : goal.invariant-loop-byte
invariant-loop-byte l =
    ReadsSame l.fn.self l.self
    × ((body : List ℕ) → HasReadBody l.fn.self body
    → HasReadBody l.self (body ++ take l.byte-index l.piece))
