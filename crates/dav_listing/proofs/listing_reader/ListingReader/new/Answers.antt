use Rattle.std.proofs.Common.{refl}
use Rattle.dav_listing.specs.Multistatus.{progress_behind}
use Rattle.dav_listing.proofs.Reading.{nothing_read}
use Rattle.dav_listing.proofs.listing_reader.ListingReader.new.Goals as goal

pub returns-clause-read : goal.returns-clause-read
unfolding progress_behind
returns-clause-read c = nothing_read _ refl c.new.ensures c.new-2.ensures refl
