use Rattle.dav_listing.proofs.Listed.{listing_is_of_the_folder}
use Rattle.dav_listing.proofs.laws.a_listed_file_is_of_the_folder.Goals as goal

pub returns : goal.returns
returns c = listing_is_of_the_folder
