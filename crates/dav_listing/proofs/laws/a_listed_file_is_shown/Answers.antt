use Rattle.dav_listing.proofs.Listed.{listed_is_shown}
use Rattle.dav_listing.proofs.laws.a_listed_file_is_shown.Goals as goal

pub returns : goal.returns
returns c = listed_is_shown
