use Rattle.dav_listing.proofs.Listed.{shown_is_listed}
use Rattle.dav_listing.proofs.laws.a_shown_file_is_listed.Goals as goal

pub returns : goal.returns
returns c = shown_is_listed
