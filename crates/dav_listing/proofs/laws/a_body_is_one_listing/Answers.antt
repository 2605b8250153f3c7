use Rattle.dav_listing.proofs.OneListing.{body_is_one_listing}
use Rattle.dav_listing.proofs.laws.a_body_is_one_listing.Goals as goal

pub returns : goal.returns
returns c = body_is_one_listing
