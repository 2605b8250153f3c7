use Rattle.dav_listing.proofs.FewBytes.{keeps_few}
use Rattle.dav_listing.proofs.laws.a_reader_keeps_few_bytes.Goals as goal

pub returns : goal.returns
returns c = keeps_few
