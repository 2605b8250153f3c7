use Rattle.std.proofs.Common.{rules}
use Rattle.std.proofs.lemmas.List.Sorted.{answers_always}
use Rattle.dav_listing.proofs.Rises.{stands_before, stands_before-ranks}
use Rattle.dav_listing.proofs.rising.sort.Goals as goal

pub returns-clause-sorted : goal.returns-clause-sorted
returns-clause-sorted c = c.sort_unstable_by.ensures.sorted stands_before stands_before-ranks (answers_always _ _ _ (λ f a r g called. search rules))
