use Rattle.std.proofs.Common.{rules}
use Rattle.std.proofs.lemmas.List.Sorted.{answers_always}
use Rattle.dav_listing.proofs.Rises.{stands_before, IsRising-tested}
use Rattle.dav_listing.proofs.rising.is_rising.Goals as goal

pub returns : goal.returns
returns c =
    IsRising-tested c.args.entries.now c.is_sorted_by.result (c.is_sorted_by.ensures.cases stands_before (answers_always _ _ _ (λ f a r g called. search rules)))
