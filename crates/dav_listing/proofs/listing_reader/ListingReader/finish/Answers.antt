use Rattle.std.proofs.Common.{sym, ◌∙◌}
use Rattle.dav_listing.proofs.Reading.{incomplete_lists_none, none_in_order}
use Rattle.dav_listing.proofs.listing_reader.ListingReader.finish.Goals as goal

pub returns-then-is_complete-clause-none : goal.returns-then-is_complete-clause-none
returns-then-is_complete-clause-none c =
    none_in_order c.args.self c.in_rising_order.result
    (sym c.is_complete.ensures ∙ c.if-is_complete.true) c.in_rising_order.ensures.none

pub returns-else-is_complete-clause-none : goal.returns-else-is_complete-clause-none
returns-else-is_complete-clause-none c =
    incomplete_lists_none c.args.self (sym c.is_complete.ensures ∙ c.if-is_complete.false)
