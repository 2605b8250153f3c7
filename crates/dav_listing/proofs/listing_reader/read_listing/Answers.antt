use Rattle.std.proofs.Common.{[]}
use Rattle.dav_listing.proofs.Reading.{is_found, is_none}
use Rattle.dav_listing.proofs.listing_reader.read_listing.Goals as goal

pub returns-clause-found : goal.returns-clause-found
returns-clause-found c =
    is_found c.args.dir c.args.folder c.args.body.now c.new-reader.result c.feed.new.self c.new-reader.ensures.dir
    c.new-reader.ensures.folder c.in_ok-feed.ensures.same (c.in_ok-feed.ensures.read [] c.new-reader.ensures.read)
    c.finish.result c.finish.ensures.found

pub returns-clause-none : goal.returns-clause-none
returns-clause-none c =
    is_none c.args.dir c.args.folder c.args.body.now c.new-reader.result c.feed.new.self c.new-reader.ensures.dir
    c.new-reader.ensures.folder c.in_ok-feed.ensures.same (c.in_ok-feed.ensures.read [] c.new-reader.ensures.read)
    c.finish.result c.finish.ensures.none
