use Rattle.std.proofs.Common.{◌++◌, subst, List, ℕ}
use Rattle.std.proofs.lemmas.List.{take_all}
use Rattle.dav_listing.specs.Readers.{HasReadBody}
use Rattle.dav_listing.proofs.Reading.{fed_on}
use Rattle.dav_listing.proofs.listing_reader.ListingReader.feed.Goals as goal

pub loop-byte-preserved : goal.loop-byte-preserved
loop-byte-preserved c =
    fed_on c.args.self.now c.loop-byte.self c.take_byte.new.self c.args.piece.now
    c.loop-byte.byte-index _ c.loop-byte-test.true c.in_ok-take_byte.ensures c.loop-byte.invariant

pub returns-clause-read : goal.returns-clause-read
returns-clause-read c = λ body read.
    subst (λ (t : List ℕ). HasReadBody c.loop-byte.self (body ++ t))
    (take_all c.loop-byte.byte-index c.args.piece.now c.loop-byte-test.false)
    (c.loop-byte.invariant.1 body read)
