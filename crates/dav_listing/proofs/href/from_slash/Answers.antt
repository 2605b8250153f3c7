use Rattle.std.proofs.Common.{sym, ◌∙◌}
use Rattle.dav_listing.proofs.FirstSlash.{from_slash-end, from_slash-here, from_slash-later}
use Rattle.dav_listing.proofs.href.from_slash.Goals as goal

pub returns-then-text-place-eq47 : goal.returns-then-text-place-eq47
returns-then-text-place-eq47 c =
    c.split_at.ensures.back ∙ sym (from_slash-here c.args.text.now c.loop-place.place 0
    c.loop-place-test.true c.if-text-place-eq47.true) ∙ c.loop-place.invariant

pub loop-place-preserved : goal.loop-place-preserved
loop-place-preserved c =
    sym (from_slash-later c.args.text.now c.loop-place.place 0 c.loop-place-test.true
    c.if-text-place-eq47.false) ∙ c.loop-place.invariant

pub returns : goal.returns
returns c =
    sym (from_slash-end c.args.text.now c.loop-place.place c.loop-place-test.false)
    ∙ c.loop-place.invariant
