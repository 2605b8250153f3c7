use Rattle.std.proofs.Common.{◌∙◌, ◌++◌, ◌-◌, ◌<◌, length, sym, subst, drop, List, ℕ, arith}
use Rattle.std.proofs.lemmas.List.{take_rest}
use Rattle.dav_wire.specs.HeadReading.{HeadTells}
use Rattle.reply_reader.proofs.Standing.{bad_in, head_bad, head_goes_on, head_more_to_come, head_told, lasts_in, whole_in, whole_piece, within_piece}
use Rattle.reply_reader.proofs.reply_reader.ReplyReader.feed_head.Goals as goal

pub overflow_sub-len : goal.overflow_sub-len
overflow_sub-len c =
    let n = 16384 - c.len-before.result in
    let part = c.first_bytes-part.result.now in
    let is = c.first_bytes-part.ensures in
    let same = c.as_slice.ensures ∙ c.in_ok-append.ensures.ok in
    let h = head_told c.args.self.now.call c.as_slice.result.now (c.args.kept ++ part)
    c.in_ok-frame.field-0 c.in-Whole.frame c.in-Whole.len c.in-Whole.lasts same c.in-Whole.is
    c.in_ok-frame.ensures in
    omega (
      arith,
      c.len-before.ensures,
      (within_piece c.args.kept c.args.piece.now part n is
          c.args.self.now.call h.0 c.in-Whole.frame c.in-Whole.len c.requires.unfinished.none h.1).0,
    )

pub returns-in-Whole-clause-feeds : goal.returns-in-Whole-clause-feeds
returns-in-Whole-clause-feeds c =
    let n = 16384 - c.len-before.result in
    let part = c.first_bytes-part.result.now in
    let is = c.first_bytes-part.ensures in
    let same = c.as_slice.ensures ∙ c.in_ok-append.ensures.ok in
    let h = head_told c.args.self.now.call c.as_slice.result.now (c.args.kept ++ part)
    c.in_ok-frame.field-0 c.in-Whole.frame c.in-Whole.len c.in-Whole.lasts same c.in-Whole.is
    c.in_ok-frame.ensures in
    λ call asks.
    c.begin.ensures.feeds call (c.args.kept ++ c.args.piece.now) c.in-Whole.len asks
    (subst (λ (t : List ℕ). HeadTells call (c.args.kept ++ c.args.piece.now) t
    c.in-Whole.frame c.in-Whole.len)
    (sym (take_rest c.args.piece.now (c.in-Whole.len - c.len-before.result)))
    (subst (λ (m : ℕ). HeadTells call (c.args.kept ++ c.args.piece.now)
    (drop (c.in-Whole.len - m) c.args.piece.now) c.in-Whole.frame c.in-Whole.len)
    (sym c.len-before.ensures)
    (whole_in c.args.kept c.args.piece.now part n is call c.args.self.now.call h.0
    c.in-Whole.frame c.in-Whole.len c.requires.unfinished.none asks h.1)))
    (lasts_in c.args.kept c.args.piece.now part n is c.in-Whole.lasts h.2)

pub returns-in-More-clause-feeds : goal.returns-in-More-clause-feeds
returns-in-More-clause-feeds c =
    let n = 16384 - c.len-before.result in
    let part = c.first_bytes-part.result.now in
    let is = c.first_bytes-part.ensures in
    let more = head_more_to_come c.args.self.now.call c.as_slice.result.now c.append.new.self
    c.in_ok-frame.field-0 c.as_slice.ensures c.in-More.is c.in_ok-frame.ensures in
    λ call asks.
    head_goes_on call c.args.self.now.call (c.args.kept ++ c.args.piece.now) c.append.new.self
    c.args.self.now.lasts asks
    (whole_piece c.args.kept c.args.piece.now part n is (omega (arith, c.len-before.ensures))
    (subst (λ (t : List ℕ). length t < 16384) c.in_ok-append.ensures.ok more.short)
    ∙ sym c.in_ok-append.ensures.ok)
    more

pub returns-in-Bad-clause-feeds : goal.returns-in-Bad-clause-feeds
returns-in-Bad-clause-feeds c =
    let n = 16384 - c.len-before.result in
    let part = c.first_bytes-part.result.now in
    let is = c.first_bytes-part.ensures in
    let same = c.as_slice.ensures ∙ c.in_ok-append.ensures.ok in
    λ call asks.
    bad_in c.args.kept c.args.piece.now part n is call
    (head_bad c.args.self.now.call c.as_slice.result.now (c.args.kept ++ part)
    c.in_ok-frame.field-0 same c.in-Bad.is c.in_ok-frame.ensures)
