use Rattle.std.proofs.Common.{◌≡◌, ◌/◌, ◌%◌, arith, ap, ◌∙◌, to_z, of_z, w8, w16}
use Rattle.std.specs.Prelude.{unsigned_abs}
use Rattle.std.proofs.lemmas.Int.{ints}
use Rattle.item_kinds.specs.Calendar.{date_after}
use Rattle.item_kinds.specs.Times.{two_digits, three_digits, four_digits}
use Rattle.item_kinds.proofs.Stamps.{joined_pieces}
use Rattle.item_kinds.proofs.stamp.stamp.Goals as goal

pub returns : goal.returns
returns c =
    let shown = c.moment_at-moment.ensures in
    let year : unsigned_abs (to_z w16 (of_z w16 c.year.result))
    ≡ (date_after (c.args.time / 86_400_000)).year =
    omega (arith, ints, c.year.ensures, shown.year) in
    let month : unsigned_abs (to_z w8 (of_z w8 c.month.result))
    ≡ (date_after (c.args.time / 86_400_000)).month =
    omega (arith, ints, c.month.ensures, shown.month) in
    let day : unsigned_abs (to_z w8 (of_z w8 c.day.result))
    ≡ (date_after (c.args.time / 86_400_000)).day =
    omega (arith, ints, c.day.ensures, shown.day) in
    let hour : unsigned_abs (to_z w8 (of_z w8 c.hour.result))
    ≡ c.args.time % 86_400_000 / 3_600_000 = omega (arith, ints, c.hour.ensures, shown.hour) in
    let minute : unsigned_abs (to_z w8 (of_z w8 c.minute.result))
    ≡ c.args.time % 86_400_000 / 60_000 % 60 =
    omega (arith, ints, c.minute.ensures, shown.minute) in
    let second : unsigned_abs (to_z w8 (of_z w8 c.second.result))
    ≡ c.args.time % 86_400_000 / 1_000 % 60 =
    omega (arith, ints, c.second.ensures, shown.second) in
    let milli : unsigned_abs (to_z w16 (of_z w16 c.millisecond.result))
    ≡ c.args.time % 86_400_000 % 1_000 =
    omega (arith, ints, c.millisecond.ensures, shown.milli) in
    joined_pieces c.args.time _ _ _ _ _ _ _ (record {
      year = c.four_digits.ensures ∙ ap four_digits year;
      month = c.two_digits.ensures ∙ ap two_digits month;
      day = c.two_digits-2.ensures ∙ ap two_digits day;
      hour = c.two_digits-3.ensures ∙ ap two_digits hour;
      minute = c.two_digits-4.ensures ∙ ap two_digits minute;
      second = c.two_digits-5.ensures ∙ ap two_digits second;
      milli = c.three_digits.ensures ∙ ap three_digits milli;
    })
