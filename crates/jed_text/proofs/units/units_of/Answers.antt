use Rattle.std.proofs.Common.{sym, ap, ◌∙◌, map-id}
use Rattle.std.proofs.lemmas.Iterator.{YieldsList-from_chars}
use Rattle.std.proofs.lemmas.Iterator.Consumers.{YieldsList-end}
use Rattle.std.specs.Char.Escape.{encode_utf16}
use Rattle.std.specs.List.{flat_map}
use Rattle.jed_text.specs.Units.{units_of}
use Rattle.jed_text.proofs.Ascii.{units_of-IsAscii}
use Rattle.jed_text.proofs.units.units_of.Goals as goal

pub returns-then-is_ascii : goal.returns-then-is_ascii
returns-then-is_ascii c =
    let low = rw c.if-is_ascii.true at c.is_ascii.ensures in
    c.in_ok-units.ensures ∙ c.as_bytes.ensures.value ∙ sym (units_of-IsAscii c.args.text.now low.cases)

pub returns : goal.returns
unfolding units_of
returns c =
    let end = YieldsList-end (YieldsList-from_chars c.args.text.now c.utf8.text cc) c.loop-letter.yielded _ c.loop-letter.yielded_by _ _ c.in-None.is c.next.ensures.steps in
    c.loop-letter.invariant ∙ ap (flat_map encode_utf16) (sym (map-id c.loop-letter.yielded) ∙ end.0)
