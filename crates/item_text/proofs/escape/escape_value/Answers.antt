use Rattle.std.proofs.Common.{◌≡◌, ◌++◌, List, ℕ, rules, ap, ◌∙◌}
use Rattle.item_text.specs.Escape.{escaped, escaped_byte}
use Rattle.item_text.proofs.Escaped.{escaped_step, escaped_end}
use Rattle.item_text.proofs.escape.escape_value.Goals as goal

pub loop-front-preserved : goal.loop-front-preserved
loop-front-preserved c =
    let h = c.in-Some.ensures in
    let out : c.append-in-Some.new.self ≡ (c.loop-front.out ++ c.in-Some.front.now)
    ++ escaped_byte c.in-Some.byte =
    c.in_ok-append-2.ensures.ok
    ∙ ap (λ (o : List ℕ). o ++ c.escape_of.result.now) c.in_ok-append.ensures.ok
    ∙ ap (λ (o : List ℕ). (c.loop-front.out ++ c.in-Some.front.now) ++ o) c.escape_of.ensures in (
      search rules,
      ap (λ (o : List ℕ). o ++ escaped c.in-Some.after.now) out
          ∙ escaped_step _ _ _ _ _ _ h.0 h.2 c.loop-front.invariant.1,
    )

pub returns : goal.returns
returns c = c.in_ok-append-3.ensures.ok
    ∙ escaped_end c.loop-front.out c.loop-front.rest.now
    (escaped c.args.value.now) c.in_default.ensures c.loop-front.invariant.1
