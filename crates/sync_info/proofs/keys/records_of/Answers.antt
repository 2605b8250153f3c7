use Rattle.std.proofs.Common.{◌≡◌, ◌+◌, ◌++◌, [], ◌∷◌, drop, Some, None, sym, ap, ◌∙◌, arith}
use Rattle.std.proofs.lemmas.Bool.{or_parts}
use Rattle.serde_json.specs.View.{view, items_view}
use Rattle.serde_json.specs.Written.{has_float, items_have_float}
use Rattle.sync_info.specs.Read.{record_of, records_of}
use Rattle.sync_info.proofs.RecordLemmas.{items_from, behind, records_more, no_record}
use Rattle.sync_info.proofs.keys.records_of.Goals as goal

pub record_of-requires : goal.record_of-requires
record_of-requires c =
    let l = c.loop-item in
    let items = c.args.items.now in
    let here = items_from items l.item-index c.item-item.result (omega arith) c.item-item.is in
    let left = items_have_float (items_view (drop (l.item-index + 1) items)) in
    (or_parts (has_float (view c.item-item.result)) left
    (sym (ap items_have_float here) ∙ l.invariant.whole)).0

pub loop-item-preserved : goal.loop-item-preserved
loop-item-preserved c =
    let l = c.loop-item in
    let items = c.args.items.now in
    let d = view c.item-item.result in
    let left = items_view (drop (l.item-index + 1) items) in
    let here = items_from items l.item-index c.item-item.result (omega arith) c.item-item.is in
    let key : record_of d ≡ Some c.in-Some.key = sym c.in_ok-key.ensures ∙ c.in-Some.is in
    let pushed : c.push.new.self ≡ l.keys ++ c.in-Some.key ∷ [] = c.in_ok-push.ensures.ok in
    let so_far = l.invariant.records ∙ ap (λ ds. behind l.keys (records_of ds)) here in
    record {
      records = records_more l.keys c.in-Some.key d left _ key so_far
          ∙ ap (λ keys. behind keys (records_of left)) (sym pushed);
      whole = (or_parts (has_float d) (items_have_float left)
          (sym (ap items_have_float here) ∙ l.invariant.whole)).1;
    }

pub returns-in_default : goal.returns-in_default
returns-in_default c =
    let l = c.loop-item in
    let items = c.args.items.now in
    let d = view c.item-item.result in
    let left = items_view (drop (l.item-index + 1) items) in
    let here = items_from items l.item-index c.item-item.result (omega arith) c.item-item.is in
    let none : record_of d ≡ None = sym c.in_ok-key.ensures ∙ c.in_default.is in
    sym (no_record l.keys d left _ none
    (l.invariant.records ∙ ap (λ ds. behind l.keys (records_of ds)) here))
