use Rattle.std.proofs.Common.{◌≡◌, [], ◌∷◌, ◌++◌, ap, ◌∙◌, arith, rules}
use Rattle.serde_json.specs.View.{items_view}
use Rattle.sync_info.proofs.JsonLemmas.{records_json-more}
use Rattle.sync_info.proofs.write.records_value.Goals as goal

pub loop-key-preserved : goal.loop-key-preserved
loop-key-preserved c =
    let l = c.loop-key in
    let pushed : c.push.new.self.items ≡ l.items.items ++ c.in_ok-record_value.field-0 ∷ [] =
    search rules in
    ap items_view pushed
    ∙ records_json-more l.items.items c.args.keys.now l.key-index _ c.key-item.result
    (omega arith) c.key-item.is l.invariant c.in_ok-record_value.ensures
