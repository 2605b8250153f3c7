use Rattle.std.proofs.Common.{◌++◌, [], ◌∷◌, ap, ◌∙◌, arith}
use Rattle.sync_info.specs.Merge.{later_record}
use Rattle.sync_info.proofs.RecordLemmas.{renewed-more}
use Rattle.sync_info.proofs.merging.renewed.Goals as goal

pub loop-key-preserved : goal.loop-key-preserved
loop-key-preserved c =
    let l = c.loop-key in
    let local = c.args.local.now in
    let key = c.key-item.result in
    c.in_ok-push_copy.ensures
    ∙ ap (λ k. l.keys ++ k ∷ [])
    (c.later_record.ensures ∙ ap (λ same. later_record same key) c.record_of-same.ensures)
    ∙ renewed-more local c.args.remote.now l.key-index key l.keys
    (omega arith) c.key-item.is l.invariant
