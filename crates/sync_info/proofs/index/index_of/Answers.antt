use Rattle.std.proofs.Common.{◌+◌, ◌-◌, ◌∷◌, ◌≡◌, drop, get_or, arith, sym, ap, ◌∙◌}
use Rattle.sync_info.proofs.KeyLemmas.{from_here, found_more}
use Rattle.sync_info.proofs.index.index_of.Goals as goal

pub loop-i-preserved : goal.loop-i-preserved
loop-i-preserved c = λ id.
    let i = c.loop-i.i in
    let keys = c.args.keys.now in
    let key = c.index-keys-i.result in
    let is = c.index-keys-i.is in
    let next : (i - 1) + 1 ≡ i = omega arith in
    let here = from_here keys (i - 1) key (omega arith) is ∙ ap (λ n. key ∷ drop n keys) next in
    found_more keys (i - 1) key (drop i keys) (get_or keys (i - 1) key).id id _ _
    (omega arith) is here
    (ap (λ k. k.id) (sym is)) (c.loop-i.invariant id) (c.in_ok-insert.ensures.updates.0 id)
