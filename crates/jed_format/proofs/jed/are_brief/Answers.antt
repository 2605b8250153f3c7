use Rattle.std.proofs.Common.{◌≡◌, true, refl, rules, arith}
use Rattle.jed_format.specs.Write.{is_brief}
use Rattle.jed_format.proofs.Lists.{All-take_next, All-whole}
use Rattle.jed_format.proofs.jed.are_brief.Goals as goal

pub loop-chunk-preserved : goal.loop-chunk-preserved
loop-chunk-preserved c =
    let brief : is_brief c.chunk-item.result ≡ true = search rules in
    All-take_next (λ x. is_brief x ≡ true) c.args.chunks.now c.loop-chunk.chunk-index c.chunk-item.result (omega arith)
    c.chunk-item.is c.loop-chunk.invariant brief

pub returns : goal.returns
returns c =
    (λ t. All-whole (λ x. is_brief x ≡ true) c.args.chunks.now c.loop-chunk.chunk-index c.loop-chunk.invariant (omega arith), λ all. refl)
