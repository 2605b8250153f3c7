use Rattle.std.proofs.Common.{◌≡◌, ◌+◌, List, Option, sym, ap, ◌∙◌, drop, arith}
use Rattle.jed_format.specs.declared.sjcl_chunk.SjclChunk.{SjclChunk}
use Rattle.key_records.proofs.Settled.{chunk_end, chunk_from, or_other}
use Rattle.key_records.specs.Reading.{chunk_at}
use Rattle.key_records.proofs.reading.chunk_at.Goals as goal

pub returns-in-Some-clause-chunk : goal.returns-in-Some-clause-chunk
returns-in-Some-clause-chunk c =
    let keys = c.args.keys.now in
    let i = c.loop-known.known-index in
    let id = c.args.id.now in
    sym (c.loop-known.invariant ∙ chunk_from keys i c.known-item.result id (omega arith) c.known-item.is
    ∙ ap (λ (found : Option SjclChunk). or_other found (chunk_at (drop (i + 1) keys) id))
    (sym c.in_ok-chunk.ensures.chunk ∙ c.in-Some.is))

pub loop-known-preserved : goal.loop-known-preserved
loop-known-preserved c =
    let keys = c.args.keys.now in
    let i = c.loop-known.known-index in
    let id = c.args.id.now in
    c.loop-known.invariant ∙ chunk_from keys i c.known-item.result id (omega arith) c.known-item.is
    ∙ ap (λ (found : Option SjclChunk). or_other found (chunk_at (drop (i + 1) keys) id))
    (sym c.in_ok-chunk.ensures.chunk ∙ c.in-None.is)

pub returns-clause-chunk : goal.returns-clause-chunk
returns-clause-chunk c =
    let keys = c.args.keys.now in
    let id = c.args.id.now in
    sym (c.loop-known.invariant ∙ chunk_end keys c.loop-known.known-index id (omega arith))
