use Rattle.std.proofs.Common.{◌≡◌, ap, ◌∙◌}
use Rattle.jed_format.specs.Write.{chunk_text}
use Rattle.new_keys.proofs.Records.{chunk_made, content_opens}
use Rattle.new_keys.specs.Made.{made_chunk}
use Rattle.new_keys.proofs.content.content_of.Goals as goal

pub returns-clause-content : goal.returns-clause-content
returns-clause-content c =
    let is : c.in_ok-chunk.chunk ≡ made_chunk c.args.password.now c.args.bytes.now =
    chunk_made c.args.password.now c.args.bytes.now _ _ c.seal_of-grain.result c.in_ok-chunk.chunk
    c.in_ok-chunk.ensures.sealed c.as_slice.ensures c.digits_of-digits.ensures c.seal_of-grain.ensures in
    c.in_ok-content.ensures.text ∙ ap chunk_text is

pub returns-clause-opens : goal.returns-clause-opens
returns-clause-opens c =
    let is : c.in_ok-chunk.chunk ≡ made_chunk c.args.password.now c.args.bytes.now =
    chunk_made c.args.password.now c.args.bytes.now _ _ c.seal_of-grain.result c.in_ok-chunk.chunk
    c.in_ok-chunk.ensures.sealed c.as_slice.ensures c.digits_of-digits.ensures c.seal_of-grain.ensures in
    content_opens c.args.password.now c.args.bytes.now c.in_ok-content.content c.in_ok-chunk.chunk is
    c.in_ok-content.ensures.reads_back
