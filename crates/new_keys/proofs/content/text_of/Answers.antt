use Rattle.new_keys.proofs.Records.{valid_chunk}
use Rattle.new_keys.proofs.content.text_of.Goals as goal

pub write_chunk-requires : goal.write_chunk-requires
write_chunk-requires c = valid_chunk c.args.chunk.now c.requires
