use Rattle.jed_format.proofs.Lengths.{IsJed-IsBrief}
use Rattle.master_keys.proofs.sealing.written_jed.Goals as goal

pub write_jed-requires : goal.write_jed-requires
write_jed-requires c = IsJed-IsBrief c.args.jed.now c.requires
