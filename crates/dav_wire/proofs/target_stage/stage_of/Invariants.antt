use Rattle.std.proofs.Common.{◌≡◌, drop}
use Rattle.dav_wire.specs.TargetStages.{after_bytes}
use Rattle.dav_wire.specs.declared.target_stage.Stage.TheVariants.{Blank}
use Rattle.dav_wire.proofs.target_stage.stage_of.Given as goal

abbrev pub invariant-loop-byte : goal.invariant-loop-byte
invariant-loop-byte l = after_bytes l.stage (drop l.byte-index l.bytes) ≡ after_bytes Blank l.bytes
