use Rattle.std.proofs.Common.{sym, ap, ◌∙◌, drop, ◌+◌}
use Rattle.dav_wire.specs.TargetStages.{after_bytes}
use Rattle.dav_wire.specs.declared.target_stage.Stage.{Stage}
use Rattle.dav_wire.proofs.StageLemmas.{after_more, after_all}
use Rattle.dav_wire.proofs.target_stage.stage_of.Goals as goal

pub loop-byte-preserved : goal.loop-byte-preserved
loop-byte-preserved c =
    ap (λ (s : Stage). after_bytes s (drop (c.loop-byte.byte-index + 1) c.args.bytes.now))
    c.after_byte-stage.ensures
    ∙ sym (after_more c.loop-byte.stage c.args.bytes.now c.loop-byte.byte-index _
    c.loop-byte-test.true) ∙ c.loop-byte.invariant

pub returns : goal.returns
returns c = sym (after_all c.loop-byte.stage c.args.bytes.now c.loop-byte.byte-index
    c.loop-byte-test.false) ∙ c.loop-byte.invariant
