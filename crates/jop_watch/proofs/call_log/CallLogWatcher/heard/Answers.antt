use Rattle.std.specs.Prelude.{ℕ, List}
use Rattle.std.proofs.Common.{◌∙◌, inr, subst}
use Rattle.jop_outside.specs.Writing.{WritesAll}
use Rattle.jop_watch.proofs.call_log.CallLogWatcher.heard.Goals as goal

pub returns-in-Ok : goal.returns-in-Ok
returns-in-Ok g c =
    inr (
      c.write_whole.result,
      subst (λ (bytes : List ℕ). WritesAll (g.S.Sink.state c.args.self.now.sink) bytes
          c.write_whole.result (g.S.Sink.state c.write_whole.new.sink))
          (c.as_bytes.ensures.value ∙ c.in-Ok.ensures) c.write_whole.ensures,
    )
