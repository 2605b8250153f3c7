use Rattle.std.specs.Prelude.{◌≡◌, IfOk, List, ℕ}
use Rattle.std.proofs.Common.{subst, sym}
use Rattle.std.specs.String.{string_bytes}
use Rattle.jop_watch.proofs.Logged.{plain_line}
use Rattle.jop_watch.proofs.call_log.line_of.Goals as goal

pub returns-in_default : goal.returns-in_default
returns-in_default c =
    subst (λ (text : List ℕ). IfOk c.format-in_default.result (λ line. string_bytes line ≡ text))
    (sym (plain_line c.args.call.now c.args.reply.now c.in_default.not-Listed))
    c.format-in_default.ensures.ok
