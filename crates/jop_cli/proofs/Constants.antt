-- What a command comes to that prints a constant.
use Rattle.std.proofs.Common.{subst, ℕ, List, [], ◌++◌, Some, Ok}
use Rattle.std.proofs.lemmas.List.{append-nil}
use Rattle.client.specs.Outside.{OutsideNow}
use Rattle.jop_cli.proofs.Runs.{acts_emitted, comes_printed}
use Rattle.jop_cli.specs.Commands.{IsConstant}
use Rattle.jop_cli.specs.Run.{Acts, IsFreshOutside}
use Rattle.jop_cli.specs.Worlds.{EmitsTo}
use Rattle.jop_status.specs.declared.status.Status.{Status}
use Rattle.jop_words.specs.declared.verb.Verb.{Verb}

-- a run of it, which prints the text as one piece
pub acts_constant : (verb : Verb) (text : List ℕ) (before after : OutsideNow) (status : Status) →
    IsFreshOutside before → IsConstant verb text → EmitsTo (Ok (text ++ [])) before status after →
    Acts (Some verb) before status after
acts_constant verb text before after status fresh is emits =
    acts_emitted verb before before after (Ok text) status
    (comes_printed verb before text fresh is.idle (is.comes before))
    (subst (λ (t : List ℕ). EmitsTo (Ok t) before status after) (append-nil text) emits)
