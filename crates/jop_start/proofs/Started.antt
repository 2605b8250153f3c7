-- The outside with which a run begins, by other names of what it is made of.
use Rattle.std.specs.Prelude.{◌≡◌, List, [], Option}
use Rattle.std.proofs.Common.{subst}
use Rattle.client.specs.Outside.{OutsideNow}
use Rattle.jop_cli.specs.Run.{RunsAsPromised}
use Rattle.jop_start.specs.Opening.{OpenNow}
use Rattle.jop_start.specs.Starting.{StreamsNow, outside_with}
use Rattle.jop_status.specs.declared.status.Status.{Status}
use Rattle.jop_target.specs.declared.event.Event.{Event}
use Rattle.jop_words.specs.declared.verb.Verb.{Verb}
use Rattle.local_store.specs.declared.change.Change.{Change}

-- when nothing is written down
pub begins_as : (verb : Option Verb) (s same : StreamsNow) (held : OpenNow) (trail : List Event)
    (made : List Change) (status : Status) (after : OutsideNow) → s ≡ same → trail ≡ [] → made ≡ [] →
    RunsAsPromised verb (outside_with s held trail made) status after →
    RunsAsPromised verb (outside_with same held [] []) status after
begins_as verb s same held trail made status after streams unwritten unchanged does =
    let is : outside_with s held trail made ≡ outside_with same held [] [] =
    λ i. outside_with (streams i) held (unwritten i) (unchanged i) in
    subst (λ (o : OutsideNow). RunsAsPromised verb o status after) is does
